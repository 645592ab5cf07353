-- A buffer for the longest message, seen as the bytes that are written to it.
use Rattle.std.specs.Prelude.{◌≡◌, ℕ, ◌-◌, ◌≤◌, List, ◌++◌, length, take, drop, replicate}
use Rattle.std.proofs.Common.{ap, ◌∙◌, sym, arith, length-take-le}
use Rattle.std.proofs.lemmas.List.{take-append-drop}

-- noughts stand behind what is written
pub record IsFilled (bytes : List ℕ) (len : ℕ) : Type 0 where
  pub fits : len ≤ 140
  pub whole : length bytes ≡ 140
  pub noughts : drop len bytes ≡ replicate (140 - len) 0

-- so what is written is all that there is to know
abbrev pub filled : List ℕ → List ℕ
filled x = x ++ replicate (140 - length x) 0

pub length_written : (bytes : List ℕ) (len : ℕ) → IsFilled bytes len → length (take len bytes) ≡ len
length_written bytes len h = length-take-le len bytes (omega (arith, h.fits, h.whole))

pub filled_again : (bytes : List ℕ) (len : ℕ) → IsFilled bytes len → filled (take len bytes) ≡ bytes
filled_again bytes len h =
    ap (λ (n : ℕ). take len bytes ++ replicate (140 - n) 0) (length_written bytes len h)
    ∙ ap (λ (x : List ℕ). take len bytes ++ x) (sym h.noughts)
    ∙ take-append-drop len bytes
