-- Words that are written with one space between two are the words of that line.
use Rattle.std.proofs.Common.{◌≡◌, ℕ, ◌^◌, ◌<◌, Bool, true, false, not, ◌&&◌, ◌||◌, eqb, List, [], ◌∷◌, ◌++◌, length, codes, decimal, sym, refl, ap, ◌∙◌, arith}
use Rattle.std.specs.Str.Parse.{digits_value}
use Rattle.std.specs.Char.{is_ascii_digit}
use Rattle.std.specs.Str.{all_ascii_digits}
use Rattle.std.proofs.lemmas.Fmt.{decimal_nonempty, digits_decimal}
use Rattle.std.proofs.lemmas.Str.Parse.{IsNumeralModel, numerals_by_value, tells_all_ascii_digits}
use Rattle.std.proofs.lemmas.List.{append_assoc, append-nil}
use Rattle.std.proofs.lemmas.Bool.{and_from, and_parts}
use Rattle.std.proofs.lemmas.Bool.Decides.{nat_tests}
use Rattle.script.specs.Line.{spaced, starts_blank, words, words_after}
use Rattle.script.proofs.Cuts.{then_some}

-- no byte is a blank, or may be one
abbrev pub solid : List ℕ → Bool
solid [] = true
solid (b ∷ bs) = not (eqb b 32 || (eqb b 9 || eqb b 13)) && solid bs

run : (w u rest : List ℕ) → solid u ≡ true → words_after w (u ++ rest) ≡ words_after (w ++ u) rest
run w [] rest h = ap (λ (l : List ℕ). words_after l rest) (sym (append-nil w))
run w (b ∷ u) rest h =
    let dark : starts_blank (b ∷ (u ++ rest)) ≡ false = grind (arith, nat_tests) in
    rw dark (run (w ++ b ∷ []) u rest (and_parts _ (solid u) h).1 ∙ ap (λ (l : List ℕ). words_after l rest) (append_assoc w (b ∷ []) u))

pub record Whole (w : List ℕ) : Type 0 where
  pub dark : solid w ≡ true
  pub some : 0 < length w

abbrev pub AllWhole : List (List ℕ) → Type 0
AllWhole [] = Unit {0}
AllWhole (w ∷ ws) = Whole w × AllWhole ws

pub words_spaced : (ws : List (List ℕ)) → AllWhole ws → words (spaced ws) ≡ ws
words_spaced [] h = refl
words_spaced (w ∷ []) (h, _) = ap words (sym (append-nil w)) ∙ run [] w [] h.dark ∙ then_some w [] h.some
words_spaced (w ∷ v ∷ ws) (h, hs) =
    run [] w (codes " " ++ spaced (v ∷ ws)) h.dark ∙ then_some w (words (spaced (v ∷ ws))) h.some
    ∙ ap (λ (vs : List (List ℕ)). w ∷ vs) (words_spaced (v ∷ ws) hs)

-- ---- numbers

pub own : IsNumeralModel (λ ds. all_ascii_digits ds ≡ true) (digits_value 10)
own = numerals_by_value _ tells_all_ascii_digits

solid_digits : (w : List ℕ) → all_ascii_digits w ≡ true → solid w ≡ true
solid_digits [] h = refl
solid_digits (b ∷ w) h = and_from _ _ (grind (arith, nat_tests)) (solid_digits w (and_parts (is_ascii_digit b) (all_ascii_digits w) h).1)

pub whole_number : (n : ℕ) → n < 2 ^ 64 → Whole (decimal n)
whole_number n small = record { dark = solid_digits (decimal n) (digits_decimal own n small); some = decimal_nonempty n small }
