-- Numbers put down behind those of a row.
use Rattle.std.proofs.Common.{◌≡◌, ℕ, zero, suc, ◌+◌, ◌-◌, ◌≤◌, List, [], ◌∷◌, ◌++◌, length, take, drop, replicate, refl, ap, sym, ◌∙◌, arith, length-append, length-drop}
use native.Mathlib.Nat.{sub-zero}
use native.Mathlib.Numerals.{unary_clauses}
use Rattle.std.proofs.Math.Seq.{drop-append-add}
use Rattle.std.proofs.lemmas.List.{length-take-le, take-append-drop, drop-replicate}
use Rattle.std.proofs.lemmas.Slice.{take-put_mid, drop-put_mid}
use borrow.Rule.Slice.PartMut.{put_mid}
use Rattle.frame.specs.Row.{padded}
use Rattle.frame.specs.Places.{length-padded}

none_padded : (k : ℕ) → padded k [] ≡ replicate k 0
none_padded zero = refl
none_padded (suc k) = ap (λ (ys : List ℕ). 0 ∷ ys) (none_padded k)

noughts_behind : (k : ℕ) (xs : List ℕ) → length xs ≤ k → padded k xs ≡ xs ++ replicate (k - length xs) 0
noughts_behind k [] few = none_padded k ∙ ap (λ (n : ℕ). replicate n 0) (sym (sub-zero k))
noughts_behind zero (x ∷ xs) few = let none : ⊥ = omega (arith, few) in absurd none
noughts_behind (suc k) (x ∷ xs) few = simp unary_clauses (ap (λ (ys : List ℕ). x ∷ ys) (noughts_behind k xs (omega (arith, few))))

-- numbers put down behind a row that has room for them
module _
    (row old ns : List ℕ) (len n : ℕ)
    (holds : take len old ≡ row) (few : len ≤ 12) (padding : old ≡ padded 12 (take len old)) (room : length row + n ≤ 12)
    (same : length ns ≡ length (take (len + n - len) (drop len old)))
  where
    abbrev new : List ℕ
    new = put_mid len (len + n - len) old ns

    whole : length old ≡ 12
    whole = ap length padding ∙ length-padded 12 (take len old)

    first : length (take len old) ≡ len
    first = length-take-le len old (omega (arith, whole, few))

    pub fits : len + n ≤ 12
    fits = omega (arith, first, ap length holds, room)

    many : length ns ≡ n
    many = same ∙ length-take-le (len + n - len) (drop len old) (omega (arith, length-drop len old, whole, fits)) ∙ omega arith

    row_longer : take (len + n) new ≡ take len old ++ ns
    row_longer = take-put_mid len (len + n - len) old ns (len + n) (omega (arith, many)) (omega (arith, whole, fits))

    noughts_after : (k : ℕ) → length (take len old) ≡ k → drop (k + n) (take len old ++ replicate (12 - k) 0) ≡ replicate (12 - k - n) 0
    noughts_after k e =
        ap (λ (l : ℕ). drop (l + n) (take len old ++ replicate (12 - k) 0)) (sym e)
        ∙ drop-append-add (take len old) (replicate (12 - k) 0) n
        ∙ drop-replicate n (12 - k) 0

    rest : drop (len + n) new ≡ replicate (12 - len - n) 0
    rest =
        drop-put_mid len (len + n - len) old ns (len + n) (omega arith) (omega (arith, whole, fits)) (omega (arith, many))
        ∙ ap (drop (len + n)) (padding ∙ noughts_behind 12 (take len old) (omega (arith, first, few)) ∙ ap (λ (k : ℕ). take len old ++ replicate (12 - k) 0) first)
        ∙ noughts_after len first

    both : length (take len old ++ ns) ≡ len + n
    both = length-append (take len old) ns ∙ omega (arith, first, many)

    pub padding_stays : new ≡ padded 12 (take (len + n) new)
    padding_stays =
        sym (take-append-drop (len + n) new)
        ∙ ap (λ (ys : List ℕ). ys ++ drop (len + n) new) row_longer
        ∙ ap (λ (ys : List ℕ). (take len old ++ ns) ++ ys) (rest ∙ ap (λ (k : ℕ). replicate k 0) (omega (arith, both)))
        ∙ sym (noughts_behind 12 (take len old ++ ns) (omega (arith, both, fits)))
        ∙ ap (padded 12) (sym row_longer)

    pub holds_more : (more : List ℕ) → ns ≡ more → take (len + n) new ≡ row ++ more
    holds_more more is = row_longer ∙ ap (λ (xs : List ℕ). xs ++ ns) holds ∙ ap (λ (xs : List ℕ). row ++ xs) is
