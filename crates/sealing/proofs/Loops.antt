-- Steps of the loops over bytes.
use Rattle.std.proofs.Common.{inl, inr, ◌≡◌, ℕ, suc, ◌+◌, ◌<◌, ◌≤◌, Bool, false, ◌&&◌, eqb, List, [], ◌∷◌, ◌++◌, length, get_or, take, drop, set, sym, refl, ap, ◌∙◌, append_assoc, add-one, arith, drop_of_length-le, drop-cons, take-suc-set, drop-set-lt}
use lib.Bits.{bit_or, bit_xor, or_add_and, and_le_l, and_le_r, xor_assoc, xor_self, xor_zero_r}
use Rattle.std.proofs.Math.Bool.{and_assoc, and-true}
use Rattle.std.proofs.lemmas.Bool.{cases_Bool, and_parts, and_from, and_right, both_ways, eqb-true, eq-eqb, ne_eqb}
use Rattle.std.proofs.lemmas.List.{take-append-drop}
use Rattle.sealing.specs.Seal.{cover, same_bytes}

-- ---- covering

-- the next byte, and the next of the keystream
pub cover_more : (out s : List ℕ) (i : ℕ) (r : List ℕ) → i < length out → take i out ++ cover (drop i out) s ≡ r →
    take (i + 1) (set out i (bit_xor (get_or out i 0) (get_or s 0 0))) ++ cover (drop (i + 1) (set out i (bit_xor (get_or out i 0) (get_or s 0 0)))) (drop 1 s) ≡ r
unfolding cover
cover_more out s i r h e =
    let v : ℕ = bit_xor (get_or out i 0) (get_or s 0 0) in
    let f : take (i + 1) (set out i v) ≡ take i out ++ (v ∷ []) = ap (λ (k : ℕ). take k (set out i v)) (add-one i) ∙ take-suc-set out i v h in
    let g : drop (i + 1) (set out i v) ≡ drop (suc i) out = drop-set-lt (i + 1) out i v (omega arith) ∙ ap (λ (k : ℕ). drop k out) (add-one i) in
    (λ k. f k ++ cover (g k) (drop 1 s))
    ∙ append_assoc (take i out) (v ∷ []) (cover (drop (suc i) out) (drop 1 s))
    ∙ ap (λ (l : List ℕ). take i out ++ cover l s) (sym (drop-cons out i 0 h))
    ∙ e

-- where the keystream has ended, the text stays
uncovered : (xs : List ℕ) → cover xs [] ≡ xs
unfolding cover
uncovered [] = refl
uncovered (x ∷ xs) = λ i. xor_zero_r x i ∷ uncovered xs i

pub cover_ended : (out s : List ℕ) (i : ℕ) (r : List ℕ) → length s ≡ 0 → take i out ++ cover (drop i out) s ≡ r → out ≡ r
cover_ended out [] i r none e =
    sym (take-append-drop i out) ∙ ap (λ (l : List ℕ). take i out ++ l) (sym (uncovered (drop i out))) ∙ e
cover_ended out (x ∷ s) i r none e = let not : ⊥ = omega arith in absurd not

pub cover_all : (out s : List ℕ) (i : ℕ) (r : List ℕ) → length out ≤ i → take i out ++ cover (drop i out) s ≡ r → out ≡ r
unfolding cover
cover_all out s i r h e =
    let none = drop_of_length-le out {i = i} h in
    sym (take-append-drop i out) ∙ ap (λ (l : List ℕ). take i out ++ l) (none ∙ ap (λ (l : List ℕ). cover l s) (sym none)) ∙ e

-- ---- comparing

xor_none : (a b : ℕ) → bit_xor a b ≡ 0 → a ≡ b
xor_none a b e = sym (xor_zero_r a) ∙ ap (bit_xor a) (sym (xor_self b)) ∙ sym (xor_assoc a b b) ∙ ap (λ (k : ℕ). bit_xor k b) e

or_none : (d a b : ℕ) → eqb (bit_or d (bit_xor a b)) 0 ≡ (eqb d 0 && eqb a b)
or_none d a b =
    elim (cases_Bool (eqb d 0 && eqb a b)) [
      | inl t ↦
          let p = and_parts (eqb d 0) (eqb a b) t in
          eq-eqb _ 0 ((λ k. bit_or (eqb-true d 0 p.0 k) (bit_xor (eqb-true a b p.1 k) b)) ∙ xor_self b) ∙ sym t
      | inr f ↦
          ne_eqb _ 0
          (λ e.
          let s = or_add_and d (bit_xor a b) in
          let l = and_le_l d (bit_xor a b) in
          let r = and_le_r d (bit_xor a b) in
          both_ways _ f (and_from (eqb d 0) (eqb a b) (eq-eqb d 0 (omega arith)) (eq-eqb a b (xor_none a b (omega arith)))))
          ∙ sym f
    ]

-- one more byte of each
pub same_more : (x y d : ℕ) (xs ys : List ℕ) → (eqb d 0 && same_bytes (x ∷ xs) (y ∷ ys)) ≡ (eqb (bit_or d (bit_xor x y)) 0 && same_bytes xs ys)
same_more x y d xs ys =
    sym (and_assoc (eqb d 0) (eqb x y) (same_bytes xs ys)) ∙ ap (λ (b : Bool). b && same_bytes xs ys) (sym (or_none d x y))

pub same_all : (d : ℕ) (xs ys : List ℕ) → length xs ≡ 0 → length ys ≡ 0 → (eqb d 0 && same_bytes xs ys) ≡ eqb d 0
same_all d [] [] e h = and-true (eqb d 0)
same_all d [] (y ∷ ys) e h = let none : ⊥ = omega arith in absurd none
same_all d (x ∷ xs) ys e h = let none : ⊥ = omega arith in absurd none

pub other_length : (xs ys : List ℕ) → (length xs ≡ length ys → ⊥) → same_bytes xs ys ≡ false
other_length [] [] h = absurd (h refl)
other_length [] (y ∷ ys) h = refl
other_length (x ∷ xs) [] h = refl
other_length (x ∷ xs) (y ∷ ys) h = and_right (eqb x y) (same_bytes xs ys) (other_length xs ys (λ e. h (ap suc e)))
