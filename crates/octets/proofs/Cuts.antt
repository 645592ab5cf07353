-- Bytes are cut by their first.
use Rattle.std.proofs.Common.{◌≡◌, ℕ, ◌≤◌, Bool, true, cond, ◌&&◌, eqb, ltb, List, [], ◌∷◌, length, get_or, Ok, Err, refl, ap, ◌∙◌, arith, le-ltb, eq-eqb}
use Rattle.frame.specs.declared.message.Refusal.TheVariants.{NoRow}
use Rattle.octets.specs.Layout.{layout, widths, total}
use Rattle.octets.specs.Cutting.{cut_kind, cut_as, cut}

pub cut_empty : (x : List ℕ) → length x ≡ 0 → cut x ≡ Err NoRow
unfolding cut
cut_empty [] e = refl
cut_empty (y ∷ ys) e = let none : ⊥ = omega arith in absurd none

pub cut_by : (k : ℕ) (x : List ℕ) → 1 ≤ length x → get_or x 0 0 ≡ k → cut x ≡ cut_as k x
unfolding cut
cut_by k [] some e = let none : ⊥ = omega arith in absurd none
cut_by k (y ∷ ys) some e = ap (λ (j : ℕ). cut_as j (y ∷ ys)) e

pub cut_unknown : (x : List ℕ) → 1 ≤ length x → 7 ≤ get_or x 0 0 → cut x ≡ Err NoRow
cut_unknown x some beyond =
    cut_by (get_or x 0 0) x some refl
    ∙ ap (λ (b : Bool). cond (b && eqb (length x) (total (widths (layout (get_or x 0 0))))) (Ok (cut_kind (get_or x 0 0) x)) (Err NoRow)) (le-ltb (get_or x 0 0) 7 beyond)

pub cut_is : (k : ℕ) (x : List ℕ) → get_or x 0 7 ≡ k → ltb k 7 ≡ true → length x ≡ total (widths (layout k)) → cut x ≡ Ok (cut_kind k x)
unfolding cut
cut_is k x e t l =
    ap (λ (j : ℕ). cut_as j x) e ∙ (λ i. cond (t i && eq-eqb (length x) (total (widths (layout k))) l i) (Ok (cut_kind k x)) (Err NoRow))
