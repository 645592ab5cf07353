-- The n-th of a list's chunks.
use Rattle.std.proofs.Common.{◌≡◌, ℕ, zero, suc, ◌+◌, ◌*◌, ◌/◌, ◌<◌, true, false, leb, ltb, List, length, get_or, take, drop, Option, Some, None, Bor, IfSome, sym, refl, ap, ◌∙◌, arith, drop-drop, le-leb, ltb-true}
use borrow.Author.Tests.{lt-leb, ltb-false}
use Rattle.std.specs.Option.{is_some, option_copied}
use Rattle.std.specs.Simd.{first_chunks}

length-first_chunks : (w k : ℕ) (x : List ℕ) → length (first_chunks w k x) ≡ k
length-first_chunks w zero x = refl
length-first_chunks w (suc k) x = ap suc (length-first_chunks w k (drop w x))

get_or-first_chunks : (w k n : ℕ) (x d : List ℕ) → n < k → get_or (first_chunks w k x) n d ≡ take w (drop (w * n) x)
get_or-first_chunks w zero n x d h = let none : ⊥ = omega arith in absurd none
get_or-first_chunks w (suc k) zero x d h =
    let none : 0 ≡ w * 0 = omega arith in ap (λ (i : ℕ). take w (drop i x)) none
get_or-first_chunks w (suc k) (suc n) x d h =
    let more : w + w * n ≡ w * suc n = omega arith in
    get_or-first_chunks w k n (drop w x) d (omega arith)
    ∙ ap (take w) (drop-drop (w * n) w x ∙ ap (λ (i : ℕ). drop i x) more)

-- what there is of the n-th 21 bytes
abbrev pub Nth : List ℕ → ℕ → Option (List ℕ) → Type 0
Nth x n (Some e) = (leb (21 * n + 21) (length x) ≡ true) × (e ≡ take 21 (drop (21 * n) x))
Nth x n None = leb (21 * n + 21) (length x) ≡ false

pub nth_chunk : (x : List ℕ) (n : ℕ) (chunks : List (List ℕ)) (r : Option (Bor (List ℕ))) → chunks ≡ first_chunks 21 (length x / 21) x →
    is_some r ≡ ltb n (length chunks) → IfSome r (λ e. e.now ≡ get_or chunks n e.now) → Nth x n (option_copied r)
nth_chunk x n chunks (Some e) all there same =
    let long = ap length all ∙ length-first_chunks 21 (length x / 21) x in
    let h : n < length x / 21 = omega (arith, long, ltb-true n (length chunks) (sym there)) in (
      le-leb _ _ (omega arith),
      same ∙ ap (λ (xs : List (List ℕ)). get_or xs n e.now) all ∙ get_or-first_chunks 21 (length x / 21) n x e.now h,
    )
nth_chunk x n chunks None all there same =
    let long = ap length all ∙ length-first_chunks 21 (length x / 21) x in
    lt-leb _ _ (omega (arith, long, ltb-false n (length chunks) (sym there)))
