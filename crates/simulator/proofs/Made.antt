-- Ends that are all as they are at first.
use Rattle.std.proofs.Common.{◌≡◌, ℕ, suc, List, [], ◌∷◌, map, length, replicate, refl, ap, ◌∙◌, arith}
use Rattle.std.specs.List.{All}

all_same : {A S : Type 0} (view : A → S) (y : S) (xs : List A) → All (λ x. view x ≡ y) xs → map view xs ≡ replicate (length xs) y
all_same view y [] all = refl
all_same {S = S} view y (x ∷ xs) all =
    ap (λ (z : S). z ∷ map view xs) (all 0 x (omega arith)) ∙ ap (λ (zs : List S). y ∷ zs) (all_same view y xs (λ k d lt. all (suc k) d (omega arith)))

-- n of them
pub made : {A S : Type 0} (view : A → S) (y : S) (xs : List A) (n : ℕ) → length xs ≡ n → All (λ x. view x ≡ y) xs → map view xs ≡ replicate n y
made view y xs n many all = all_same view y xs all ∙ ap (λ (k : ℕ). replicate k y) many
