-- A row whose numbers are below 2^49, number by number.
use Rattle.std.proofs.Common.{◌≡◌, ℕ, ◌^◌, Bool, true, false, ◌&&◌, ltb, List, [], ◌∷◌, refl, ap, arith}
use Rattle.std.specs.List.{list_all}
use Rattle.frame.specs.Row.{is_small}

pub and_left : (a b : Bool) → (a && b) ≡ true → a ≡ true
and_left true b e = refl
and_left false b e = e

pub and_right : (a b : Bool) → (a && b) ≡ true → b ≡ true
and_right true b e = e
and_right false b e = grind arith

-- as std's test of all elements has it
pub all_small : (row : List ℕ) → list_all (λ x. ltb x (2 ^ 49)) row ≡ is_small row
unfolding is_small
all_small [] = refl
all_small (x ∷ row) = ap (λ (b : Bool). ltb x (2 ^ 49) && b) (all_small row)

pub small_first : (x : ℕ) (xs : List ℕ) → is_small (x ∷ xs) ≡ true → ltb x (2 ^ 49) ≡ true
unfolding is_small
small_first x xs h = and_left (ltb x (2 ^ 49)) (is_small xs) h

pub small_rest : (x : ℕ) (xs : List ℕ) → is_small (x ∷ xs) ≡ true → is_small xs ≡ true
unfolding is_small
small_rest x xs h = and_right (ltb x (2 ^ 49)) (is_small xs) h
