-- A round more, and none left.
use Rattle.std.proofs.Common.{◌≡◌, ℕ, ◌+◌, ◌<◌, ◌≤◌, List, get_or, drop, sym}
use Rattle.std.proofs.lemmas.List.{at_drop_more, at_drop_all}
use Rattle.keccak.specs.Permutation.{Rnd, rounds, constants}

pub rounds_more : (i : ℕ) (A : List ℕ) → i < 24 → rounds (drop (i + 1) constants) (Rnd (get_or constants i 0) A) ≡ rounds (drop i constants) A
unfolding rounds
rounds_more i A h = sym (at_drop_more (λ RCs. rounds RCs A) constants i 0 h)

pub rounds_all : (i : ℕ) (A : List ℕ) → 24 ≤ i → rounds (drop i constants) A ≡ A
unfolding rounds
rounds_all i A h = at_drop_all (λ RCs. rounds RCs A) constants i h
