-- The first word behind a program's name.
use Rattle.std.proofs.Common.{◌≡◌, ℕ, ◌≤◌, List, [], ◌∷◌, map, length, get_or, Bor, ap, arith}
use Rattle.usage.specs.Arguments.{BeginsWith}

pub first_word : (ws : List (Bor (List ℕ))) (w : List ℕ) → 1 ≤ length ws → (get_or ws 0 record { ref_ptr = (0, 0); now = [] }).now ≡ w → BeginsWith (map (λ word. word.now) ws) w
first_word [] w some is = absurd (omega arith)
first_word (v ∷ vs) w some is = (map (λ word. word.now) vs, ap (λ (u : List ℕ). u ∷ map (λ word. word.now) vs) is)
