use Rattle.std.proofs.Common.{◌≡◌, ℕ, List, ◌++◌, length}
use Rattle.sponge.specs.Output.{output}
use Rattle.sponge.proofs.streaming.Sponge.absorb.Given as goal

-- absorbing what is left gives what absorbing the whole part would have given
abbrev pub invariant-loop-head : goal.invariant-loop-head
invariant-loop-head l = (more : List ℕ) (n : ℕ) → output l.self (l.rest ++ more) n ≡ output l.initial.self (l.part ++ more) n

abbrev pub decreases-loop-head : goal.decreases-loop-head
decreases-loop-head l = length l.rest
