use Rattle.std.proofs.Common.{◌≡◌, drop}
use Rattle.keccak.specs.Permutation.{rounds, constants}
use Rattle.keccak.proofs.keccak_f.Given as goal

-- what the rounds still to come make of the lanes is what all make of the state
abbrev pub invariant-loop-constant : goal.invariant-loop-constant
invariant-loop-constant l = rounds (drop l.constant-index constants) l.lanes ≡ rounds constants l.initial.lanes
