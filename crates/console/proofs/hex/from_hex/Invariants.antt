use Rattle.std.proofs.Common.{length}
use Rattle.console.proofs.Digits.{Sofar}
use Rattle.console.proofs.hex.from_hex.Given as goal

abbrev pub invariant-loop-rest : goal.invariant-loop-rest
invariant-loop-rest l = Sofar l.digits l.octets l.rest

abbrev pub decreases-loop-rest : goal.decreases-loop-rest
decreases-loop-rest l = length l.rest
