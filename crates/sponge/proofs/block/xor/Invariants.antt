use Rattle.sponge.proofs.Lanes.{Mixed}
use Rattle.sponge.proofs.block.xor.Given as goal

abbrev pub invariant-loop-i : goal.invariant-loop-i
invariant-loop-i l = Mixed l.block l.initial.lanes l.i l.lanes
