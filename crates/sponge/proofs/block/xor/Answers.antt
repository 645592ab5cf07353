use Rattle.std.proofs.Common.{arith}
use Rattle.sponge.proofs.Lanes.{mixed_more}
use Rattle.sponge.proofs.block.xor.Goals as goal

pub loop-i-preserved : goal.loop-i-preserved
loop-i-preserved c = mixed_more _ _ _ _ _ _ c.lane.ensures c.as_chunks.ensures.front (omega arith) (omega arith) c.loop-i.invariant
