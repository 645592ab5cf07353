use Rattle.std.proofs.Common.{◌≡◌, ◌*◌, length, take}
use Rattle.sponge.specs.Sponge.{trunc}
use Rattle.sponge.proofs.block.read.Given as goal

abbrev pub invariant-loop-i : goal.invariant-loop-i
invariant-loop-i l = (length l.block ≡ 136) × (take (8 * l.i) l.block ≡ trunc l.i l.lanes)
