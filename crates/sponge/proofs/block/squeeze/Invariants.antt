use Rattle.std.proofs.Common.{◌≡◌, ◌-◌, ◌*◌, ◌++◌, length, take}
use Rattle.sponge.specs.Sponge.{squeezed}
use Rattle.sponge.proofs.block.squeeze.Given as goal

-- what is written, with what the lanes still give, is the whole output
abbrev pub invariant-loop-i : goal.invariant-loop-i
invariant-loop-i l = take (136 * l.i) l.out ++ squeezed 136 (length l.initial.out - 136 * l.i) l.lanes ≡ squeezed 136 (length l.initial.out) l.initial.lanes
