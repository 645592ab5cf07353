use Rattle.std.proofs.Common.{ap, arith}
use Rattle.sponge.specs.Sponge.{squeezed}
use Rattle.sponge.specs.Output.{output}
use Rattle.sponge.proofs.Waiting.{completed}
use Rattle.sponge.proofs.streaming.Sponge.complete_block.Goals as goal

pub returns : goal.returns
unfolding output
returns c =
    let whole = rw (← c.self.view_is) at c.requires in
    rw (← c.self.view_is) (λ more n. ap (squeezed 136 n) (completed 0x1f c.self.inside.filled c.self.inside.block c.args.head.now c.copy_from_slice.new.self c.self.inside.lanes c.absorb.new.state more (omega arith) whole (omega arith) c.copy_from_slice.ensures.after c.absorb.ensures))
