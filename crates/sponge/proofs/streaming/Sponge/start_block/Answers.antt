use Rattle.std.proofs.Common.{ap, arith}
use Rattle.sponge.specs.Sponge.{absorbed, squeezed}
use Rattle.sponge.specs.Output.{output}
use Rattle.sponge.proofs.Waiting.{put_behind}
use Rattle.sponge.proofs.streaming.Sponge.start_block.Goals as goal

pub returns : goal.returns
unfolding output
returns c =
    rw (← c.self.view_is) (λ more n. ap (λ bytes. squeezed 136 n (absorbed 136 0x1f bytes c.self.inside.lanes)) (put_behind c.self.inside.filled c.self.inside.block c.args.tail.now c.copy_from_slice.new.self more (omega arith) (omega arith) c.copy_from_slice.ensures.after))
