use Rattle.sponge.proofs.Waiting.{ended}
use Rattle.sponge.proofs.streaming.Sponge.squeeze_into.Goals as goal

pub returns : goal.returns
returns c = ended _ _ c.self.inside.filled c.self.inside.block _ _ _ _ c.self.invariant c.pad-last.ensures c.absorb.ensures c.squeeze.ensures c.self.view_is
