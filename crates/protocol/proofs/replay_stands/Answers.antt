use Rattle.std.proofs.Common.{arith}
use borrow.Author.Tests.{lt-leb}
use Rattle.protocol.proofs.replay_stands.Goals as goal

pub returns : goal.returns
returns c f n d = ((λ below. lt-leb f n below), (λ again. lt-leb _ _ (omega arith)))
