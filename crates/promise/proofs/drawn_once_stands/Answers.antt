use Rattle.promise.proofs.Once.{drawn_once}
use Rattle.promise.proofs.drawn_once_stands.Goals as goal

pub returns : goal.returns
returns c = drawn_once
