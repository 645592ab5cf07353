use Rattle.promise.proofs.Once.{never_twice}
use Rattle.promise.proofs.never_twice_stands.Goals as goal

pub returns : goal.returns
returns c = never_twice
