use Rattle.promise.proofs.Reach.{kept}
use Rattle.promise.proofs.kept_stands.Goals as goal

pub returns : goal.returns
returns c = kept
