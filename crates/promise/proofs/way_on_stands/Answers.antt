use Rattle.promise.proofs.Way.{way_on}
use Rattle.promise.proofs.way_on_stands.Goals as goal

pub returns : goal.returns
returns c = way_on
