use Rattle.promise.proofs.Way.{way_open}
use Rattle.promise.proofs.way_open_stands.Goals as goal

pub returns : goal.returns
returns c = way_open
