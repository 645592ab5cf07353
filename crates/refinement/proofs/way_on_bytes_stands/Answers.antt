use Rattle.refinement.proofs.Way.{way_on_bytes}
use Rattle.refinement.proofs.way_on_bytes_stands.Goals as goal

pub returns : goal.returns
returns c = way_on_bytes
