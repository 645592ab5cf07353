use Rattle.refinement.proofs.Streams.{streams_once}
use Rattle.refinement.proofs.streams_once_stands.Goals as goal

pub returns : goal.returns
returns c = streams_once
