use Rattle.promise.proofs.Delivery.{broadcast_once}
use Rattle.promise.proofs.broadcast_once_stands.Goals as goal

pub returns : goal.returns
returns c = broadcast_once
