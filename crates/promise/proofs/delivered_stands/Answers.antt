use Rattle.promise.proofs.Delivery.{delivered}
use Rattle.promise.proofs.delivered_stands.Goals as goal

pub returns : goal.returns
returns c = delivered
