use Rattle.promise.proofs.Keys.{one_key}
use Rattle.promise.proofs.one_key_stands.Goals as goal

pub returns : goal.returns
returns c = one_key
