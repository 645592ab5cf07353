use Rattle.promise.proofs.Once.{installed_once}
use Rattle.promise.proofs.installed_once_stands.Goals as goal

pub returns : goal.returns
returns c = installed_once
