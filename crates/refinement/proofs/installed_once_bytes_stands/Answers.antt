use Rattle.refinement.proofs.Kept.{installed_once_bytes}
use Rattle.refinement.proofs.installed_once_bytes_stands.Goals as goal

pub returns : goal.returns
returns c = installed_once_bytes
