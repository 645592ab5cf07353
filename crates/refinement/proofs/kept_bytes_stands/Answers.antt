use Rattle.refinement.proofs.Kept.{kept_bytes}
use Rattle.refinement.proofs.kept_bytes_stands.Goals as goal

pub returns : goal.returns
returns c = kept_bytes
