use Rattle.refinement.proofs.Refused.{refused_bytes_are_quiet}
use Rattle.refinement.proofs.refused_bytes_are_quiet_stands.Goals as goal

pub returns : goal.returns
returns c = refused_bytes_are_quiet
