use Rattle.refinement.proofs.Idle.{nothing_without_key}
use Rattle.refinement.proofs.nothing_without_key_stands.Goals as goal

pub returns : goal.returns
returns c = nothing_without_key
