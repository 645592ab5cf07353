use Rattle.refinement.proofs.Worlds.{refines}
use Rattle.refinement.proofs.refines_stands.Goals as goal

pub returns : goal.returns
returns c = refines
