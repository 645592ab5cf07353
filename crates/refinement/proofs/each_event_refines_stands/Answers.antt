use Rattle.refinement.proofs.Kept.{each_event_refines}
use Rattle.refinement.proofs.each_event_refines_stands.Goals as goal

pub returns : goal.returns
returns c = each_event_refines
