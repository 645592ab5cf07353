use Rattle.std.proofs.Common.{refl}
use Rattle.frame.specs.Row.{is_small}
use Rattle.protocol.specs.Calls.{hand_verdict, hand_hears_row, gate_verdict, gate_hears_row, hand_does, gate_does}
use Rattle.protocol.specs.World.{after}
use Rattle.protocol.proofs.cases_stand.Goals as goal

pub returns : goal.returns
unfolding after hand_verdict hand_hears_row gate_verdict gate_hears_row hand_does gate_does is_small
returns c = refl
