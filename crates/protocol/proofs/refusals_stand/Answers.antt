use Rattle.std.proofs.Common.{Option, ap}
use Rattle.frame.specs.Row.{message_of}
use Rattle.frame.specs.declared.message.Refusal.{Refusal}
use Rattle.protocol.specs.Rules.{hand_hears, gate_hears}
use Rattle.protocol.specs.Calls.{unless, hand_hears_row, gate_hears_row}
use Rattle.protocol.proofs.refusals_stand.Goals as goal

pub returns : goal.returns
unfolding hand_hears_row gate_hears_row
returns c g s row genuine r = (
  (λ y e. ap (λ (v : Option Refusal). unless v y (hand_hears s (message_of row) y)) e),
  (λ y e. ap (λ (v : Option Refusal). unless v y (gate_hears (message_of row) y)) e),
)
