-- What an end hands on of a message that is delivered: whom it is from, and its body.
use Rattle.std.specs.Prelude.{Some, None, Option}
use Rattle.frame.specs.declared.message.Message.{Message}
use Rattle.frame.specs.declared.message.Message.TheVariants.{Begin, Reply, Take, Taken, Renew, Load, All}
use Rattle.console.specs.declared.delivery.Delivery.{Delivery}

-- to a handheld, a load and a frame to all come from a gate
abbrev pub delivered_at_hand : Message → Option Delivery
delivered_at_hand (Begin g h n) = None
delivered_at_hand (Reply p) = None
delivered_at_hand (Take n c p) = None
delivered_at_hand (Taken p) = None
delivered_at_hand (Renew r n c p) = None
delivered_at_hand (Load d c b p) = Some (record { peer = p.gate; body = b })
delivered_at_hand (All g n c b) = Some (record { peer = g; body = b })

-- to a gate, a load comes from a handheld
abbrev pub delivered_at_gate : Message → Option Delivery
delivered_at_gate (Begin g h n) = None
delivered_at_gate (Reply p) = None
delivered_at_gate (Take n c p) = None
delivered_at_gate (Taken p) = None
delivered_at_gate (Renew r n c p) = None
delivered_at_gate (Load d c b p) = Some (record { peer = p.hand; body = b })
delivered_at_gate (All g n c b) = None
