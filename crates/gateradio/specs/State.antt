-- What a gate holds over bytes, as the definitions have it.
use Rattle.std.specs.Prelude.{take}
use Rattle.protocol.specs.Held.{GateState}
use Rattle.gateway.specs.State.{state_of}
use Rattle.link.specs.Gates.{GateRing}
use Rattle.gateradio.specs.declared.held.GateLink.{GateLink}

abbrev pub held_in : GateLink → GateState
held_in l = state_of l.end

abbrev pub ring_of : GateLink → GateRing
ring_of l = record { group = l.group; peers = take l.end.many l.keys }
