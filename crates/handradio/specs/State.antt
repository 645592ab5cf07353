-- What a handheld holds over bytes, as the definitions have it.
use Rattle.std.specs.Prelude.{List, take}
use Rattle.protocol.specs.Held.{HandState}
use Rattle.handset.specs.State.{state_of}
use Rattle.link.specs.declared.keys.GateKeys.{GateKeys}
use Rattle.handradio.specs.declared.held.HandLink.{HandLink}

abbrev pub held_in : HandLink → HandState
held_in l = state_of l.end

abbrev pub ring_of : HandLink → List GateKeys
ring_of l = take l.end.many l.keys
