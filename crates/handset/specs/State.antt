-- What a handset holds, as the rules have it.
use Rattle.std.specs.Prelude.{take}
use Rattle.protocol.specs.Held.{HandState}
use Rattle.handset.specs.declared.handset.Handset.{Handset}

abbrev pub state_of : Handset → HandState
state_of h = record { draws = h.draws; peers = take h.many h.peers }
