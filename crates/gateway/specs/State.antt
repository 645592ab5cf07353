-- What a gateway holds, as the rules have it.
use Rattle.std.specs.Prelude.{take}
use Rattle.protocol.specs.Held.{GateState}
use Rattle.gateway.specs.declared.gateway.Gateway.{Gateway}

abbrev pub state_of : Gateway → GateState
state_of p = record { draws = p.draws; group = p.group; counter = p.counter; peers = take p.many p.peers }
