-- A session is a plain endpoint whose counters are within their bounds.
use Rattle.std.specs.Prelude.{◌^◌, Bool, ◌&&◌, Some, None, Option, nat_le}
use Rattle.frame.specs.declared.message.Pair.{Pair}
use Rattle.protocol.specs.declared.held.Endpoint.{Endpoint}
use Rattle.protocol.specs.Held.{installed}
use Rattle.endpoint.specs.declared.session.State.{State}
use Rattle.endpoint.specs.declared.session.State.TheVariants.{Nothing, Offered, InUse, Both}
use Rattle.endpoint.specs.declared.session.Session.{Session}

abbrev pub is_bounded : Endpoint → Bool
is_bounded e = nat_le e.send (2 ^ 48) && nat_le e.floor (2 ^ 49) && nat_le e.round (2 ^ 49)

abbrev pub offered_in : State → Option Pair
offered_in Nothing = None
offered_in (Offered o) = Some o.pair
offered_in (InUse p) = None
offered_in (Both o p) = Some o.pair

abbrev pub key_in : State → Option Pair
key_in Nothing = None
key_in (Offered o) = None
key_in (InUse p) = Some p
key_in (Both o p) = Some p

abbrev pub endpoint_of : Session → Endpoint
endpoint_of s = record { offered = offered_in s.state; key = key_in s.state; send = s.send; floor = s.floor; round = s.round }

-- the offer is taken into use, if there is one
abbrev pub installs : Option Pair → Endpoint → Endpoint
installs None e = e
installs (Some p) e = installed p
