-- What a handheld holds for one gate: its bounds, and what comes of a step on it.
use Rattle.std.specs.Prelude.{◌≡◌, ℕ, Bool}
use Rattle.protocol.specs.declared.held.GatePeer.{GatePeer}
use Rattle.protocol.specs.Held.{HandState}
use Rattle.protocol.specs.Rules.{Out, hand_at}
use Rattle.endpoint.specs.Session.{is_bounded}
use Rattle.endpoint.specs.declared.effect.Effect.{Effect}
use Rattle.endpoint.specs.Effects.{out_of}
use Rattle.endpoint.specs.Steps.{Follows}

-- its counters are within their bounds
abbrev pub is_bounded_peer : GatePeer → Bool
is_bounded_peer x = is_bounded x.end

-- a step for gate g, if there is such a gate, comes out as each rule has it that the step follows
abbrev pub StepsAt : (step : GatePeer → Effect → GatePeer → Type 0) → (draws g : ℕ) → Effect → (before after : HandState) → Type 0
StepsAt step d g e y z = (rule : GatePeer → Out GatePeer) → Follows is_bounded_peer rule step → out_of e z ≡ hand_at d g rule y
