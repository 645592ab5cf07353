-- What a gate holds for one handheld: its bounds, and what comes of a step on it.
use Rattle.std.specs.Prelude.{◌≡◌, ℕ, Bool}
use Rattle.protocol.specs.declared.held.HandPeer.{HandPeer}
use Rattle.protocol.specs.Held.{GateState}
use Rattle.protocol.specs.Rules.{Out, gate_at}
use Rattle.endpoint.specs.Session.{is_bounded}
use Rattle.endpoint.specs.declared.effect.Effect.{Effect}
use Rattle.endpoint.specs.Effects.{out_of}
use Rattle.endpoint.specs.Steps.{Follows}

-- its counters are within their bounds
abbrev pub is_bounded_peer : HandPeer → Bool
is_bounded_peer x = is_bounded x.end

-- a step for handheld h, if there is such a handheld, comes out as each rule has it that the step follows
abbrev pub StepsAt : (step : HandPeer → Effect → HandPeer → Type 0) → (draws h : ℕ) → Effect → (before after : GateState) → Type 0
StepsAt step d h e y z = (rule : HandPeer → Out HandPeer) → Follows is_bounded_peer rule step → out_of e z ≡ gate_at d h rule y
