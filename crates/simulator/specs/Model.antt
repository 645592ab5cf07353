-- The world that a network stands for.
use Rattle.std.specs.Prelude.{◌≡◌, ◌<◌, List, [], ◌∷◌, ◌++◌, map, reverse, length, Some, None, vec_items, vec_len, vec_capacity, Option, Vec}
use Rattle.protocol.specs.World.{Entry, World}
use Rattle.gateway.specs.declared.gateway.Gateway.{Gateway}
use Rattle.gateway.specs.State.{state_of as gate_state}
use Rattle.handset.specs.declared.handset.Handset.{Handset}
use Rattle.handset.specs.State.{state_of as hand_state}
use Rattle.simulator.specs.declared.log.Line.{Line}
use Rattle.simulator.specs.declared.log.Played.{Played}
use Rattle.simulator.specs.declared.network.Network.{Network}

abbrev pub entry_of : Line → Entry
entry_of l = record { node = l.node; message = l.message }

-- the latest first
abbrev pub entries : {A : Type 0} → Vec Line A → List Entry
entries v = reverse (map entry_of (vec_items v))

abbrev pub world_by : List Gateway → List Handset → (sent delivered : List Entry) → World
world_by gs hs sent delivered = record { gates = map gate_state gs; hands = map hand_state hs; transcript = sent; deliveries = delivered }

abbrev pub world_of : Network → World
world_of n = world_by (vec_items n.gates) (vec_items n.hands) (entries n.sent) (entries n.delivered)

-- there is room for one message more, sent and delivered
abbrev pub HasRoom : Network → Type 0
HasRoom n = (vec_len n.sent < vec_capacity n.sent) × (vec_len n.delivered < vec_capacity n.delivered)

-- ---- what a step tells

abbrev pub added : Option Line → List Entry
added None = []
added (Some l) = entry_of l ∷ []

-- exactly what was added to what was sent and to what was delivered, and the place of the next message
abbrev pub Tells : Played → (before after : World) → Type 0
Tells p w v =
    (p.place ≡ length w.transcript) × (v.transcript ≡ added p.sent ++ w.transcript) × (v.deliveries ≡ added p.delivered ++ w.deliveries)
