-- What an end holds, and how a rule changes one thing of it.
use Rattle.std.specs.Prelude.{ℕ, Bool, false, ◌&&◌, List, replicate, Some, None, Option, ◌==◌}
use Rattle.frame.specs.declared.message.Nonce.{Nonce}
use Rattle.frame.specs.declared.message.Pair.{Pair}
use Rattle.protocol.specs.declared.held.Endpoint.{Endpoint}
use Rattle.protocol.specs.declared.held.GatePeer.{GatePeer}
use Rattle.protocol.specs.declared.held.Handshake.{Handshake}
use Rattle.protocol.specs.declared.held.HandPeer.{HandPeer}

-- ---- nonces and pairs

abbrev pub nonce_of : (kind node index : ℕ) → Nonce
nonce_of k n i = record { kind = k; node = n; index = i }

abbrev pub pair_of : (gate hand : ℕ) → (anonce snonce : Nonce) → Pair
pair_of g h a s = record { gate = g; hand = h; anonce = a; snonce = s }

abbrev pub same_nonce : Nonce → Nonce → Bool
same_nonce x y = x.kind == y.kind && x.node == y.node && x.index == y.index

abbrev pub same_pair : Pair → Pair → Bool
same_pair p q = p.gate == q.gate && p.hand == q.hand && same_nonce p.anonce q.anonce && same_nonce p.snonce q.snonce

-- whether it is there, and this pair
abbrev pub is_this : Pair → Option Pair → Bool
is_this p None = false
is_this p (Some q) = same_pair p q

-- ---- one end of a pairwise key

abbrev pub new_endpoint : Endpoint
new_endpoint = record { offered = None; key = None; send = 0; floor = 0; round = 0 }

abbrev pub with_offered : Option Pair → Endpoint → Endpoint
with_offered o e = record { offered = o; key = e.key; send = e.send; floor = e.floor; round = e.round }

abbrev pub with_key : Option Pair → Endpoint → Endpoint
with_key k e = record { offered = e.offered; key = k; send = e.send; floor = e.floor; round = e.round }

abbrev pub with_send : ℕ → Endpoint → Endpoint
with_send n e = record { offered = e.offered; key = e.key; send = n; floor = e.floor; round = e.round }

abbrev pub with_floor : ℕ → Endpoint → Endpoint
with_floor n e = record { offered = e.offered; key = e.key; send = e.send; floor = n; round = e.round }

abbrev pub with_round : ℕ → Endpoint → Endpoint
with_round n e = record { offered = e.offered; key = e.key; send = e.send; floor = e.floor; round = n }

-- a pair taken into use: nothing is offered, and every count begins anew
abbrev pub installed : Pair → Endpoint
installed p = with_key (Some p) new_endpoint

-- ---- what a handheld holds

abbrev pub new_gate_peer : GatePeer
new_gate_peer = record { end = new_endpoint; group = 0; floor = 0 }

abbrev pub with_gate_end : Endpoint → GatePeer → GatePeer
with_gate_end e x = record { end = e; group = x.group; floor = x.floor }

abbrev pub with_group : ℕ → GatePeer → GatePeer
with_group n x = record { end = x.end; group = n; floor = x.floor }

abbrev pub with_group_floor : ℕ → GatePeer → GatePeer
with_group_floor n x = record { end = x.end; group = x.group; floor = n }

-- how many nonces it drew, and what it holds for each gate
pub record HandState : Type 0 where
  pub draws : ℕ
  pub peers : List GatePeer

abbrev pub with_hand_draws : ℕ → HandState → HandState
with_hand_draws n y = record { draws = n; peers = y.peers }

abbrev pub with_gate_peers : List GatePeer → HandState → HandState
with_gate_peers xs y = record { draws = y.draws; peers = xs }

abbrev pub new_hand : (gates : ℕ) → HandState
new_hand n = record { draws = 0; peers = replicate n new_gate_peer }

-- ---- what a gate holds

abbrev pub new_hand_peer : HandPeer
new_hand_peer = record { end = new_endpoint; handshake = None }

abbrev pub with_hand_end : Endpoint → HandPeer → HandPeer
with_hand_end e x = record { end = e; handshake = x.handshake }

abbrev pub with_handshake : Option Handshake → HandPeer → HandPeer
with_handshake o x = record { end = x.end; handshake = o }

-- how many nonces it drew, its group key and the counter of its next frame to all, and what it holds for each handheld
pub record GateState : Type 0 where
  pub draws : ℕ
  pub group : ℕ
  pub counter : ℕ
  pub peers : List HandPeer

abbrev pub with_gate_draws : ℕ → GateState → GateState
with_gate_draws n y = record { draws = n; group = y.group; counter = y.counter; peers = y.peers }

abbrev pub with_group_key : ℕ → GateState → GateState
with_group_key n y = record { draws = y.draws; group = n; counter = y.counter; peers = y.peers }

abbrev pub with_group_counter : ℕ → GateState → GateState
with_group_counter n y = record { draws = y.draws; group = y.group; counter = n; peers = y.peers }

abbrev pub with_hand_peers : List HandPeer → GateState → GateState
with_hand_peers xs y = record { draws = y.draws; group = y.group; counter = y.counter; peers = xs }

abbrev pub new_gate : (hands : ℕ) → GateState
new_gate n = record { draws = 0; group = 1; counter = 0; peers = replicate n new_hand_peer }
