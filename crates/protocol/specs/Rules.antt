-- What one end does: each rule is a guard and an update of what it holds.
use Rattle.std.specs.Prelude.{◌≡◌, ℕ, ◌+◌, ◌^◌, ◌<◌, ◌≤◌, Bool, false, cond, not, ◌&&◌, ◌||◌, List, [], ◌∷◌, length, replicate, is_some, Some, None, Option, ◌==◌, nat_le, nat_lt, slice_index_or, slice_set}
use Rattle.frame.specs.declared.message.Nonce.{Nonce}
use Rattle.frame.specs.declared.message.Pair.{Pair}
use Rattle.frame.specs.declared.message.Direction.{Direction}
use Rattle.frame.specs.declared.message.Direction.TheVariants.{Up, Down}
use Rattle.frame.specs.declared.message.Message.{Message}
use Rattle.frame.specs.declared.message.Message.TheVariants.{Begin, Reply, Take, Taken, Renew, Load, All}
use Rattle.protocol.specs.declared.acts.HandAct.{HandAct}
use Rattle.protocol.specs.declared.acts.HandAct.TheVariants.{SendUp, ForgetHand}
use Rattle.protocol.specs.declared.acts.GateAct.{GateAct}
use Rattle.protocol.specs.declared.acts.GateAct.TheVariants.{Invite, SendDown, Broadcast, Rotate, Rekey, ForgetGate}
use Rattle.protocol.specs.declared.held.Endpoint.{Endpoint}
use Rattle.protocol.specs.declared.held.GatePeer.{GatePeer}
use Rattle.protocol.specs.declared.held.Handshake.{Handshake}
use Rattle.protocol.specs.declared.held.HandPeer.{HandPeer}
use Rattle.protocol.specs.Held.{nonce_of, pair_of, same_nonce, is_this, with_offered, with_send, with_floor, with_round, installed, new_gate_peer, with_gate_end, with_group, with_group_floor, HandState, with_hand_draws, with_gate_peers, new_hand_peer, with_hand_end, with_handshake, GateState, with_gate_draws, with_group_key, with_group_counter, with_hand_peers}

-- what is held afterwards, what is said, and what is delivered, each in order
pub record Out (A : Type 0) : Type 0 where
  pub held : A
  pub says : List Message
  pub delivers : List Message

abbrev pub quiet : {A : Type 0} → A → Out A
quiet x = record { held = x; says = []; delivers = [] }

abbrev pub saying : {A : Type 0} → A → Message → Out A
saying x m = record { held = x; says = m ∷ []; delivers = [] }

abbrev pub delivering : {A : Type 0} → A → Message → Out A
delivering x m = record { held = x; says = []; delivers = m ∷ [] }

-- the same, of what the part belongs to
abbrev pub within : {A B : Type 0} → (A → B) → Out A → Out B
within put o = record { held = put o.held; says = o.says; delivers = o.delivers }

-- ---- limits

-- nobody draws more nonces, sends more frames under a key, or has more group keys or rounds
abbrev pub limit : ℕ
limit = 2 ^ 48

abbrev pub has_next : ℕ → Bool
has_next n = nat_lt n limit

abbrev pub is_body : ℕ → Bool
is_body b = nat_lt b (2 ^ 49)

-- ---- the replay check

abbrev pub accepts : (floor counter : ℕ) → Bool
accepts f c = nat_le f c

-- the floor once a counter was accepted
abbrev pub past : ℕ → ℕ
past c = c + 1

-- What is below the floor is not accepted, and neither is again what was accepted, or anything below it.
abbrev pub NoReplay : Type 0
NoReplay = (f c d : ℕ) → (c < f → accepts f c ≡ false) × (d ≤ c → accepts (past c) d ≡ false)

-- ---- one end of a pairwise key, at a gate and at a handheld alike

abbrev pub end_hears : Direction → (counter body : ℕ) → Pair → Endpoint → Out Endpoint
end_hears d c b p e = cond (is_this p e.key && accepts e.floor c) (delivering (with_floor (past c) e) (Load d c b p)) (quiet e)

abbrev pub end_sends_by : Option Pair → Direction → (body : ℕ) → Endpoint → Out Endpoint
end_sends_by None d b e = quiet e
end_sends_by (Some p) d b e = cond (is_body b && has_next e.send) (saying (with_send (e.send + 1) e) (Load d e.send b p)) (quiet e)

abbrev pub end_sends : Direction → (body : ℕ) → Endpoint → Out Endpoint
end_sends d b e = end_sends_by e.key d b e

-- ---- a handheld, for one gate

-- word of a group key and of the counter of its next frame: a newer key, or a higher floor of the same
abbrev pub is_news : (group counter : ℕ) → GatePeer → Bool
is_news n c x = nat_lt x.group n || (nat_lt 0 n && x.group == n && nat_lt x.floor c)

abbrev pub learns : (group counter : ℕ) → GatePeer → GatePeer
learns n c x = with_group (cond (is_news n c x) n x.group) (with_group_floor (cond (is_news n c x) c x.floor) x)

abbrev pub hand_begin : Pair → GatePeer → Out GatePeer
hand_begin p x = saying (with_gate_end (with_offered (Some p) x.end) x) (Reply p)

abbrev pub hand_take : (group counter : ℕ) → Pair → GatePeer → Out GatePeer
hand_take n c p x =
    cond (is_this p x.end.offered) (saying (learns n c (with_gate_end (installed p) x)) (Taken p))
    (cond (is_this p x.end.key) (saying x (Taken p))
    (quiet x))

abbrev pub hand_renew : (round group counter : ℕ) → Pair → GatePeer → Out GatePeer
hand_renew r n c p x = cond (is_this p x.end.key && nat_lt x.end.round r) (quiet (learns n c (with_gate_end (with_round r x.end) x))) (quiet x)

abbrev pub hand_load : (counter body : ℕ) → Pair → GatePeer → Out GatePeer
hand_load c b p x = within (λ (e : Endpoint). with_gate_end e x) (end_hears Down c b p x.end)

-- nothing is delivered under group key 0, which is none
abbrev pub hand_all : (gate group counter body : ℕ) → GatePeer → Out GatePeer
hand_all g n c b x =
    cond (is_some x.end.key && nat_lt 0 n && n == x.group && accepts x.floor c) (delivering (with_group_floor (past c) x) (All g n c b)) (quiet x)

abbrev pub hand_send : (body : ℕ) → GatePeer → Out GatePeer
hand_send b x = within (λ (e : Endpoint). with_gate_end e x) (end_sends Up b x.end)

-- ---- a handheld

abbrev pub gate_peer : ℕ → HandState → GatePeer
gate_peer g y = slice_index_or y.peers g new_gate_peer

-- a rule applied to what is held for gate g, if there is such a gate; d nonces are drawn then
abbrev pub hand_at : (d g : ℕ) → (GatePeer → Out GatePeer) → HandState → Out HandState
hand_at d g rule y =
    cond (nat_lt g (length y.peers)) (within (λ (x : GatePeer). with_hand_draws d (with_gate_peers (slice_set y.peers g x) y)) (rule (gate_peer g y))) (quiet y)

abbrev pub hand_begins : (self gate : ℕ) → Nonce → HandState → Out HandState
hand_begins s g a y = cond (has_next y.draws) (hand_at (y.draws + 1) g (hand_begin (pair_of g s a (nonce_of 1 s y.draws))) y) (quiet y)

abbrev pub hand_hears : (self : ℕ) → Message → HandState → Out HandState
hand_hears s (Begin g h a) y = hand_begins s g a y
hand_hears s (Reply p) y = quiet y
hand_hears s (Take n c p) y = hand_at y.draws p.gate (hand_take n c p) y
hand_hears s (Taken p) y = quiet y
hand_hears s (Renew r n c p) y = hand_at y.draws p.gate (hand_renew r n c p) y
hand_hears s (Load Up c b p) y = quiet y
hand_hears s (Load Down c b p) y = hand_at y.draws p.gate (hand_load c b p) y
hand_hears s (All g n c b) y = hand_at y.draws g (hand_all g n c b) y

-- all is forgotten but how many nonces were drawn
abbrev pub hand_forgets : HandState → Out HandState
hand_forgets y = quiet (with_gate_peers (replicate (length y.peers) new_gate_peer) y)

abbrev pub hand_acts : HandAct → HandState → Out HandState
hand_acts (SendUp g b) y = hand_at y.draws g (hand_send b) y
hand_acts ForgetHand y = hand_forgets y

-- ---- a gate, for one handheld

-- the pair answers the handshake that is open
abbrev pub answers : Pair → Option Handshake → Bool
answers p None = false
answers p (Some o) = same_nonce p.anonce o.anonce

abbrev pub gate_invite : (gate hand : ℕ) → Nonce → HandPeer → Out HandPeer
gate_invite g h a x = saying (with_handshake (Some (record { anonce = a })) (with_hand_end (with_offered None x.end) x)) (Begin g h a)

-- n, c: the gate's group key, and the counter of its next frame to all
abbrev pub gate_reply : (group counter : ℕ) → Pair → HandPeer → Out HandPeer
gate_reply n c p x =
    cond (answers p x.handshake && not (is_this p x.end.key)) (saying (with_hand_end (with_offered (Some p) x.end) x) (Take n c p)) (quiet x)

abbrev pub gate_taken : Pair → HandPeer → Out HandPeer
gate_taken p x = cond (is_this p x.end.offered) (quiet (with_handshake None (with_hand_end (installed p) x))) (quiet x)

abbrev pub gate_load : (counter body : ℕ) → Pair → HandPeer → Out HandPeer
gate_load c b p x = within (λ (e : Endpoint). with_hand_end e x) (end_hears Up c b p x.end)

abbrev pub gate_send : (body : ℕ) → HandPeer → Out HandPeer
gate_send b x = within (λ (e : Endpoint). with_hand_end e x) (end_sends Down b x.end)

abbrev pub end_rekeys_by : Option Pair → (group counter : ℕ) → Endpoint → Out Endpoint
end_rekeys_by None n c e = quiet e
end_rekeys_by (Some p) n c e = cond (has_next e.round) (saying (with_round (e.round + 1) e) (Renew (e.round + 1) n c p)) (quiet e)

abbrev pub gate_rekey : (group counter : ℕ) → HandPeer → Out HandPeer
gate_rekey n c x = within (λ (e : Endpoint). with_hand_end e x) (end_rekeys_by x.end.key n c x.end)

-- ---- a gate

abbrev pub hand_peer : ℕ → GateState → HandPeer
hand_peer h y = slice_index_or y.peers h new_hand_peer

-- a rule applied to what is held for handheld h, if there is such a handheld; d nonces are drawn then
abbrev pub gate_at : (d h : ℕ) → (HandPeer → Out HandPeer) → GateState → Out GateState
gate_at d h rule y =
    cond (nat_lt h (length y.peers)) (within (λ (x : HandPeer). with_gate_draws d (with_hand_peers (slice_set y.peers h x) y)) (rule (hand_peer h y))) (quiet y)

abbrev pub gate_hears : Message → GateState → Out GateState
gate_hears (Begin g h a) y = quiet y
gate_hears (Reply p) y = gate_at y.draws p.hand (gate_reply y.group y.counter p) y
gate_hears (Take n c p) y = quiet y
gate_hears (Taken p) y = gate_at y.draws p.hand (gate_taken p) y
gate_hears (Renew r n c p) y = quiet y
gate_hears (Load Up c b p) y = gate_at y.draws p.hand (gate_load c b p) y
gate_hears (Load Down c b p) y = quiet y
gate_hears (All g n c b) y = quiet y

abbrev pub gate_invites : (self hand : ℕ) → GateState → Out GateState
gate_invites g h y = cond (has_next y.draws) (gate_at (y.draws + 1) h (gate_invite g h (nonce_of 0 g y.draws)) y) (quiet y)

abbrev pub gate_broadcasts : (self body : ℕ) → GateState → Out GateState
gate_broadcasts g b y =
    cond (is_body b && has_next y.counter) (saying (with_group_counter (y.counter + 1) y) (All g y.group y.counter b)) (quiet y)

abbrev pub gate_rotates : GateState → Out GateState
gate_rotates y = cond (has_next y.group) (quiet (with_group_key (y.group + 1) (with_group_counter 0 y))) (quiet y)

-- all is forgotten but how many nonces were drawn and group keys there were: the next group key, or, if there is
-- none, a counter at its limit, under which nothing is sent any more
abbrev pub gate_forgets : GateState → Out GateState
gate_forgets y =
    quiet (
    with_group_key (cond (has_next y.group) (y.group + 1) y.group) (
    with_group_counter (cond (has_next y.group) 0 limit) (
    with_hand_peers (replicate (length y.peers) new_hand_peer) y)))

abbrev pub gate_acts : (self : ℕ) → GateAct → GateState → Out GateState
gate_acts g (Invite h) y = gate_invites g h y
gate_acts g (SendDown h b) y = gate_at y.draws h (gate_send b) y
gate_acts g (Broadcast b) y = gate_broadcasts g b y
gate_acts g Rotate y = gate_rotates y
gate_acts g (Rekey h) y = gate_at y.draws h (gate_rekey y.group y.counter) y
gate_acts g ForgetGate y = gate_forgets y
