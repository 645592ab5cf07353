-- Cases, as one table: what is sent and delivered, and what is in use afterwards. One gate, one handheld, both number 0.
use Rattle.std.specs.Prelude.{◌≡◌, ℕ, ◌-◌, ◌^◌, Bool, true, false, ◌&&◌, List, [], ◌∷◌, ◌++◌, reverse, Some, None, Option, ◌==◌}
use Rattle.frame.specs.declared.message.Node.{Node}
use Rattle.frame.specs.declared.message.Node.TheVariants.{Gate, Hand}
use Rattle.frame.specs.declared.message.Nonce.{Nonce}
use Rattle.frame.specs.declared.message.Pair.{Pair}
use Rattle.frame.specs.declared.message.Direction.TheVariants.{Up, Down}
use Rattle.frame.specs.declared.message.Message.{Message}
use Rattle.frame.specs.declared.message.Message.TheVariants.{Begin, Reply, Take, Taken, Renew, Load, All}
use Rattle.frame.specs.Row.{code, pair_row}
use Rattle.protocol.specs.Held.{nonce_of, pair_of, with_send, with_round, installed, new_gate_peer, with_gate_end, new_hand_peer, with_hand_end}
use Rattle.protocol.specs.declared.acts.HandAct.TheVariants.{SendUp, ForgetHand}
use Rattle.protocol.specs.declared.acts.GateAct.TheVariants.{Invite, SendDown, Broadcast, Rotate, Rekey, ForgetGate}
use Rattle.protocol.specs.Rules.{limit, gate_peer, hand_peer}
use Rattle.protocol.specs.World.{Entry, World, start, gate, hand, same_row, Event, GateActs, HandActs, Hears, after}

pub record Case : Type 0 where
  pub from : World
  pub events : List Event
  -- what is sent and what is delivered, in order
  pub sent : List Entry
  pub delivered : List Entry
  -- the pairs in use afterwards, and the counters of the next frames
  pub gate_key : Option Pair
  pub gate_next : ℕ
  pub hand_key : Option Pair
  pub hand_next : ℕ

-- ---- whether a case comes out

abbrev pub node_row : Node → List ℕ
node_row (Gate g) = 0 ∷ g ∷ []
node_row (Hand s) = 1 ∷ s ∷ []

abbrev pub key_row : Option Pair → List ℕ
key_row None = []
key_row (Some p) = pair_row p

abbrev pub same_entries : List Entry → List Entry → Bool
same_entries [] [] = true
same_entries [] (y ∷ ys) = false
same_entries (x ∷ xs) [] = false
same_entries (x ∷ xs) (y ∷ ys) = same_row (node_row x.node) (node_row y.node) && same_row (code x.message) (code y.message) && same_entries xs ys

abbrev pub comes_out : Case → World → Bool
comes_out c w =
    same_entries (reverse w.transcript) c.sent && same_entries (reverse w.deliveries) c.delivered &&
    same_row (key_row (hand_peer 0 (gate 0 w)).end.key) (key_row c.gate_key) && (hand_peer 0 (gate 0 w)).end.send == c.gate_next &&
    same_row (key_row (gate_peer 0 (hand 0 w)).end.key) (key_row c.hand_key) && (gate_peer 0 (hand 0 w)).end.send == c.hand_next

abbrev pub holds : Case → Bool
holds c = comes_out c (after c.events c.from)

abbrev pub all_hold : List Case → Bool
all_hold [] = true
all_hold (c ∷ cs) = holds c && all_hold cs

-- ---- words for the table

abbrev pub by_gate : Message → Entry
by_gate m = record { node = Gate 0; message = m }

abbrev pub by_hand : Message → Entry
by_hand m = record { node = Hand 0; message = m }

-- a message is heard by the end that it names
abbrev pub heard : Message → Event
heard m = Hears 0 m

abbrev pub gate_nonce : ℕ → Nonce
gate_nonce i = nonce_of 0 0 i

abbrev pub begin : ℕ → Message
begin i = Begin 0 0 (gate_nonce i)

-- the pair of the gate's m-th and the handheld's n-th nonce
abbrev pub pair : (m n : ℕ) → Pair
pair m n = pair_of 0 0 (gate_nonce m) (nonce_of 1 0 n)

abbrev pub p : Pair
p = pair 0 0

-- the whole handshake to a pair, with the group key and the counter in its take
abbrev pub meeting : (m n group counter : ℕ) → List Event
meeting m n k c = GateActs 0 (Invite 0) ∷ heard (begin m) ∷ heard (Reply (pair m n)) ∷ heard (Take k c (pair m n)) ∷ heard (Taken (pair m n)) ∷ []

abbrev pub meeting_sent : (m n group counter : ℕ) → List Entry
meeting_sent m n k c = by_gate (begin m) ∷ by_hand (Reply (pair m n)) ∷ by_gate (Take k c (pair m n)) ∷ by_hand (Taken (pair m n)) ∷ []

-- the first meeting, and what follows
abbrev pub met : List Event → List Event
met es = meeting 0 0 1 0 ++ es

abbrev pub met_sent : List Entry → List Entry
met_sent es = meeting_sent 0 0 1 0 ++ es

-- the key in use in both ends, after so many rounds and frames of each
abbrev pub in_use : (gate_send hand_send round : ℕ) → World
in_use g s r =
    record {
      gates = record { draws = 1; group = 1; counter = 0; peers = with_hand_end (with_round r (with_send g (installed p))) new_hand_peer ∷ [] } ∷ [];
      hands = record { draws = 1; peers = with_gate_end (with_send s (installed p)) new_gate_peer ∷ [] } ∷ [];
      transcript = [];
      deliveries = [];
    }

-- nothing in use yet, with so many nonces drawn, group keys, and frames to all
abbrev pub drawn : (gate_draws hand_draws group counter : ℕ) → World
drawn g s k c =
    record {
      gates = record { draws = g; group = k; counter = c; peers = new_hand_peer ∷ [] } ∷ [];
      hands = record { draws = s; peers = new_gate_peer ∷ [] } ∷ [];
      transcript = [];
      deliveries = [];
    }

-- ---- the seven cases

-- A. The pair is in use at both; a load down is delivered, and not when it is heard again.
abbrev pub case_a : Case
case_a = record {
  from = start 1 1;
  events = met (GateActs 0 (SendDown 0 7) ∷ heard (Load Down 0 7 p) ∷ heard (Load Down 0 7 p) ∷ []);
  sent = met_sent (by_gate (Load Down 0 7 p) ∷ []);
  delivered = by_hand (Load Down 0 7 p) ∷ [];
  gate_key = Some p;
  gate_next = 1;
  hand_key = Some p;
  hand_next = 0;
}

-- B. Take is heard again: taken is said again, and the handheld's counter goes on.
abbrev pub case_b : Case
case_b = record {
  from = start 1 1;
  events = met (heard (Take 1 0 p) ∷ HandActs 0 (SendUp 0 7) ∷ heard (Take 1 0 p) ∷ HandActs 0 (SendUp 0 8) ∷ []);
  sent = met_sent (by_hand (Taken p) ∷ by_hand (Load Up 0 7 p) ∷ by_hand (Taken p) ∷ by_hand (Load Up 1 8 p) ∷ []);
  delivered = [];
  gate_key = Some p;
  gate_next = 0;
  hand_key = Some p;
  hand_next = 2;
}

-- C. To an old reply a gate that invites anew says nothing, and nothing changes.
abbrev pub case_c : Case
case_c = record {
  from = start 1 1;
  events = met (GateActs 0 (Invite 0) ∷ heard (Reply p) ∷ []);
  sent = met_sent (by_gate (begin 1) ∷ []);
  delivered = [];
  gate_key = Some p;
  gate_next = 0;
  hand_key = Some p;
  hand_next = 0;
}

-- D. Begin is heard twice: two replies, two takes; the handheld installs only the second pair, and the gate the one
-- that it hears taken for.
abbrev pub case_d : Case
case_d = record {
  from = start 1 1;
  events =
      GateActs 0 (Invite 0) ∷ heard (begin 0) ∷ heard (begin 0) ∷ heard (Reply p) ∷ heard (Reply (pair 0 1)) ∷
      heard (Take 1 0 p) ∷ heard (Take 1 0 (pair 0 1)) ∷ heard (Taken (pair 0 1)) ∷ [];
  sent =
      by_gate (begin 0) ∷ by_hand (Reply p) ∷ by_hand (Reply (pair 0 1)) ∷ by_gate (Take 1 0 p) ∷ by_gate (Take 1 0 (pair 0 1)) ∷ by_hand (Taken (pair 0 1)) ∷ [];
  delivered = [];
  gate_key = Some (pair 0 1);
  gate_next = 0;
  hand_key = Some (pair 0 1);
  hand_next = 0;
}

-- E. The handheld forgets; the old take is nothing to it, and a new handshake makes another pair.
abbrev pub case_e : Case
case_e = record {
  from = start 1 1;
  events = met (HandActs 0 ForgetHand ∷ heard (Take 1 0 p) ∷ meeting 1 1 1 0);
  sent = met_sent (meeting_sent 1 1 1 0);
  delivered = [];
  gate_key = Some (pair 1 1);
  gate_next = 0;
  hand_key = Some (pair 1 1);
  hand_next = 0;
}

-- F. Of three frames to all the third is heard: the first is delivered no more. Under a new group key, once the
-- handheld has word of it, counter 0 is delivered.
abbrev pub case_f : Case
case_f = record {
  from = start 1 1;
  events = met (
      GateActs 0 (Broadcast 5) ∷ GateActs 0 (Broadcast 5) ∷ GateActs 0 (Broadcast 5) ∷ heard (All 0 1 2 5) ∷ heard (All 0 1 0 5) ∷
      GateActs 0 Rotate ∷ GateActs 0 (Rekey 0) ∷ heard (Renew 1 2 0 p) ∷ GateActs 0 (Broadcast 6) ∷ heard (All 0 2 0 6) ∷ []);
  sent = met_sent (
      by_gate (All 0 1 0 5) ∷ by_gate (All 0 1 1 5) ∷ by_gate (All 0 1 2 5) ∷ by_gate (Renew 1 2 0 p) ∷ by_gate (All 0 2 0 6) ∷ []);
  delivered = by_hand (All 0 1 2 5) ∷ by_hand (All 0 2 0 6) ∷ [];
  gate_key = Some p;
  gate_next = 0;
  hand_key = Some p;
  hand_next = 0;
}

-- G. An invented begin with the gate's old nonce gets a reply, which the gate does not answer.
abbrev pub case_g : Case
case_g = record {
  from = start 1 1;
  events = met (heard (begin 0) ∷ heard (Reply (pair 0 1)) ∷ []);
  sent = met_sent (by_hand (Reply (pair 0 1)) ∷ []);
  delivered = [];
  gate_key = Some p;
  gate_next = 0;
  hand_key = Some p;
  hand_next = 0;
}

-- ---- what a wrong end gets wrong

-- A begin that is heard again after the second reply was answered: the gate still answers the reply that is right.
abbrev pub second_reply : Case
second_reply = record {
  from = start 1 1;
  events =
      GateActs 0 (Invite 0) ∷ heard (begin 0) ∷ heard (Reply p) ∷ heard (begin 0) ∷ heard (Take 1 0 p) ∷
      heard (Reply (pair 0 1)) ∷ heard (Take 1 0 (pair 0 1)) ∷ heard (Taken (pair 0 1)) ∷ [];
  sent =
      by_gate (begin 0) ∷ by_hand (Reply p) ∷ by_gate (Take 1 0 p) ∷ by_hand (Reply (pair 0 1)) ∷ by_gate (Take 1 0 (pair 0 1)) ∷ by_hand (Taken (pair 0 1)) ∷ [];
  delivered = [];
  gate_key = Some (pair 0 1);
  gate_next = 0;
  hand_key = Some (pair 0 1);
  hand_next = 0;
}

-- An old take after a newer handshake: the key before last does not come back.
abbrev pub old_take : Case
old_take = record {
  from = start 1 1;
  events = met (meeting 1 1 1 0 ++ (heard (Take 1 0 p) ∷ HandActs 0 (SendUp 0 7) ∷ []));
  sent = met_sent (meeting_sent 1 1 1 0 ++ (by_hand (Load Up 0 7 (pair 1 1)) ∷ []));
  delivered = [];
  gate_key = Some (pair 1 1);
  gate_next = 0;
  hand_key = Some (pair 1 1);
  hand_next = 1;
}

-- Switched off between reply and take: nothing comes of the take, and the gate goes on with what it had.
abbrev pub forgot_between : Case
forgot_between = record {
  from = start 1 1;
  events = GateActs 0 (Invite 0) ∷ heard (begin 0) ∷ heard (Reply p) ∷ HandActs 0 ForgetHand ∷ heard (Take 1 0 p) ∷ heard (begin 0) ∷ [];
  sent = by_gate (begin 0) ∷ by_hand (Reply p) ∷ by_gate (Take 1 0 p) ∷ by_hand (Reply (pair 0 1)) ∷ [];
  delivered = [];
  gate_key = None;
  gate_next = 0;
  hand_key = None;
  hand_next = 0;
}

-- The gate forgets: the old pair stays with the handheld, nothing that the handheld says under it is heard, and a
-- new handshake makes another pair, under the next group key.
abbrev pub gate_forgot : Case
gate_forgot = record {
  from = start 1 1;
  events = met (HandActs 0 (SendUp 0 7) ∷ GateActs 0 ForgetGate ∷ heard (Load Up 0 7 p) ∷ heard (Taken p) ∷ heard (Reply p) ∷ meeting 1 1 2 0);
  sent = met_sent (by_hand (Load Up 0 7 p) ∷ meeting_sent 1 1 2 0);
  delivered = [];
  gate_key = Some (pair 1 1);
  gate_next = 0;
  hand_key = Some (pair 1 1);
  hand_next = 0;
}

-- An old renew after a rotation does not put the group key back.
abbrev pub old_renew : Case
old_renew = record {
  from = start 1 1;
  events = met (
      GateActs 0 Rotate ∷ GateActs 0 (Rekey 0) ∷ GateActs 0 Rotate ∷ GateActs 0 (Rekey 0) ∷ heard (Renew 2 3 0 p) ∷
      GateActs 0 (Broadcast 5) ∷ heard (All 0 3 0 5) ∷ heard (Renew 1 2 0 p) ∷ heard (Renew 2 3 0 p) ∷ heard (All 0 3 0 5) ∷
      GateActs 0 (Broadcast 6) ∷ heard (All 0 3 1 6) ∷ []);
  sent = met_sent (by_gate (Renew 1 2 0 p) ∷ by_gate (Renew 2 3 0 p) ∷ by_gate (All 0 3 0 5) ∷ by_gate (All 0 3 1 6) ∷ []);
  delivered = by_hand (All 0 3 0 5) ∷ by_hand (All 0 3 1 6) ∷ [];
  gate_key = Some p;
  gate_next = 0;
  hand_key = Some p;
  hand_next = 0;
}

-- A renew that was said before a frame to all does not lower the floor of the group key.
abbrev pub renew_behind : Case
renew_behind = record {
  from = start 1 1;
  events = met (GateActs 0 (Rekey 0) ∷ GateActs 0 (Broadcast 5) ∷ heard (All 0 1 0 5) ∷ heard (Renew 1 1 0 p) ∷ heard (All 0 1 0 5) ∷ []);
  sent = met_sent (by_gate (Renew 1 1 0 p) ∷ by_gate (All 0 1 0 5) ∷ []);
  delivered = by_hand (All 0 1 0 5) ∷ [];
  gate_key = Some p;
  gate_next = 0;
  hand_key = Some p;
  hand_next = 0;
}

-- Nor does a take that was said before, though its pair comes into use.
abbrev pub take_behind : Case
take_behind = record {
  from = start 1 1;
  events = met (
      GateActs 0 (Invite 0) ∷ heard (begin 1) ∷ heard (Reply (pair 1 1)) ∷ GateActs 0 (Broadcast 5) ∷ heard (All 0 1 0 5) ∷
      heard (Take 1 0 (pair 1 1)) ∷ heard (All 0 1 0 5) ∷ []);
  sent = met_sent (
      by_gate (begin 1) ∷ by_hand (Reply (pair 1 1)) ∷ by_gate (Take 1 0 (pair 1 1)) ∷ by_gate (All 0 1 0 5) ∷ by_hand (Taken (pair 1 1)) ∷ []);
  delivered = by_hand (All 0 1 0 5) ∷ [];
  gate_key = Some p;
  gate_next = 0;
  hand_key = Some (pair 1 1);
  hand_next = 0;
}

-- Nor does such a take put the group key back.
abbrev pub group_behind : Case
group_behind = record {
  from = start 1 1;
  events = met (
      GateActs 0 (Invite 0) ∷ heard (begin 1) ∷ heard (Reply (pair 1 1)) ∷ GateActs 0 Rotate ∷ GateActs 0 (Rekey 0) ∷ heard (Renew 1 2 0 p) ∷
      heard (Take 1 0 (pair 1 1)) ∷ GateActs 0 (Broadcast 5) ∷ heard (All 0 2 0 5) ∷ []);
  sent = met_sent (
      by_gate (begin 1) ∷ by_hand (Reply (pair 1 1)) ∷ by_gate (Take 1 0 (pair 1 1)) ∷ by_gate (Renew 1 2 0 p) ∷ by_hand (Taken (pair 1 1)) ∷ by_gate (All 0 2 0 5) ∷ []);
  delivered = by_hand (All 0 2 0 5) ∷ [];
  gate_key = Some p;
  gate_next = 0;
  hand_key = Some (pair 1 1);
  hand_next = 0;
}

-- A take that is heard again does not lower that floor.
abbrev pub floor_kept : Case
floor_kept = record {
  from = start 1 1;
  events = met (GateActs 0 (Broadcast 5) ∷ heard (All 0 1 0 5) ∷ heard (Take 1 0 p) ∷ heard (All 0 1 0 5) ∷ []);
  sent = met_sent (by_gate (All 0 1 0 5) ∷ by_hand (Taken p) ∷ []);
  delivered = by_hand (All 0 1 0 5) ∷ [];
  gate_key = Some p;
  gate_next = 0;
  hand_key = Some p;
  hand_next = 0;
}

-- A handheld that forgets and meets again delivers no frame to all that it had delivered before, and the next one.
abbrev pub forgot_frames : Case
forgot_frames = record {
  from = start 1 1;
  events = met (
      GateActs 0 (Broadcast 5) ∷ heard (All 0 1 0 5) ∷ HandActs 0 ForgetHand ∷ heard (All 0 1 0 5) ∷ meeting 1 1 1 1 ++ (
      heard (All 0 1 0 5) ∷ GateActs 0 (Broadcast 6) ∷ heard (All 0 1 1 6) ∷ []));
  sent = met_sent (by_gate (All 0 1 0 5) ∷ meeting_sent 1 1 1 1 ++ (by_gate (All 0 1 1 6) ∷ []));
  delivered = by_hand (All 0 1 0 5) ∷ by_hand (All 0 1 1 6) ∷ [];
  gate_key = Some (pair 1 1);
  gate_next = 0;
  hand_key = Some (pair 1 1);
  hand_next = 0;
}

-- Loads up and down; one that is overtaken is delivered no more.
abbrev pub overtaken : Case
overtaken = record {
  from = start 1 1;
  events = met (
      HandActs 0 (SendUp 0 7) ∷ HandActs 0 (SendUp 0 8) ∷ heard (Load Up 1 8 p) ∷ heard (Load Up 0 7 p) ∷
      GateActs 0 (SendDown 0 9) ∷ heard (Load Down 0 9 p) ∷ []);
  sent = met_sent (by_hand (Load Up 0 7 p) ∷ by_hand (Load Up 1 8 p) ∷ by_gate (Load Down 0 9 p) ∷ []);
  delivered = by_gate (Load Up 1 8 p) ∷ by_hand (Load Down 0 9 p) ∷ [];
  gate_key = Some p;
  gate_next = 1;
  hand_key = Some p;
  hand_next = 2;
}

-- A begin with the gate's next nonce, invented before the gate invites: the handshake comes to that pair.
abbrev pub early_begin : Case
early_begin = record {
  from = start 1 1;
  events = heard (begin 0) ∷ GateActs 0 (Invite 0) ∷ heard (Reply p) ∷ heard (Take 1 0 p) ∷ heard (Taken p) ∷ [];
  sent = by_hand (Reply p) ∷ by_gate (begin 0) ∷ by_gate (Take 1 0 p) ∷ by_hand (Taken p) ∷ [];
  delivered = [];
  gate_key = Some p;
  gate_next = 0;
  hand_key = Some p;
  hand_next = 0;
}

-- ---- at the limits nothing begins again

abbrev pub last_frames : Case
last_frames = record {
  from = in_use (limit - 1) (limit - 1) 0;
  events = GateActs 0 (SendDown 0 7) ∷ GateActs 0 (SendDown 0 8) ∷ HandActs 0 (SendUp 0 7) ∷ HandActs 0 (SendUp 0 8) ∷ [];
  sent = by_gate (Load Down (limit - 1) 7 p) ∷ by_hand (Load Up (limit - 1) 7 p) ∷ [];
  delivered = [];
  gate_key = Some p;
  gate_next = limit;
  hand_key = Some p;
  hand_next = limit;
}

abbrev pub last_round : Case
last_round = record {
  from = in_use 0 0 (limit - 1);
  events = GateActs 0 (Rekey 0) ∷ GateActs 0 (Rekey 0) ∷ [];
  sent = by_gate (Renew limit 1 0 p) ∷ [];
  delivered = [];
  gate_key = Some p;
  gate_next = 0;
  hand_key = Some p;
  hand_next = 0;
}

abbrev pub last_nonces : Case
last_nonces = record {
  from = drawn (limit - 1) (limit - 1) 1 0;
  events = GateActs 0 (Invite 0) ∷ GateActs 0 (Invite 0) ∷ heard (begin (limit - 1)) ∷ heard (begin (limit - 1)) ∷ [];
  sent = by_gate (begin (limit - 1)) ∷ by_hand (Reply (pair (limit - 1) (limit - 1))) ∷ [];
  delivered = [];
  gate_key = None;
  gate_next = 0;
  hand_key = None;
  hand_next = 0;
}

abbrev pub last_broadcast : Case
last_broadcast = record {
  from = drawn 0 0 1 (limit - 1);
  events = GateActs 0 (Broadcast 5) ∷ GateActs 0 (Broadcast 6) ∷ GateActs 0 Rotate ∷ GateActs 0 (Broadcast 7) ∷ [];
  sent = by_gate (All 0 1 (limit - 1) 5) ∷ by_gate (All 0 2 0 7) ∷ [];
  delivered = [];
  gate_key = None;
  gate_next = 0;
  hand_key = None;
  hand_next = 0;
}

-- A gate at its last group key: it does not rotate, and once it forgets it never sends to all again.
abbrev pub last_group_key : Case
last_group_key = record {
  from = drawn 0 0 limit 3;
  events = GateActs 0 Rotate ∷ GateActs 0 (Broadcast 5) ∷ GateActs 0 ForgetGate ∷ GateActs 0 (Broadcast 6) ∷ GateActs 0 Rotate ∷ GateActs 0 (Broadcast 7) ∷ [];
  sent = by_gate (All 0 limit 3 5) ∷ [];
  delivered = [];
  gate_key = None;
  gate_next = 0;
  hand_key = None;
  hand_next = 0;
}

-- A body of 2^49 or more is not sent.
abbrev pub large_bodies : Case
large_bodies = record {
  from = in_use 0 0 0;
  events = GateActs 0 (SendDown 0 (2 ^ 49)) ∷ GateActs 0 (Broadcast (2 ^ 49)) ∷ HandActs 0 (SendUp 0 (2 ^ 49)) ∷ HandActs 0 (SendUp 0 (2 ^ 49 - 1)) ∷ [];
  sent = by_hand (Load Up 0 (2 ^ 49 - 1) p) ∷ [];
  delivered = [];
  gate_key = Some p;
  gate_next = 0;
  hand_key = Some p;
  hand_next = 1;
}

-- ---- the table

abbrev pub table : List Case
table =
    case_a ∷ case_b ∷ case_c ∷ case_d ∷ case_e ∷ case_f ∷ case_g ∷
    second_reply ∷ old_take ∷ forgot_between ∷ gate_forgot ∷ old_renew ∷ renew_behind ∷ take_behind ∷ group_behind ∷ floor_kept ∷ forgot_frames ∷ overtaken ∷ early_begin ∷
    last_frames ∷ last_round ∷ last_nonces ∷ last_broadcast ∷ last_group_key ∷ large_bodies ∷ []

abbrev pub CasesHold : Type 0
CasesHold = all_hold table ≡ true
