-- What a handheld does with any bytes, and of itself.
use Rattle.std.specs.Prelude.{ℕ, true, cond, ◌&&◌, List, length, replicate, Some, None, Ok, Err, Option, Result, ◌==◌, nat_lt, slice_index_or, slice_set}
use Rattle.frame.specs.declared.message.Pair.{Pair}
use Rattle.frame.specs.declared.message.Message.{Message}
use Rattle.frame.specs.declared.message.Message.TheVariants.{Begin, Reply, Take, Taken, Renew, Load, All}
use Rattle.frame.specs.declared.message.Refusal.{Refusal}
use Rattle.frame.specs.Row.{message_of}
use Rattle.octets.specs.declared.parts.Cut.{Cut}
use Rattle.octets.specs.Cutting.{cut}
use Rattle.octets.specs.Laws.{row_of}
use Rattle.protocol.specs.declared.acts.HandAct.{HandAct}
use Rattle.protocol.specs.declared.acts.HandAct.TheVariants.{SendUp, ForgetHand}
use Rattle.protocol.specs.declared.held.GatePeer.{GatePeer}
use Rattle.protocol.specs.Held.{HandState, is_this}
use Rattle.protocol.specs.Rules.{gate_peer}
use Rattle.protocol.specs.Calls.{hand_verdict, hand_hears_row, hand_does}
use Rattle.sealing.specs.Secrets.{Secrets, pairwise_key, nonce_bytes, entropy_at}
use Rattle.sealing.specs.Seal.{Sealed, noughts}
use Rattle.sealing.specs.declared.keys.PairKeys.{PairKeys}
use Rattle.link.specs.declared.keys.GateKeys.{GateKeys}
use Rattle.link.specs.declared.keys.TagKey.{TagKey}
use Rattle.link.specs.declared.keys.TagKey.TheVariants.{Missing, Mismatch, Key}
use Rattle.link.specs.Keys.{no_pair_keys, can_draw, Reception, refused, nothing, received, held_key, Heard, unopened, heard_by, group_with, tag_right}

-- ---- what is held for one gate

abbrev pub no_gate_keys : GateKeys
no_gate_keys = record { offered = no_pair_keys; installed = no_pair_keys; group = noughts 32 }

abbrev pub gate_keys : (gate : ℕ) → List GateKeys → GateKeys
gate_keys g ks = slice_index_or ks g no_gate_keys

abbrev pub with_offered_keys : PairKeys → GateKeys → GateKeys
with_offered_keys o k = record { offered = o; installed = k.installed; group = k.group }

-- what was offered is in use, and nothing is offered
abbrev pub installed_keys : GateKeys → GateKeys
installed_keys k = record { offered = no_pair_keys; installed = k.offered; group = k.group }

-- a group key with a higher number is had from now on; one told again keeps its bytes
abbrev pub learns_key : (number : ℕ) → (key : List ℕ) → GatePeer → GateKeys → GateKeys
learns_key n q x k = record { offered = k.offered; installed = k.installed; group = cond (nat_lt x.group n) q k.group }

-- ---- keys

abbrev pub hand_held_key : HandState → List GateKeys → (a b : List ℕ) → Pair → TagKey
hand_held_key y ks a b p = held_key p a b (gate_peer p.gate y).end (gate_keys p.gate ks).offered (gate_keys p.gate ks).installed

-- the key of a message's tag, if this handheld has it
abbrev pub hand_tag_key : HandState → List GateKeys → (a b : List ℕ) → Message → TagKey
hand_tag_key y ks a b (Begin g h n) = Missing
hand_tag_key y ks a b (Reply p) = Missing
hand_tag_key y ks a b (Take n c p) = hand_held_key y ks a b p
hand_tag_key y ks a b (Taken p) = Missing
hand_tag_key y ks a b (Renew r n c p) = hand_held_key y ks a b p
hand_tag_key y ks a b (Load d c x p) = hand_held_key y ks a b p
hand_tag_key y ks a b (All g n c x) = cond (nat_lt 0 n && n == (gate_peer g y).group) (Key (gate_keys g ks).group) Missing

-- with which keys what it says is sealed, as they are held afterwards
abbrev pub sealed_by : PairKeys → Message → Sealed
sealed_by k m = record { message = m; a = k.nonces.anonce; b = k.nonces.snonce; key = k.key; group = noughts 32 }

abbrev pub hand_seals : List GateKeys → Message → Sealed
hand_seals ks (Begin g h n) = sealed_by no_pair_keys (Begin g h n)
hand_seals ks (Reply p) = sealed_by (gate_keys p.gate ks).offered (Reply p)
hand_seals ks (Take n c p) = sealed_by no_pair_keys (Take n c p)
hand_seals ks (Taken p) = sealed_by (gate_keys p.gate ks).installed (Taken p)
hand_seals ks (Renew r n c p) = sealed_by no_pair_keys (Renew r n c p)
hand_seals ks (Load d c x p) = sealed_by (gate_keys p.gate ks).installed (Load d c x p)
hand_seals ks (All g n c x) = sealed_by no_pair_keys (All g n c x)

-- ---- hearing

-- what a take or a renew that is heard leaves of the keys for its gate; q is the group key in it
abbrev pub took_keys : (number : ℕ) → (q : List ℕ) → Pair → GatePeer → GateKeys → GateKeys
took_keys n q p x k = cond (is_this p x.end.offered) (learns_key n q x (installed_keys k)) k

abbrev pub renewed_keys : (round number : ℕ) → (q : List ℕ) → Pair → GatePeer → GateKeys → GateKeys
renewed_keys r n q p x k = cond (is_this p x.end.key && nat_lt x.end.round r) (learns_key n q x k) k

abbrev pub hand_keys_after : (q : List ℕ) → Message → HandState → List GateKeys → List GateKeys
hand_keys_after q (Begin g h n) y ks = ks
hand_keys_after q (Reply p) y ks = ks
hand_keys_after q (Take n c p) y ks = slice_set ks p.gate (took_keys n q p (gate_peer p.gate y) (gate_keys p.gate ks))
hand_keys_after q (Taken p) y ks = ks
hand_keys_after q (Renew r n c p) y ks = slice_set ks p.gate (renewed_keys r n q p (gate_peer p.gate y) (gate_keys p.gate ks))
hand_keys_after q (Load d c x p) y ks = ks
hand_keys_after q (All g n c x) y ks = ks

-- only behind a right tag are keys taken from a message
abbrev pub hand_keys_heard : Secrets → (bytes : List ℕ) → Cut → TagKey → HandState → List GateKeys → List GateKeys
hand_keys_heard v x c Missing y ks = ks
hand_keys_heard v x c Mismatch y ks = ks
hand_keys_heard v x c (Key k) y ks = cond (tag_right v.hash k x c) (hand_keys_after (group_with v.hash k c) (message_of (row_of c)) y ks) ks

-- handheld s hears a row as the rules have it
abbrev pub hand_by_row : (s : ℕ) → Heard → HandState → List GateKeys → Reception HandState (List GateKeys)
hand_by_row s h y ks =
    received (hand_verdict (length y.peers) s h.row h.genuine y) (hand_hears_row (length y.peers) s h.row h.genuine y) ks (hand_seals ks)

-- the pair that a begin leads to: its own nonce, in bytes, is the next that it draws
abbrev pub hand_nonce : Secrets → (s : ℕ) → HandState → List ℕ
hand_nonce v s y = nonce_bytes 1 s y.draws (entropy_at v y.draws)

abbrev pub begun_keys : Secrets → (s gate : ℕ) → (a : List ℕ) → HandState → PairKeys
begun_keys v s g a y = record { nonces = record { anonce = a; snonce = hand_nonce v s y }; key = pairwise_key v g a (hand_nonce v s y) }

abbrev pub hand_tagged : Secrets → (s : ℕ) → (bytes : List ℕ) → Cut → TagKey → HandState → List GateKeys → Reception HandState (List GateKeys)
hand_tagged v s x c t y ks = hand_by_row s (heard_by v.hash x c t) y (hand_keys_heard v x c t y ks)

-- a begin has no tag; with no entropy for a nonce nothing comes of it
abbrev pub hand_begun : Secrets → (s gate : ℕ) → Cut → HandState → List GateKeys → Reception HandState (List GateKeys)
hand_begun v s g c y ks =
    cond (can_draw v y.draws) (hand_by_row s (unopened true c) y (slice_set ks g (with_offered_keys (begun_keys v s g c.nonces.anonce y) (gate_keys g ks)))) (nothing y ks)

abbrev pub hand_message : Secrets → (s : ℕ) → (bytes : List ℕ) → Cut → Message → HandState → List GateKeys → Reception HandState (List GateKeys)
hand_message v s x c (Begin g h n) y ks = hand_begun v s g c y ks
hand_message v s x c (Reply p) y ks = hand_tagged v s x c (hand_tag_key y ks c.nonces.anonce c.nonces.snonce (Reply p)) y ks
hand_message v s x c (Take n d p) y ks = hand_tagged v s x c (hand_tag_key y ks c.nonces.anonce c.nonces.snonce (Take n d p)) y ks
hand_message v s x c (Taken p) y ks = hand_tagged v s x c (hand_tag_key y ks c.nonces.anonce c.nonces.snonce (Taken p)) y ks
hand_message v s x c (Renew r n d p) y ks = hand_tagged v s x c (hand_tag_key y ks c.nonces.anonce c.nonces.snonce (Renew r n d p)) y ks
hand_message v s x c (Load d n b p) y ks = hand_tagged v s x c (hand_tag_key y ks c.nonces.anonce c.nonces.snonce (Load d n b p)) y ks
hand_message v s x c (All g n d b) y ks = hand_tagged v s x c (hand_tag_key y ks c.nonces.anonce c.nonces.snonce (All g n d b)) y ks

-- a row that is no message or not for this end is refused before its tag is looked at
abbrev pub hand_row : Secrets → (s : ℕ) → (bytes : List ℕ) → Cut → Option Refusal → HandState → List GateKeys → Reception HandState (List GateKeys)
hand_row v s x c (Some r) y ks = refused r y ks
hand_row v s x c None y ks = hand_message v s x c (message_of (row_of c)) y ks

abbrev pub hand_cut : Secrets → (s : ℕ) → (bytes : List ℕ) → Result Cut Refusal → HandState → List GateKeys → Reception HandState (List GateKeys)
hand_cut v s x (Err e) y ks = refused e y ks
hand_cut v s x (Ok c) y ks = hand_row v s x c (hand_verdict (length y.peers) s (row_of c) true y) y ks

-- handheld s hears bytes
unfoldable pub hand_hears_bytes : Secrets → (s : ℕ) → (bytes : List ℕ) → HandState → List GateKeys → Reception HandState (List GateKeys)
hand_hears_bytes v s x y ks = hand_cut v s x (cut x) y ks

-- ---- acting

abbrev pub hand_keys_acted : HandAct → List GateKeys → List GateKeys
hand_keys_acted (SendUp g b) ks = ks
hand_keys_acted ForgetHand ks = replicate (length ks) no_gate_keys

abbrev pub hand_by_act : HandAct → HandState → List GateKeys → Reception HandState (List GateKeys)
hand_by_act act y ks = received None (hand_does (length y.peers) act y) ks (hand_seals ks)

-- what a handheld does of itself
unfoldable pub hand_acts_bytes : HandAct → HandState → List GateKeys → Reception HandState (List GateKeys)
hand_acts_bytes act y ks = hand_by_act act y (hand_keys_acted act ks)
