-- What a gate does with any bytes, and of itself.
use Rattle.std.specs.Prelude.{ℕ, true, cond, not, ◌&&◌, List, length, replicate, Some, None, Ok, Err, Option, Result, slice_index_or, slice_set}
use Rattle.frame.specs.declared.message.Pair.{Pair}
use Rattle.frame.specs.declared.message.Message.{Message}
use Rattle.frame.specs.declared.message.Message.TheVariants.{Begin, Reply, Take, Taken, Renew, Load, All}
use Rattle.frame.specs.declared.message.Refusal.{Refusal}
use Rattle.frame.specs.Row.{message_of}
use Rattle.octets.specs.declared.parts.Cut.{Cut}
use Rattle.octets.specs.Cutting.{cut}
use Rattle.octets.specs.Laws.{row_of}
use Rattle.protocol.specs.declared.acts.GateAct.{GateAct}
use Rattle.protocol.specs.declared.acts.GateAct.TheVariants.{Invite, SendDown, Broadcast, Rotate, Rekey, ForgetGate}
use Rattle.protocol.specs.declared.held.HandPeer.{HandPeer}
use Rattle.protocol.specs.Held.{GateState, is_this}
use Rattle.protocol.specs.Rules.{answers, hand_peer}
use Rattle.protocol.specs.Calls.{gate_verdict, gate_hears_row, gate_does}
use Rattle.sealing.specs.Secrets.{Secrets, pairwise_key, group_key, nonce_bytes, entropy_at}
use Rattle.sealing.specs.Seal.{Sealed, noughts, same_bytes}
use Rattle.sealing.specs.declared.keys.PairKeys.{PairKeys}
use Rattle.link.specs.declared.keys.HandKeys.{HandKeys}
use Rattle.link.specs.declared.keys.TagKey.{TagKey}
use Rattle.link.specs.declared.keys.TagKey.TheVariants.{Missing, Mismatch, Key}
use Rattle.link.specs.Keys.{no_pair_keys, can_draw, Reception, refused, nothing, received, held_key, Heard, heard_by, tag_right}

-- the gate's group key, and what it holds for each handheld
pub record GateRing : Type 0 where
  pub group : List ℕ
  pub peers : List HandKeys

-- ---- what is held for one handheld

abbrev pub no_hand_keys : HandKeys
no_hand_keys = record { offered = no_pair_keys; installed = no_pair_keys; anonce = noughts 32 }

abbrev pub hand_keys : (hand : ℕ) → GateRing → HandKeys
hand_keys h r = slice_index_or r.peers h no_hand_keys

abbrev pub with_hand_keys : (hand : ℕ) → HandKeys → GateRing → GateRing
with_hand_keys h k r = record { group = r.group; peers = slice_set r.peers h k }

-- at first nothing is held but the first group key
abbrev pub new_ring : Secrets → (hands : ℕ) → GateRing
new_ring v n = record { group = group_key v 1; peers = replicate n no_hand_keys }

-- a new handshake: its nonce, and nothing is offered
abbrev pub invited_keys : (anonce : List ℕ) → HandKeys → HandKeys
invited_keys a k = record { offered = no_pair_keys; installed = k.installed; anonce = a }

abbrev pub replied_keys : PairKeys → HandKeys → HandKeys
replied_keys o k = record { offered = o; installed = k.installed; anonce = k.anonce }

-- what was offered is in use, nothing is offered, and the handshake is closed
abbrev pub confirmed_keys : HandKeys → HandKeys
confirmed_keys k = record { offered = no_pair_keys; installed = k.offered; anonce = noughts 32 }

-- ---- keys

-- a reply to the open handshake: the key of its own nonce, to the last byte, and whichever the handheld drew
abbrev pub reply_key : Secrets → Pair → (a b : List ℕ) → HandPeer → HandKeys → TagKey
reply_key v p a b x k = cond (answers p x.handshake) (cond (same_bytes a k.anonce) (Key (pairwise_key v p.hand a b)) Mismatch) Missing

abbrev pub or_reply_key : Secrets → Pair → (a b : List ℕ) → HandPeer → HandKeys → TagKey → TagKey
or_reply_key v p a b x k Missing = reply_key v p a b x k
or_reply_key v p a b x k Mismatch = Mismatch
or_reply_key v p a b x k (Key t) = Key t

abbrev pub gate_held_key : Pair → (a b : List ℕ) → HandPeer → HandKeys → TagKey
gate_held_key p a b x k = held_key p a b x.end k.offered k.installed

-- the key of a message's tag, if this gate has it
abbrev pub gate_tag_key : Secrets → GateState → GateRing → (a b : List ℕ) → Message → TagKey
gate_tag_key v y r a b (Begin g h n) = Missing
gate_tag_key v y r a b (Reply p) =
    or_reply_key v p a b (hand_peer p.hand y) (hand_keys p.hand r) (gate_held_key p a b (hand_peer p.hand y) (hand_keys p.hand r))
gate_tag_key v y r a b (Take n c p) = Missing
gate_tag_key v y r a b (Taken p) = gate_held_key p a b (hand_peer p.hand y) (hand_keys p.hand r)
gate_tag_key v y r a b (Renew d n c p) = Missing
gate_tag_key v y r a b (Load d c x p) = gate_held_key p a b (hand_peer p.hand y) (hand_keys p.hand r)
gate_tag_key v y r a b (All g n c x) = Missing

-- with which keys what it says is sealed, as they are held afterwards
abbrev pub sealed_carrying : (group : List ℕ) → PairKeys → Message → Sealed
sealed_carrying q k m = record { message = m; a = k.nonces.anonce; b = k.nonces.snonce; key = k.key; group = q }

-- a begin has neither seal nor tag, and only its own nonce
abbrev pub begun_by : (anonce : List ℕ) → PairKeys
begun_by a = record { nonces = record { anonce = a; snonce = noughts 32 }; key = noughts 32 }

-- a frame to all is sealed under the group key
abbrev pub broadcast_by : (group : List ℕ) → PairKeys
broadcast_by q = record { nonces = record { anonce = noughts 32; snonce = noughts 32 }; key = q }

-- the group key, in those that carry it
abbrev pub carried_by : GateRing → Message → List ℕ
carried_by r (Begin g h n) = noughts 32
carried_by r (Reply p) = noughts 32
carried_by r (Take n c p) = r.group
carried_by r (Taken p) = noughts 32
carried_by r (Renew d n c p) = r.group
carried_by r (Load d c x p) = noughts 32
carried_by r (All g n c x) = noughts 32

abbrev pub gate_seals : GateRing → Message → Sealed
gate_seals r (Begin g h n) = sealed_carrying (carried_by r (Begin g h n)) (begun_by (hand_keys h r).anonce) (Begin g h n)
gate_seals r (Reply p) = sealed_carrying (carried_by r (Reply p)) no_pair_keys (Reply p)
gate_seals r (Take n c p) = sealed_carrying (carried_by r (Take n c p)) (hand_keys p.hand r).offered (Take n c p)
gate_seals r (Taken p) = sealed_carrying (carried_by r (Taken p)) no_pair_keys (Taken p)
gate_seals r (Renew d n c p) = sealed_carrying (carried_by r (Renew d n c p)) (hand_keys p.hand r).installed (Renew d n c p)
gate_seals r (Load d c x p) = sealed_carrying (carried_by r (Load d c x p)) (hand_keys p.hand r).installed (Load d c x p)
gate_seals r (All g n c x) = sealed_carrying (carried_by r (All g n c x)) (broadcast_by r.group) (All g n c x)

-- ---- hearing

-- what a reply or a taken that is heard leaves of the keys for its handheld; o has the nonces and the key of its tag
abbrev pub replied_with : PairKeys → Pair → HandPeer → HandKeys → HandKeys
replied_with o p x k = cond (answers p x.handshake && not (is_this p x.end.key)) (replied_keys o k) k

abbrev pub confirmed_with : Pair → HandPeer → HandKeys → HandKeys
confirmed_with p x k = cond (is_this p x.end.offered) (confirmed_keys k) k

abbrev pub gate_keys_after : PairKeys → Message → GateState → GateRing → GateRing
gate_keys_after o (Begin g h n) y r = r
gate_keys_after o (Reply p) y r = with_hand_keys p.hand (replied_with o p (hand_peer p.hand y) (hand_keys p.hand r)) r
gate_keys_after o (Take n c p) y r = r
gate_keys_after o (Taken p) y r = with_hand_keys p.hand (confirmed_with p (hand_peer p.hand y) (hand_keys p.hand r)) r
gate_keys_after o (Renew d n c p) y r = r
gate_keys_after o (Load d c x p) y r = r
gate_keys_after o (All g n c x) y r = r

-- only behind a right tag are keys taken from a message
abbrev pub gate_keys_heard : Secrets → (bytes : List ℕ) → Cut → TagKey → GateState → GateRing → GateRing
gate_keys_heard v x c Missing y r = r
gate_keys_heard v x c Mismatch y r = r
gate_keys_heard v x c (Key k) y r =
    cond (tag_right v.hash k x c) (gate_keys_after (record { nonces = c.nonces; key = k }) (message_of (row_of c)) y r) r

-- gate g hears a row as the rules have it
abbrev pub gate_by_row : (g : ℕ) → Heard → GateState → GateRing → Reception GateState GateRing
gate_by_row g h y r =
    received (gate_verdict g (length y.peers) h.row h.genuine y) (gate_hears_row g (length y.peers) h.row h.genuine y) r (gate_seals r)

abbrev pub gate_tagged : Secrets → (g : ℕ) → (bytes : List ℕ) → Cut → TagKey → GateState → GateRing → Reception GateState GateRing
gate_tagged v g x c t y r = gate_by_row g (heard_by v.hash x c t) y (gate_keys_heard v x c t y r)

-- a row that is no message or not for this end is refused before its tag is looked at
abbrev pub gate_row : Secrets → (g : ℕ) → (bytes : List ℕ) → Cut → Option Refusal → GateState → GateRing → Reception GateState GateRing
gate_row v g x c (Some e) y r = refused e y r
gate_row v g x c None y r = gate_tagged v g x c (gate_tag_key v y r c.nonces.anonce c.nonces.snonce (message_of (row_of c))) y r

abbrev pub gate_cut : Secrets → (g : ℕ) → (bytes : List ℕ) → Result Cut Refusal → GateState → GateRing → Reception GateState GateRing
gate_cut v g x (Err e) y r = refused e y r
gate_cut v g x (Ok c) y r = gate_row v g x c (gate_verdict g (length y.peers) (row_of c) true y) y r

-- gate g hears bytes
unfoldable pub gate_hears_bytes : Secrets → (g : ℕ) → (bytes : List ℕ) → GateState → GateRing → Reception GateState GateRing
gate_hears_bytes v g x y r = gate_cut v g x (cut x) y r

-- ---- acting

abbrev pub gate_nonce : Secrets → (g : ℕ) → GateState → List ℕ
gate_nonce v g y = nonce_bytes 0 g y.draws (entropy_at v y.draws)

abbrev pub gate_by_act : (g : ℕ) → GateAct → GateState → GateRing → Reception GateState GateRing
gate_by_act g act y r = received None (gate_does g (length y.peers) act y) r (gate_seals r)

-- the group key with the number that the gate has afterwards
abbrev pub regrouped : Secrets → (g : ℕ) → GateAct → GateState → (peers : List HandKeys) → GateRing
regrouped v g act y ks = record { group = group_key v (gate_does g (length y.peers) act y).held.group; peers = ks }

-- what a gate does of itself; with no entropy for a nonce it does not invite
unfoldable pub gate_acts_bytes : Secrets → (g : ℕ) → GateAct → GateState → GateRing → Reception GateState GateRing
gate_acts_bytes v g (Invite h) y r =
    cond (can_draw v y.draws) (gate_by_act g (Invite h) y (with_hand_keys h (invited_keys (gate_nonce v g y) (hand_keys h r)) r)) (nothing y r)
gate_acts_bytes v g (SendDown h b) y r = gate_by_act g (SendDown h b) y r
gate_acts_bytes v g (Broadcast b) y r = gate_by_act g (Broadcast b) y r
gate_acts_bytes v g Rotate y r = gate_by_act g Rotate y (regrouped v g Rotate y r.peers)
gate_acts_bytes v g (Rekey h) y r = gate_by_act g (Rekey h) y r
gate_acts_bytes v g ForgetGate y r = gate_by_act g ForgetGate y (regrouped v g ForgetGate y (replicate (length r.peers) no_hand_keys))
