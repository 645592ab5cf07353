-- How what an end holds moves on: a pair that is spent never comes into use again, and counts only rise.
use Rattle.std.proofs.Common.{◌≡◌, ℕ, ◌+◌, ◌<◌, ◌≤◌, ◌&&◌, T, List, length, set, Some, None, Option, sym, refl, ◌∙◌, subst, arith, leb→le, length-set}
use Rattle.frame.specs.declared.message.Nonce.{Nonce}
use Rattle.frame.specs.declared.message.Pair.{Pair}
use Rattle.frame.specs.declared.message.Direction.{Direction}
use Rattle.frame.specs.declared.message.Message.TheVariants.{Begin, Reply, Take, Taken, Renew, Load, All}
use Rattle.protocol.specs.declared.held.Endpoint.{Endpoint}
use Rattle.protocol.specs.declared.held.GatePeer.{GatePeer}
use Rattle.protocol.specs.declared.held.Handshake.{Handshake}
use Rattle.protocol.specs.declared.held.HandPeer.{HandPeer}
use Rattle.protocol.specs.Held.{nonce_of, is_this, with_send, with_floor, HandState, with_hand_draws, with_gate_peers, new_gate_peer, GateState, with_gate_draws, with_hand_peers, new_hand_peer}
use Rattle.protocol.specs.Rules.{Out, quiet, saying, delivering, limit, has_next, is_body, accepts, past, end_hears, end_sends_by, end_sends, gate_peer, answers, hand_peer}
use Rattle.protocol.specs.World.{Entry}
use Rattle.promise.proofs.Base.{and_l, and_r, cond_case, this→, some_inj, none_some, In, Sub, Any, any_map, put}

-- ---- a group key and a counter under it

-- (n, c) comes before (m, k), or is not behind it
abbrev pub Before : ℕ → ℕ → ℕ → ℕ → Type 0
Before n c m k = (n ≤ m) × (n ≡ m → c < k)

abbrev pub UpTo : ℕ → ℕ → ℕ → ℕ → Type 0
UpTo n c m k = (n ≤ m) × (n ≡ m → c ≤ k)

pub before_upto : (n c m k i j : ℕ) → Before n c m k → UpTo m k i j → Before n c i j
before_upto n c m k i j h u = (omega arith, λ e. let a : n ≡ m = omega arith in let b : m ≡ i = omega arith in let x = h.1 a in let y = u.1 b in omega arith)

pub upto_upto : (n c m k i j : ℕ) → UpTo n c m k → UpTo m k i j → UpTo n c i j
upto_upto n c m k i j h u = (omega arith, λ e. let a : n ≡ m = omega arith in let b : m ≡ i = omega arith in let x = h.1 a in let y = u.1 b in omega arith)

-- what a handheld can learn from the log of gate g's frames to all goes up to (m, k)
pub record Bounds (es : List Entry) (g m k : ℕ) : Type 0 where
  pub takes : (n c : ℕ) (p : Pair) → In (Take n c p) es → p.gate ≡ g → UpTo n c m k
  pub renews : (r n c : ℕ) (p : Pair) → In (Renew r n c p) es → p.gate ≡ g → UpTo n c m k
  pub alls : (n c b : ℕ) → In (All g n c b) es → Before n c m k

-- ---- one end of a pairwise key

-- the pair was in use, and no counter fell
pub record Later (e f : Endpoint) (p : Pair) : Type 0 where
  pub was : e.key ≡ Some p
  pub send : e.send ≤ f.send
  pub floor : e.floor ≤ f.floor
  pub round : e.round ≤ f.round

-- what is spent stays spent, and a spent pair that is in use was in use before
pub record Moves (P Q : Pair → Type 0) (e f : Endpoint) : Type 0 where
  pub spent : (p : Pair) → P p → Q p
  pub used : (p : Pair) → P p → f.key ≡ Some p → Later e f p

-- the pair in use stays
pub moves_on : (P Q : Pair → Type 0) (e f : Endpoint) → e.key ≡ f.key → e.send ≤ f.send → e.floor ≤ f.floor → e.round ≤ f.round → ((p : Pair) → P p → Q p) →
    Moves P Q e f
moves_on P Q e f k s t r h = record { spent = h; used = λ p x y. record { was = k ∙ y; send = s; floor = t; round = r } }

-- a pair comes into use that was not spent
pub moves_new : (P Q : Pair → Type 0) (e f : Endpoint) (q : Pair) → f.key ≡ Some q → (P q → ⊥) → ((p : Pair) → P p → Q p) → Moves P Q e f
moves_new P Q e f q k n h = record { spent = h; used = λ p x y. absurd (n (subst P (some_inj p q (sym y ∙ k)) x)) }

-- nothing is in use any more
pub moves_none : (P Q : Pair → Type 0) (e f : Endpoint) → f.key ≡ None → ((p : Pair) → P p → Q p) → Moves P Q e f
moves_none P Q e f k h = record { spent = h; used = λ p x y. absurd (none_some p (sym k ∙ y)) }

-- the two rules that both kinds of end share: the tests, once for both
pub end_hears_lem : (R : Out Endpoint → Type 0) (d : Direction) (c b : ℕ) (p : Pair) (e : Endpoint) →
    R (quiet e) → (e.key ≡ Some p → e.floor ≤ c → R (delivering (with_floor (past c) e) (Load d c b p))) → R (end_hears d c b p e)
end_hears_lem R d c b p e idle f =
    cond_case R (is_this p e.key && accepts e.floor c) _ _
    (λ t. f (this→ p e.key (and_l (is_this p e.key) _ t)) (leb→le e.floor c (and_r (is_this p e.key) _ t))) idle

end_sends_by_lem : (R : Out Endpoint → Type 0) (k : Option Pair) (d : Direction) (b : ℕ) (e : Endpoint) → e.key ≡ k →
    R (quiet e) → ((p : Pair) → e.key ≡ Some p → R (saying (with_send (e.send + 1) e) (Load d e.send b p))) → R (end_sends_by k d b e)
end_sends_by_lem R None d b e k idle f = idle
end_sends_by_lem R (Some p) d b e k idle f = cond_case R (is_body b && has_next e.send) _ _ (λ _. f p k) idle

pub end_sends_lem : (R : Out Endpoint → Type 0) (d : Direction) (b : ℕ) (e : Endpoint) →
    R (quiet e) → ((p : Pair) → e.key ≡ Some p → R (saying (with_send (e.send + 1) e) (Load d e.send b p))) → R (end_sends d b e)
end_sends_lem R d b e idle f = end_sends_by_lem R e.key d b e refl idle f

-- ---- a gate

-- the pair's nonce was drawn, and it does not answer the handshake that is open; d: how many nonces were drawn
abbrev pub SpentAtGate : ℕ → HandPeer → Pair → Type 0
SpentAtGate d x p = (p.anonce.index < d) × (T (answers p x.handshake) → ⊥)

abbrev pub HandPeerMoves : ℕ → ℕ → HandPeer → HandPeer → Type 0
HandPeerMoves d f x z = Moves (SpentAtGate d x) (SpentAtGate f z) x.end z.end

pub hand_peer_stays : (d f : ℕ) (x : HandPeer) → d ≤ f → HandPeerMoves d f x x
hand_peer_stays d f x h = moves_on (SpentAtGate d x) (SpentAtGate f x) x.end x.end refl (omega arith) (omega arith) (omega arith) (λ p k. (omega arith, k.1))

pub record GateMoves (y z : GateState) : Type 0 where
  pub draws : y.draws ≤ z.draws
  pub peers : (h : ℕ) → HandPeerMoves y.draws z.draws (hand_peer h y) (hand_peer h z)
  pub up : UpTo y.group y.counter z.group z.counter
  pub size : length z.peers ≡ length y.peers

pub gate_same : (y : GateState) → GateMoves y y
gate_same y = record {
  draws = omega arith;
  peers = λ h. hand_peer_stays y.draws y.draws (hand_peer h y) (omega arith);
  up = (omega arith, λ _. omega arith);
  size = refl;
}

-- an open handshake's nonce is one that this gate drew, and its begin was sent
abbrev pub OpenNonce : (g h d : ℕ) → List Entry → Nonce → Type 0
OpenNonce g h d es a = (a ≡ nonce_of 0 g a.index) × (a.index < d) × (a.index < limit) × In (Begin g h a) es

abbrev pub OpenAtGate : (g h d : ℕ) → List Entry → Handshake → Type 0
OpenAtGate g h d es o = OpenNonce g h d es o.anonce

-- a pair on offer answers the open handshake, and the handheld replied with it
abbrev pub OfferAtGate : (g h : ℕ) → List Entry → HandPeer → Pair → Type 0
OfferAtGate g h es x p = T (answers p x.handshake) × (p.gate ≡ g) × (p.hand ≡ h) × In (Reply p) es

-- a pair in use is spent, and the handheld said that it took it
abbrev pub KeyAtGate : (g h d : ℕ) → List Entry → HandPeer → Pair → Type 0
KeyAtGate g h d es x p = SpentAtGate d x p × (p.gate ≡ g) × (p.hand ≡ h) × In (Taken p) es

pub record HandPeerOK (g h d : ℕ) (es : List Entry) (x : HandPeer) : Type 0 where
  pub opened : Any (OpenAtGate g h d es) x.handshake
  pub offered : Any (OfferAtGate g h es x) x.end.offered
  pub key : Any (KeyAtGate g h d es x) x.end.key

pub gate_key_more : (g h d f : ℕ) (es fs : List Entry) (x z : HandPeer) (o : Option Pair) → Sub es fs → ((p : Pair) → SpentAtGate d x p → SpentAtGate f z p) →
    Any (KeyAtGate g h d es x) o → Any (KeyAtGate g h f fs z) o
gate_key_more g h d f es fs x z o sub s = any_map (KeyAtGate g h d es x) (KeyAtGate g h f fs z) (λ p k. (s p k.0, k.1, k.2, sub (Taken p) k.3)) o

pub hand_peer_more : (g h d f : ℕ) (es fs : List Entry) (x : HandPeer) → d ≤ f → Sub es fs → HandPeerOK g h d es x → HandPeerOK g h f fs x
hand_peer_more g h d f es fs x le sub ok = record {
  opened = any_map (OpenAtGate g h d es) (OpenAtGate g h f fs) (λ o k. (k.0, omega arith, k.2, sub (Begin g h o.anonce) k.3)) x.handshake ok.opened;
  offered = any_map (OfferAtGate g h es x) (OfferAtGate g h fs x) (λ p k. (k.0, k.1, k.2, sub (Reply p) k.3)) x.end.offered ok.offered;
  key = gate_key_more g h d f es fs x x x.end.key sub (λ p k. (omega arith, k.1)) ok.key;
}

abbrev pub GateOK : ℕ → List Entry → GateState → Type 0
GateOK g es y = (h : ℕ) → HandPeerOK g h y.draws es (hand_peer h y)

abbrev pub with_hand_peer : ℕ → ℕ → HandPeer → GateState → GateState
with_hand_peer d h x y = with_gate_draws d (with_hand_peers (set y.peers h x) y)

pub hand_peer_lift : (g h f : ℕ) (es fs : List Entry) (y : GateState) (x : HandPeer) → y.draws ≤ f → Sub es fs → GateOK g es y →
    HandPeerMoves y.draws f (hand_peer h y) x → HandPeerOK g h f fs x → GateMoves y (with_hand_peer f h x y) × GateOK g fs (with_hand_peer f h x y)
hand_peer_lift g h f es fs y x le sub ok m k = (
  record {
    draws = le;
    peers = put (λ j z. HandPeerMoves y.draws f (hand_peer j y) z) y.peers h x new_hand_peer m (λ j. hand_peer_stays y.draws f (hand_peer j y) le);
    up = (omega arith, λ _. omega arith);
    size = length-set y.peers h x;
  },
  put (λ j z. HandPeerOK g j f fs z) y.peers h x new_hand_peer k (λ j. hand_peer_more g j y.draws f es fs (hand_peer j y) le sub (ok j)),
)

-- ---- a handheld

-- the pair's nonce was drawn, and before that of the pair on offer; d: how many nonces were drawn
abbrev pub SpentAtHand : ℕ → GatePeer → Pair → Type 0
SpentAtHand d x p = (p.snonce.index < d) × Any (λ (o : Pair). p.snonce.index < o.snonce.index) x.end.offered

abbrev pub GatePeerMoves : ℕ → ℕ → GatePeer → GatePeer → Type 0
GatePeerMoves d f x z = Moves (SpentAtHand d x) (SpentAtHand f z) x.end z.end

pub gate_peer_stays : (d f : ℕ) (x : GatePeer) → d ≤ f → GatePeerMoves d f x x
gate_peer_stays d f x h = moves_on (SpentAtHand d x) (SpentAtHand f x) x.end x.end refl (omega arith) (omega arith) (omega arith) (λ p k. (omega arith, k.1))

pub record HandMoves (y z : HandState) : Type 0 where
  pub draws : y.draws ≤ z.draws
  pub peers : (g : ℕ) → GatePeerMoves y.draws z.draws (gate_peer g y) (gate_peer g z)
  pub size : length z.peers ≡ length y.peers

pub hand_same : (y : HandState) → HandMoves y y
hand_same y = record { draws = omega arith; peers = λ g. gate_peer_stays y.draws y.draws (gate_peer g y) (omega arith); size = refl }

-- the gate gave the pair, with some group key and counter
abbrev pub Gave : Pair → List Entry → Type 0
Gave p es = (n : ℕ) × (c : ℕ) × In (Take n c p) es

pub gave_more : (p : Pair) (es fs : List Entry) → Sub es fs → Gave p es → Gave p fs
gave_more p es fs sub h = (h.0, h.1, sub (Take h.0 h.1 p) h.2)

-- a pair on offer has a nonce that this handheld drew
abbrev pub OfferAtHand : (g s d : ℕ) → Pair → Type 0
OfferAtHand g s d p = (p.gate ≡ g) × (p.hand ≡ s) × (p.snonce.index < d)

-- a pair in use is spent, and the gate gave it
abbrev pub KeyAtHand : (g s d : ℕ) → List Entry → GatePeer → Pair → Type 0
KeyAtHand g s d es x p = SpentAtHand d x p × (p.gate ≡ g) × (p.hand ≡ s) × Gave p es

pub record GatePeerOK (g s d : ℕ) (es : List Entry) (x : GatePeer) : Type 0 where
  pub offered : Any (OfferAtHand g s d) x.end.offered
  pub key : Any (KeyAtHand g s d es x) x.end.key

pub hand_key_more : (g s d f : ℕ) (es fs : List Entry) (x z : GatePeer) (o : Option Pair) → Sub es fs → ((p : Pair) → SpentAtHand d x p → SpentAtHand f z p) →
    Any (KeyAtHand g s d es x) o → Any (KeyAtHand g s f fs z) o
hand_key_more g s d f es fs x z o sub h = any_map (KeyAtHand g s d es x) (KeyAtHand g s f fs z) (λ p k. (h p k.0, k.1, k.2, gave_more p es fs sub k.3)) o

pub gate_peer_more : (g s d f : ℕ) (es fs : List Entry) (x : GatePeer) → d ≤ f → Sub es fs → GatePeerOK g s d es x → GatePeerOK g s f fs x
gate_peer_more g s d f es fs x le sub h = record {
  offered = any_map (OfferAtHand g s d) (OfferAtHand g s f) (λ p k. (k.0, k.1, omega arith)) x.end.offered h.offered;
  key = hand_key_more g s d f es fs x x x.end.key sub (λ p k. (omega arith, k.1)) h.key;
}

abbrev pub HandOK : ℕ → List Entry → HandState → Type 0
HandOK s es y = (g : ℕ) → GatePeerOK g s y.draws es (gate_peer g y)

abbrev pub with_gate_peer : ℕ → ℕ → GatePeer → HandState → HandState
with_gate_peer d g x y = with_hand_draws d (with_gate_peers (set y.peers g x) y)

pub gate_peer_lift : (g s f : ℕ) (es fs : List Entry) (y : HandState) (x : GatePeer) → y.draws ≤ f → Sub es fs → HandOK s es y →
    GatePeerMoves y.draws f (gate_peer g y) x → GatePeerOK g s f fs x → HandMoves y (with_gate_peer f g x y) × HandOK s fs (with_gate_peer f g x y)
gate_peer_lift g s f es fs y x le sub ok m k = (
  record {
    draws = le;
    peers = put (λ j z. GatePeerMoves y.draws f (gate_peer j y) z) y.peers g x new_gate_peer m (λ j. gate_peer_stays y.draws f (gate_peer j y) le);
    size = length-set y.peers g x;
  },
  put (λ j z. GatePeerOK j s f fs z) y.peers g x new_gate_peer k (λ j. gate_peer_more j s y.draws f es fs (gate_peer j y) le sub (ok j)),
)
