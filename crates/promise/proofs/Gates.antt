-- What each rule of a gate keeps: for one handheld, and then for the whole gate.
use Rattle.std.proofs.Common.{◌≡◌, ℕ, ◌+◌, ◌<◌, ◌≤◌, Bool, true, false, cond, not, ◌&&◌, T, List, ◌∷◌, length, Some, None, Option, sym, refl, ap, subst, arith, ltb→lt, get_or-set_same}
use lib.Dec.{not_T}
use lib.ListN.{length-replicate}
use Rattle.frame.specs.declared.message.Node.TheVariants.{Gate}
use Rattle.frame.specs.declared.message.Nonce.{Nonce}
use Rattle.frame.specs.declared.message.Pair.{Pair}
use Rattle.frame.specs.declared.message.Direction.TheVariants.{Up, Down}
use Rattle.frame.specs.declared.message.Message.{Message}
use Rattle.frame.specs.declared.message.Message.TheVariants.{Begin, Reply, Take, Taken, Renew, Load, All}
use Rattle.protocol.specs.declared.held.Endpoint.{Endpoint}
use Rattle.protocol.specs.declared.held.Handshake.{Handshake}
use Rattle.protocol.specs.declared.held.HandPeer.{HandPeer}
use Rattle.protocol.specs.Held.{nonce_of, is_this, with_offered, with_send, with_floor, with_round, installed, new_hand_peer, with_hand_end, with_handshake, GateState}
use Rattle.protocol.specs.declared.acts.GateAct.{GateAct}
use Rattle.protocol.specs.declared.acts.GateAct.TheVariants.{Invite, SendDown, Broadcast, Rotate, Rekey, ForgetGate}
use Rattle.protocol.specs.Rules.{Out, quiet, within, limit, has_next, is_body, past, answers, gate_invite, gate_reply, gate_taken, gate_load, gate_send, end_rekeys_by, gate_rekey, hand_peer, gate_at, gate_hears, gate_broadcasts, gate_rotates, gate_forgets, gate_acts}
use Rattle.protocol.specs.World.{Entry, logged}
use Rattle.protocol.specs.Promise.{Each}
use Rattle.promise.proofs.Base.{and_l, and_r, cond_case, nonce→, this→, In, in_here, in_more, in_logged, each_map, Any, any_this, replicate_at}
use Rattle.promise.proofs.Ends.{Before, UpTo, moves_on, moves_new, moves_none, end_hears_lem, end_sends_lem, SpentAtGate, HandPeerMoves, hand_peer_stays, GateMoves, gate_same, HandPeerOK, OpenNonce, OfferAtGate, KeyAtGate, hand_peer_more, gate_key_more, GateOK, with_hand_peer, hand_peer_lift}

-- a message that gate g says as y becomes z: under a pair in use, and with its next counter
abbrev pub GateSays : ℕ → List Entry → GateState → GateState → Message → Type 0
GateSays g es y z (Begin h t a) = (h ≡ g) × (a ≡ nonce_of 0 g y.draws) × (y.draws < z.draws)
GateSays g es y z (Reply p) = ⊥
GateSays g es y z (Take n c p) = (p.gate ≡ g) × In (Reply p) es × In (Begin p.gate p.hand p.anonce) es × (n ≡ y.group) × (c ≡ y.counter)
GateSays g es y z (Taken p) = ⊥
GateSays g es y z (Renew r n c p) =
    (p.gate ≡ g) × ((hand_peer p.hand y).end.key ≡ Some p) × (r ≡ (hand_peer p.hand y).end.round + 1) × SpentAtGate z.draws (hand_peer p.hand z) p
    × (r ≤ (hand_peer p.hand z).end.round) × (n ≡ y.group) × (c ≡ y.counter)
GateSays g es y z (Load Up c b p) = ⊥
GateSays g es y z (Load Down c b p) =
    (p.gate ≡ g) × ((hand_peer p.hand y).end.key ≡ Some p) × (c ≡ (hand_peer p.hand y).end.send) × SpentAtGate z.draws (hand_peer p.hand z) p ×
    (c < (hand_peer p.hand z).end.send)
GateSays g es y z (All h n c b) = (h ≡ g) × (n ≡ y.group) × (c ≡ y.counter) × Before n c z.group z.counter

-- a message that it delivers: a load up that was sent, not below the floor, which it then is
abbrev pub GateDelivers : ℕ → List Entry → GateState → GateState → Message → Type 0
GateDelivers g es y z (Begin h t a) = ⊥
GateDelivers g es y z (Reply p) = ⊥
GateDelivers g es y z (Take n c p) = ⊥
GateDelivers g es y z (Taken p) = ⊥
GateDelivers g es y z (Renew r n c p) = ⊥
GateDelivers g es y z (Load Up c b p) =
    (p.gate ≡ g) × ((hand_peer p.hand y).end.key ≡ Some p) × ((hand_peer p.hand y).end.floor ≤ c) × SpentAtGate z.draws (hand_peer p.hand z) p
    × (c < (hand_peer p.hand z).end.floor) × In (Load Up c b p) es
GateDelivers g es y z (Load Down c b p) = ⊥
GateDelivers g es y z (All h n c b) = ⊥

-- group keys and their counters end at the limit
abbrev pub InLimits : GateState → Type 0
InLimits y = (y.counter ≤ limit) × (y.group ≤ limit)

pub record GateStep (g : ℕ) (es : List Entry) (y : GateState) (o : Out GateState) : Type 0 where
  pub moves : GateMoves y o.held
  pub ok : GateOK g (logged (Gate g) o.says es) o.held
  pub says : Each (GateSays g es y o.held) o.says
  pub delivers : Each (GateDelivers g es y o.held) o.delivers
  pub short : (length o.says ≤ 1) × (length o.delivers ≤ 1)
  pub limits : InLimits y → InLimits o.held

-- ---- for one handheld: x becomes z; d nonces were drawn, then f; n, c are the gate's group key and counter

abbrev pub HandPeerSays : (g h d f n c : ℕ) → List Entry → HandPeer → HandPeer → Message → Type 0
HandPeerSays g h d f n c es x z (Begin i t a) = (i ≡ g) × (a ≡ nonce_of 0 g d) × (d < f)
HandPeerSays g h d f n c es x z (Reply p) = ⊥
HandPeerSays g h d f n c es x z (Take m k p) = (p.gate ≡ g) × In (Reply p) es × In (Begin p.gate p.hand p.anonce) es × (m ≡ n) × (k ≡ c)
HandPeerSays g h d f n c es x z (Taken p) = ⊥
HandPeerSays g h d f n c es x z (Renew r m k p) =
    (p.gate ≡ g) × (p.hand ≡ h) × (x.end.key ≡ Some p) × (r ≡ x.end.round + 1) × SpentAtGate f z p × (r ≤ z.end.round) × (m ≡ n) × (k ≡ c)
HandPeerSays g h d f n c es x z (Load Up k b p) = ⊥
HandPeerSays g h d f n c es x z (Load Down k b p) = (p.gate ≡ g) × (p.hand ≡ h) × (x.end.key ≡ Some p) × (k ≡ x.end.send) × SpentAtGate f z p × (k < z.end.send)
HandPeerSays g h d f n c es x z (All i m k b) = ⊥

abbrev pub HandPeerDelivers : (g h f : ℕ) → List Entry → HandPeer → HandPeer → Message → Type 0
HandPeerDelivers g h f es x z (Begin i t a) = ⊥
HandPeerDelivers g h f es x z (Reply p) = ⊥
HandPeerDelivers g h f es x z (Take m k p) = ⊥
HandPeerDelivers g h f es x z (Taken p) = ⊥
HandPeerDelivers g h f es x z (Renew r m k p) = ⊥
HandPeerDelivers g h f es x z (Load Up k b p) =
    (p.gate ≡ g) × (p.hand ≡ h) × (x.end.key ≡ Some p) × (x.end.floor ≤ k) × SpentAtGate f z p × (k < z.end.floor) × In (Load Up k b p) es
HandPeerDelivers g h f es x z (Load Down k b p) = ⊥
HandPeerDelivers g h f es x z (All i m k b) = ⊥

pub record HandPeerStep (g h d f n c : ℕ) (es : List Entry) (x : HandPeer) (o : Out HandPeer) : Type 0 where
  pub moves : HandPeerMoves d f x o.held
  pub ok : HandPeerOK g h f (logged (Gate g) o.says es) o.held
  pub says : Each (HandPeerSays g h d f n c es x o.held) o.says
  pub delivers : Each (HandPeerDelivers g h f es x o.held) o.delivers
  pub short : (length o.says ≤ 1) × (length o.delivers ≤ 1)

hand_peer_quiet : (g h d n c : ℕ) (es : List Entry) (x : HandPeer) → HandPeerOK g h d es x → HandPeerStep g h d d n c es x (quiet x)
hand_peer_quiet g h d n c es x ok = record { moves = hand_peer_stays d d x (omega arith); ok = ok; says = tt; delivers = tt; short = (omega arith, omega arith) }

invite_step : (g h d n c : ℕ) (es : List Entry) (x : HandPeer) → HandPeerOK g h d es x → d < limit →
    HandPeerStep g h d (d + 1) n c es x (gate_invite g h (nonce_of 0 g d) x)
invite_step g h d n c es x ok lt =
    let a : Nonce = nonce_of 0 g d in
    let z : HandPeer = with_handshake (Some (record { anonce = a })) (with_hand_end (with_offered None x.end) x) in
    let m : Message = Begin g h a in
    let sp : (p : Pair) → SpentAtGate d x p → SpentAtGate (d + 1) z p =
    λ p k. (omega arith, λ t. let i : p.anonce.index ≡ d = ap (λ (v : Nonce). v.index) (nonce→ p.anonce a t) in omega arith) in
    record {
      moves = moves_on (SpentAtGate d x) (SpentAtGate (d + 1) z) x.end z.end refl (omega arith) (omega arith) (omega arith) sp;
      ok = record {
        opened = (refl, omega arith, lt, in_here (Gate g) m es);
        offered = tt;
        key = gate_key_more g h d (d + 1) es (record { node = Gate g; message = m } ∷ es) x z x.end.key (in_more (Gate g) m es) sp ok.key;
      };
      says = ((refl, refl, omega arith), tt);
      delivers = tt;
      short = (omega arith, omega arith);
    }

-- what an open handshake's nonce is, by a pair that answers it
pub answered : (P : Nonce → Type 0) (p : Pair) (o : Option Handshake) → T (answers p o) → Any (λ (s : Handshake). P s.anonce) o → P p.anonce
answered P p None t h = elim t [ ]
answered P p (Some s) t h = subst P (sym (nonce→ p.anonce s.anonce t)) h

module _ (p : Pair) (d n c : ℕ) (es : List Entry) (x : HandPeer) (ok : HandPeerOK p.gate p.hand d es x) where
  abbrev Step : Out HandPeer → Type 0
  Step o = HandPeerStep p.gate p.hand d d n c es x o

  idle : Step (quiet x)
  idle = hand_peer_quiet p.gate p.hand d n c es x ok

  reply_step : In (Reply p) es → Step (gate_reply n c p x)
  reply_step said = cond_case Step (answers p x.handshake && not (is_this p x.end.key)) _ _ (λ u.
      let a = and_l (answers p x.handshake) _ u in
      let z : HandPeer = with_hand_end (with_offered (Some p) x.end) x in
      let m : Message = Take n c p in
      let o = hand_peer_more p.gate p.hand d d es (record { node = Gate p.gate; message = m } ∷ es) x (omega arith) (in_more (Gate p.gate) m es) ok in
      record {
        moves = moves_on (SpentAtGate d x) (SpentAtGate d z) x.end z.end refl (omega arith) (omega arith) (omega arith) (λ q h. h);
        ok = record { opened = o.opened; offered = (a, refl, refl, in_more (Gate p.gate) m es (Reply p) said); key = o.key };
        says = (
          (
            refl,
            said,
            (answered (OpenNonce p.gate p.hand d es) p x.handshake a ok.opened).3,
            refl,
            refl,
          ),
          tt,
        );
        delivers = tt;
        short = (omega arith, omega arith);
      }) idle

  taken_step : In (Taken p) es → Step (gate_taken p x)
  taken_step said = cond_case Step _ _ _ (λ u.
      let z : HandPeer = with_handshake None (with_hand_end (installed p) x) in
      let o = any_this (OfferAtGate p.gate p.hand es x) x.end.offered p (this→ p x.end.offered u) ok.offered in
      let i = (answered (OpenNonce p.gate p.hand d es) p x.handshake o.0 ok.opened).1 in
      record {
        moves = moves_new (SpentAtGate d x) (SpentAtGate d z) x.end z.end p refl (λ h. h.1 o.0) (λ q h. (h.0, λ t. t));
        ok = record { opened = tt; offered = tt; key = ((i, λ t. t), refl, refl, said) };
        says = tt;
        delivers = tt;
        short = (omega arith, omega arith);
      }) idle

  gate_load_step : (k b : ℕ) → In (Load Up k b p) es → Step (gate_load k b p x)
  gate_load_step k b said = end_hears_lem (λ o. Step (within (λ (e : Endpoint). with_hand_end e x) o)) Up k b p x.end idle (λ e le.
      let z : HandPeer = with_hand_end (with_floor (past k) x.end) x in
      let kk = any_this (KeyAtGate p.gate p.hand d es x) x.end.key p e ok.key in
      record {
        moves = moves_on (SpentAtGate d x) (SpentAtGate d z) x.end z.end refl (omega arith) (omega arith) (omega arith) (λ q h. h);
        ok = record { opened = ok.opened; offered = ok.offered; key = ok.key };
        says = tt;
        delivers = ((refl, refl, e, le, kk.0, omega arith, said), tt);
        short = (omega arith, omega arith);
      })

module _ (g h d n c : ℕ) (es : List Entry) (x : HandPeer) (ok : HandPeerOK g h d es x) where
  gate_send_step : (b : ℕ) → HandPeerStep g h d d n c es x (gate_send b x)
  gate_send_step b = end_sends_lem (λ o. HandPeerStep g h d d n c es x (within (λ (e : Endpoint). with_hand_end e x) o)) Down b x.end
      (hand_peer_quiet g h d n c es x ok) (λ p e.
      let z : HandPeer = with_hand_end (with_send (x.end.send + 1) x.end) x in
      let m : Message = Load Down x.end.send b p in
      let kk = any_this (KeyAtGate g h d es x) x.end.key p e ok.key in
      let o = hand_peer_more g h d d es (record { node = Gate g; message = m } ∷ es) x (omega arith) (in_more (Gate g) m es) ok in
      record {
        moves = moves_on (SpentAtGate d x) (SpentAtGate d z) x.end z.end refl (omega arith) (omega arith) (omega arith) (λ q h. h);
        ok = record { opened = o.opened; offered = o.offered; key = o.key };
        says = ((kk.1, kk.2, e, refl, kk.0, omega arith), tt);
        delivers = tt;
        short = (omega arith, omega arith);
      })

  rekey_by : (k : Option Pair) → x.end.key ≡ k → HandPeerStep g h d d n c es x (within (λ (e : Endpoint). with_hand_end e x) (end_rekeys_by k n c x.end))
  rekey_by None e = hand_peer_quiet g h d n c es x ok
  rekey_by (Some p) e = cond_case (λ o. HandPeerStep g h d d n c es x (within (λ (e : Endpoint). with_hand_end e x) o)) (has_next x.end.round) _ _ (λ _.
      let z : HandPeer = with_hand_end (with_round (x.end.round + 1) x.end) x in
      let m : Message = Renew (x.end.round + 1) n c p in
      let kk = any_this (KeyAtGate g h d es x) x.end.key p e ok.key in
      let o = hand_peer_more g h d d es (record { node = Gate g; message = m } ∷ es) x (omega arith) (in_more (Gate g) m es) ok in
      record {
        moves = moves_on (SpentAtGate d x) (SpentAtGate d z) x.end z.end refl (omega arith) (omega arith) (omega arith) (λ q h. h);
        ok = record { opened = o.opened; offered = o.offered; key = o.key };
        says = ((kk.1, kk.2, e, refl, kk.0, omega arith, refl, refl), tt);
        delivers = tt;
        short = (omega arith, omega arith);
      }) (hand_peer_quiet g h d n c es x ok)

  rekey_step : HandPeerStep g h d d n c es x (gate_rekey n c x)
  rekey_step = rekey_by x.end.key refl

-- a pair that answers the open handshake is not in use
pub answer_not_in_use : (g h d : ℕ) (es : List Entry) (x : HandPeer) (p : Pair) → HandPeerOK g h d es x → T (answers p x.handshake) → T (not (is_this p x.end.key))
answer_not_in_use g h d es x p ok t = not_T (is_this p x.end.key) (λ u. (any_this (KeyAtGate g h d es x) x.end.key p (this→ p x.end.key u) ok.key).0.1 t)

-- ---- the whole gate

module _ (g : ℕ) (es : List Entry) (y : GateState) (ok : GateOK g es y) where
  pub gate_quiet : GateStep g es y (quiet y)
  gate_quiet = record { moves = gate_same y; ok = ok; says = tt; delivers = tt; short = (omega arith, omega arith); limits = λ h. h }

  gate_at_lem : (h f : ℕ) (rule : HandPeer → Out HandPeer) → y.draws ≤ f →
      HandPeerStep g h y.draws f y.group y.counter es (hand_peer h y) (rule (hand_peer h y)) → GateStep g es y (gate_at f h rule y)
  gate_at_lem h f rule le st = cond_case (GateStep g es y) _ _ _ (λ u.
      let z : GateState = with_hand_peer f h o.held y in
      let l = hand_peer_lift g h f es (logged (Gate g) o.says es) y o.held le (in_logged (Gate g) o.says es) ok st.moves st.ok in
      let here : hand_peer h z ≡ o.held = get_or-set_same y.peers h o.held new_hand_peer (ltb→lt h (length y.peers) u) in
      record {
        moves = l.0;
        ok = l.1;
        says = each_map (HandPeerSays g h y.draws f y.group y.counter es (hand_peer h y) o.held) (GateSays g es y z) (said z here) o.says st.says;
        delivers = each_map (HandPeerDelivers g h f es (hand_peer h y) o.held) (GateDelivers g es y z) (delivered z here) o.delivers st.delivers;
        short = st.short;
        limits = λ h. h;
      }) gate_quiet
    where
      o : Out HandPeer
      o = rule (hand_peer h y)

      to_old : (p : Pair) (P : HandPeer → Type 0) → p.hand ≡ h → P (hand_peer h y) → P (hand_peer p.hand y)
      to_old p P e k = subst (λ i. P (hand_peer i y)) (sym e) k

      to_new : (z : GateState) → hand_peer h z ≡ o.held → (p : Pair) (P : HandPeer → Type 0) → p.hand ≡ h → P o.held → P (hand_peer p.hand z)
      to_new z here p P e k = subst (λ i. P (hand_peer i z)) (sym e) (subst P (sym here) k)

      said : (z : GateState) → hand_peer h z ≡ o.held → (m : Message) →
          HandPeerSays g h y.draws z.draws y.group y.counter es (hand_peer h y) o.held m → GateSays g es y z m
      said z here (Begin i t a) k = k
      said z here (Reply p) k = k
      said z here (Take i j p) k = k
      said z here (Taken p) k = k
      said z here (Renew r i j p) k = (
        k.0,
        to_old p (λ v. v.end.key ≡ Some p) k.1 k.2,
        to_old p (λ v. r ≡ v.end.round + 1) k.1 k.3,
        to_new z here p (λ v. SpentAtGate z.draws v p) k.1 k.4,
        to_new z here p (λ v. r ≤ v.end.round) k.1 k.5,
        k.6,
        k.7,
      )
      said z here (Load Up i b p) k = k
      said z here (Load Down i b p) k = (
        k.0,
        to_old p (λ v. v.end.key ≡ Some p) k.1 k.2,
        to_old p (λ v. i ≡ v.end.send) k.1 k.3,
        to_new z here p (λ v. SpentAtGate z.draws v p) k.1 k.4,
        to_new z here p (λ v. i < v.end.send) k.1 k.5,
      )
      said z here (All i m j b) k = absurd k

      delivered : (z : GateState) → hand_peer h z ≡ o.held → (m : Message) → HandPeerDelivers g h z.draws es (hand_peer h y) o.held m → GateDelivers g es y z m
      delivered z here (Begin i t a) k = k
      delivered z here (Reply p) k = k
      delivered z here (Take i j p) k = k
      delivered z here (Taken p) k = k
      delivered z here (Renew r i j p) k = k
      delivered z here (Load Up i b p) k = (
        k.0,
        to_old p (λ v. v.end.key ≡ Some p) k.1 k.2,
        to_old p (λ v. v.end.floor ≤ i) k.1 k.3,
        to_new z here p (λ v. SpentAtGate z.draws v p) k.1 k.4,
        to_new z here p (λ v. i < v.end.floor) k.1 k.5,
        k.6,
      )
      delivered z here (Load Down i b p) k = k
      delivered z here (All i m j b) k = k

  broadcast_step : (b : ℕ) → GateStep g es y (gate_broadcasts g b y)
  broadcast_step b = cond_case (GateStep g es y) _ _ _ (λ u.
      let lt = ltb→lt y.counter limit (and_r (is_body b) _ u) in
      let m : Message = All g y.group y.counter b in
      record {
        moves = record {
          draws = omega arith;
          peers = λ h. hand_peer_stays y.draws y.draws (hand_peer h y) (omega arith);
          up = (omega arith, λ _. omega arith);
          size = refl;
        };
        ok = λ h. hand_peer_more g h y.draws y.draws es (record { node = Gate g; message = m } ∷ es) (hand_peer h y) (omega arith) (in_more (Gate g) m es) (ok h);
        says = ((refl, refl, refl, (omega arith, λ _. omega arith)), tt);
        delivers = tt;
        short = (omega arith, omega arith);
        limits = λ h. (omega arith, h.1);
      })
      gate_quiet

  rotate_step : GateStep g es y (gate_rotates y)
  rotate_step = cond_case (GateStep g es y) _ _ _ (λ u.
      let lt = ltb→lt y.group limit u in
      record {
        moves = record {
          draws = omega arith;
          peers = λ h. hand_peer_stays y.draws y.draws (hand_peer h y) (omega arith);
          up = (omega arith, λ e. omega arith);
          size = refl;
        };
        ok = ok;
        says = tt;
        delivers = tt;
        short = (omega arith, omega arith);
        limits = λ _. (omega arith, omega arith);
      }) gate_quiet

  new_ok : (h : ℕ) → HandPeerOK g h y.draws es new_hand_peer
  new_ok h = record { opened = tt; offered = tt; key = tt }

  new_moves : (x : HandPeer) → HandPeerMoves y.draws y.draws x new_hand_peer
  new_moves x = moves_none (SpentAtGate y.draws x) (SpentAtGate y.draws new_hand_peer) x.end new_hand_peer.end refl (λ p h. (h.0, λ t. t))

  forget_step : y.counter ≤ limit → GateStep g es y (gate_forgets y)
  forget_step le = record {
    moves = record {
      draws = omega arith;
      peers = λ h. subst (λ v. HandPeerMoves y.draws y.draws (hand_peer h y) v) (sym (replicate_at (length y.peers) h new_hand_peer)) (new_moves (hand_peer h y));
      up = forgot (has_next y.group);
      size = length-replicate (length y.peers) new_hand_peer;
    };
    ok = λ h. subst (λ v. HandPeerOK g h y.draws es v) (sym (replicate_at (length y.peers) h new_hand_peer)) (new_ok h);
    says = tt;
    delivers = tt;
    short = (omega arith, omega arith);
    limits = λ h. (capped (has_next y.group), group_capped (has_next y.group) (λ t. ltb→lt y.group limit t) h.1);
  }
    where
      capped : (t : Bool) → cond t 0 limit ≤ limit
      capped true = omega arith
      capped false = omega arith

      group_capped : (t : Bool) → (T t → y.group < limit) → y.group ≤ limit → cond t (y.group + 1) y.group ≤ limit
      group_capped true f h = let l = f tt in omega arith
      group_capped false f h = h

      forgot : (t : Bool) → UpTo y.group y.counter (cond t (y.group + 1) y.group) (cond t 0 limit)
      forgot true = (omega arith, λ e. omega arith)
      forgot false = (omega arith, λ e. omega arith)

  pub gate_acts_lem : (a : GateAct) → InLimits y → GateStep g es y (gate_acts g a y)
  gate_acts_lem (Invite h) lim = cond_case (GateStep g es y) _ _ _ (λ t. gate_at_lem h (y.draws + 1) (gate_invite g h (nonce_of 0 g y.draws)) (omega arith)
      (invite_step g h y.draws y.group y.counter es (hand_peer h y) (ok h) (ltb→lt y.draws limit t))) gate_quiet
  gate_acts_lem (SendDown h b) lim = gate_at_lem h y.draws (gate_send b) (omega arith) (gate_send_step g h y.draws y.group y.counter es (hand_peer h y) (ok h) b)
  gate_acts_lem (Broadcast b) lim = broadcast_step b
  gate_acts_lem Rotate lim = rotate_step
  gate_acts_lem (Rekey h) lim = gate_at_lem h y.draws (gate_rekey y.group y.counter) (omega arith)
      (rekey_step g h y.draws y.group y.counter es (hand_peer h y) (ok h))
  gate_acts_lem ForgetGate lim = forget_step lim.0

module _ (p : Pair) (es : List Entry) (y : GateState) (ok : GateOK p.gate es y) where
  pub gate_hears_reply : In (Reply p) es → GateStep p.gate es y (gate_hears (Reply p) y)
  gate_hears_reply said = gate_at_lem p.gate es y ok p.hand y.draws (gate_reply y.group y.counter p) (omega arith)
      (reply_step p y.draws y.group y.counter es (hand_peer p.hand y) (ok p.hand) said)

  pub gate_hears_taken : In (Taken p) es → GateStep p.gate es y (gate_hears (Taken p) y)
  gate_hears_taken said = gate_at_lem p.gate es y ok p.hand y.draws (gate_taken p) (omega arith)
      (taken_step p y.draws y.group y.counter es (hand_peer p.hand y) (ok p.hand) said)

  pub gate_hears_load : (c b : ℕ) → In (Load Up c b p) es → GateStep p.gate es y (gate_hears (Load Up c b p) y)
  gate_hears_load c b said = gate_at_lem p.gate es y ok p.hand y.draws (gate_load c b p) (omega arith)
      (gate_load_step p y.draws y.group y.counter es (hand_peer p.hand y) (ok p.hand) c b said)
