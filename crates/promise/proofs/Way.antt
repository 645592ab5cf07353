-- From any world that can be reached there is a way on.
use Rattle.std.proofs.Common.{◌≡◌, ℕ, ◌+◌, ◌^◌, ◌<◌, ◌≤◌, min, true, not, ◌&&◌, T, eqb, ltb, List, ◌∷◌, length, get_or, set, is_some, Some, None, sym, refl, ap, subst, arith, le→leb, ltb→lt, lt→ltb, length-set, get_or-set_same}
use lib.Dec.{eqb_refl}
use Rattle.frame.specs.declared.message.Node.{Node}
use Rattle.frame.specs.declared.message.Node.TheVariants.{Gate, Hand}
use Rattle.frame.specs.declared.message.Nonce.{Nonce}
use Rattle.frame.specs.declared.message.Pair.{Pair}
use Rattle.frame.specs.declared.message.Direction.{Direction}
use Rattle.frame.specs.declared.message.Direction.TheVariants.{Up, Down}
use Rattle.frame.specs.declared.message.Message.{Message}
use Rattle.frame.specs.declared.message.Message.TheVariants.{Begin, Reply, Take, Taken, Load, All}
use Rattle.frame.specs.Row.{code, pair_row, is_small}
use Rattle.protocol.specs.declared.held.Endpoint.{Endpoint}
use Rattle.protocol.specs.declared.held.GatePeer.{GatePeer}
use Rattle.protocol.specs.declared.held.HandPeer.{HandPeer}
use Rattle.protocol.specs.Held.{nonce_of, pair_of, same_nonce, is_this, with_offered, with_send, with_floor, installed, new_gate_peer, with_gate_end, HandState, new_hand_peer, with_hand_end, with_handshake, GateState}
use Rattle.protocol.specs.declared.acts.HandAct.{HandAct}
use Rattle.protocol.specs.declared.acts.HandAct.TheVariants.{SendUp}
use Rattle.protocol.specs.declared.acts.GateAct.{GateAct}
use Rattle.protocol.specs.declared.acts.GateAct.TheVariants.{Invite, SendDown, Broadcast}
use Rattle.protocol.specs.Rules.{Out, quiet, saying, delivering, within, limit, has_next, is_body, accepts, end_hears, end_sends, learns, hand_begin, hand_take, hand_load, hand_all, hand_send, gate_peer, hand_at, hand_hears, hand_acts, answers, gate_invite, gate_reply, gate_taken, gate_load, gate_send, hand_peer, gate_at, gate_hears, gate_acts}
use Rattle.protocol.specs.Calls.{is_for_hand, is_for_gate, gate_may, hand_may, gate_does, hand_does, gate_hears_row, hand_hears_row}
use Rattle.protocol.specs.World.{Entry, World, start, gate, hand, logged, put_gate, put_hand, same_row, may_be_heard, heard_by, hearer, GateActs, HandActs, Hears, happens, after}
use Rattle.protocol.specs.Promise.{Each, Always, same_node, is_logged, handshake, Joined, WayOn, WayOpen}
use Rattle.promise.proofs.Base.{and_i, or_l, cond_yes, is_true, from_true, eqb←, nonce_refl, this←, node_refl, row_refl, In, in_here, logged_own, any_this}
use Rattle.promise.proofs.Ends.{UpTo, OpenAtGate, with_hand_peer, with_gate_peer}
use Rattle.promise.proofs.Gates.{answer_not_in_use}
use Rattle.promise.proofs.Hands.{learns_up}
use Rattle.promise.proofs.Rows.{hand_row_heard, gate_row_heard, small_of, below_min}
use Rattle.promise.proofs.Invariant.{Inv}
use Rattle.promise.proofs.Keeps.{always, happens_keeps, no_gate, no_hand}

-- ---- one event: the end is there, the message may be heard and is not refused, so the rule is applied

module _ (i j : ℕ) (w : World) (R : World → Type 0) where
  gate_acts_on : (a : GateAct) → i < length w.gates → T (gate_may (length w.hands) a) → R (put_gate i (gate_acts i a (gate i w)) w) → R (happens (GateActs i a) w)
  unfolding gate_does
  gate_acts_on a li may h = cond_yes R (ltb i (length w.gates)) _ w (lt→ltb i (length w.gates) li)
      (cond_yes (λ o. R (put_gate i o w)) (gate_may (length w.hands) a) (gate_acts i a (gate i w)) (quiet (gate i w)) may h)

  hand_acts_on : (a : HandAct) → j < length w.hands → T (hand_may (length w.gates) a) → R (put_hand j (hand_acts a (hand j w)) w) → R (happens (HandActs j a) w)
  unfolding hand_does
  hand_acts_on a lj may h = cond_yes R (ltb j (length w.hands)) _ w (lt→ltb j (length w.hands) lj)
      (cond_yes (λ o. R (put_hand j o w)) (hand_may (length w.gates) a) (hand_acts a (hand j w)) (quiet (hand j w)) may h)

  gate_hears_on : (m : Message) → hearer j m ≡ Gate i → T (may_be_heard m w.transcript) → i < length w.gates → T (is_small (code m)) →
      T (is_for_gate i (min (length w.hands) (length (gate i w).peers)) m) → R (put_gate i (gate_hears m (gate i w)) w) → R (happens (Hears j m) w)
  gate_hears_on m e may li small mine h = cond_yes R (may_be_heard m w.transcript) (heard_by (hearer j m) (code m) w) w may
      (subst (λ n. R (heard_by n (code m) w)) (sym e)
      (cond_yes R (ltb i (length w.gates)) (put_gate i (gate_hears_row i (length w.hands) (code m) true (gate i w)) w) w (lt→ltb i (length w.gates) li)
      (gate_row_heard i (length w.hands) m (gate i w) (λ o. R (put_gate i o w)) small mine h)))

  hand_hears_on : (m : Message) → hearer j m ≡ Hand j → T (may_be_heard m w.transcript) → j < length w.hands → T (is_small (code m)) →
      T (is_for_hand (min (length w.gates) (length (hand j w).peers)) j m) → R (put_hand j (hand_hears j m (hand j w)) w) → R (happens (Hears j m) w)
  hand_hears_on m e may lj small mine h = cond_yes R (may_be_heard m w.transcript) (heard_by (hearer j m) (code m) w) w may
      (subst (λ n. R (heard_by n (code m) w)) (sym e)
      (cond_yes R (ltb j (length w.hands)) (put_hand j (hand_hears_row (length w.gates) j (code m) true (hand j w)) w) w (lt→ltb j (length w.hands) lj)
      (hand_row_heard (length w.gates) j m (hand j w) (λ o. R (put_hand j o w)) small mine h)))

gate_at_on : (R : Out GateState → Type 0) (d h : ℕ) (rule : HandPeer → Out HandPeer) (y : GateState) → h < length y.peers →
    R (within (λ (x : HandPeer). with_hand_peer d h x y) (rule (hand_peer h y))) → R (gate_at d h rule y)
gate_at_on R d h rule y lt k = cond_yes R (ltb h (length y.peers)) _ (quiet y) (lt→ltb h (length y.peers) lt) k

hand_at_on : (R : Out HandState → Type 0) (d g : ℕ) (rule : GatePeer → Out GatePeer) (y : HandState) → g < length y.peers →
    R (within (λ (x : GatePeer). with_gate_peer d g x y) (rule (gate_peer g y))) → R (hand_at d g rule y)
hand_at_on R d g rule y lt k = cond_yes R (ltb g (length y.peers)) _ (quiet y) (lt→ltb g (length y.peers) lt) k

-- the first load under a pair that has just come into use, at either kind of end
send_first : (R : Out Endpoint → Type 0) (p : Pair) (d : Direction) (b : ℕ) (e : Endpoint) → e ≡ installed p → T (is_body b) →
    R (saying (with_send 1 (installed p)) (Load d 0 b p)) → R (end_sends d b e)
send_first R p d b e eq body h = subst (λ v. R (end_sends d b v)) (sym eq) (cond_yes R (is_body b && has_next 0) _ _ (and_i (is_body b) (has_next 0) body tt) h)

hear_first : (R : Out Endpoint → Type 0) (p : Pair) (d : Direction) (b : ℕ) (e : Endpoint) → e ≡ installed p →
    R (delivering (with_floor 1 (installed p)) (Load d 0 b p)) → R (end_hears d 0 b p e)
hear_first R p d b e eq h = subst (λ v. R (end_hears d 0 b p v)) (sym eq)
    (cond_yes R (is_this p (Some p) && accepts 0 0) _ _ (and_i (is_this p (Some p)) (accepts 0 0) (this← p (Some p) refl) tt) h)

logged_here : (n : Node) (m : Message) (ds : List Entry) → T (is_logged n m (record { node = n; message = m } ∷ ds))
logged_here n m ds = or_l (same_node n n && same_row (code m) (code m)) (is_logged n m ds)
    (and_i (same_node n n) (same_row (code m) (code m)) (node_refl n) (row_refl (code m)))

-- ---- what is known of a world: of gate i's group key and counter, of what it and handheld j hold for each other, and of
-- what was sent

module _ (i j : ℕ) where
  pub record Known (PN : ℕ → ℕ → Type 0) (PG : HandPeer → Type 0) (PH : GatePeer → Type 0) (PT : List Entry → Type 0) (w : World) : Type 0 where
    pub li : i < length w.gates
    pub lj : j < length w.hands
    pub gi : j < length (gate i w).peers
    pub hj : i < length (hand j w).peers
    pub n : PN (gate i w).group (gate i w).counter
    pub g : PG (hand_peer j (gate i w))
    pub h : PH (gate_peer i (hand j w))
    pub t : PT w.transcript

  gate_known : (PN : ℕ → ℕ → Type 0) (PG QG : HandPeer → Type 0) (PH : GatePeer → Type 0) (PT QT : List Entry → Type 0) (w : World) (d : ℕ) (o : Out HandPeer) →
      Known PN PG PH PT w →
      QG o.held → QT (logged (Gate i) o.says w.transcript) → Known PN QG PH QT (put_gate i (within (λ (x : HandPeer). with_hand_peer d j x (gate i w)) o) w)
  gate_known PN PG QG PH PT QT w d o k f q =
      let y : GateState = with_hand_peer d j o.held (gate i w) in
      let e : y ≡ get_or (set w.gates i y) i no_gate = sym (get_or-set_same w.gates i y no_gate k.li) in
      record {
        li = rw length-set k.li;
        lj = k.lj;
        hj = k.hj;
        h = k.h;
        t = q;
        gi = subst (λ (z : GateState). j < length z.peers) e (rw length-set k.gi);
        n = subst (λ (z : GateState). PN z.group z.counter) e k.n;
        g = subst (λ (z : GateState). QG (hand_peer j z)) e (subst QG (sym (get_or-set_same (gate i w).peers j o.held new_hand_peer k.gi)) f);
      }

  hand_known : (PN : ℕ → ℕ → Type 0) (PG : HandPeer → Type 0) (PH QH : GatePeer → Type 0) (PT QT : List Entry → Type 0) (w : World) (d : ℕ) (o : Out GatePeer) →
      Known PN PG PH PT w →
      QH o.held → QT (logged (Hand j) o.says w.transcript) → Known PN PG QH QT (put_hand j (within (λ (x : GatePeer). with_gate_peer d i x (hand j w)) o) w)
  hand_known PN PG PH QH PT QT w d o k f q =
      let y : HandState = with_gate_peer d i o.held (hand j w) in
      let e : y ≡ get_or (set w.hands j y) j no_hand = sym (get_or-set_same w.hands j y no_hand k.lj) in
      record {
        li = k.li;
        lj = rw length-set k.lj;
        gi = k.gi;
        n = k.n;
        g = k.g;
        t = q;
        hj = subst (λ (z : HandState). i < length z.peers) e (rw length-set k.hj);
        h = subst (λ (z : HandState). QH (gate_peer i z)) e (subst QH (sym (get_or-set_same (hand j w).peers i o.held new_gate_peer k.hj)) f);
      }

  mine_hand : (PN : ℕ → ℕ → Type 0) (PG : HandPeer → Type 0) (PH : GatePeer → Type 0) (PT : List Entry → Type 0) (w : World) → Known PN PG PH PT w →
      T (ltb i (min (length w.gates) (length (hand j w).peers)))
  mine_hand PN PG PH PT w k = below_min i (length w.gates) (length (hand j w).peers) k.li k.hj

  mine_gate : (PN : ℕ → ℕ → Type 0) (PG : HandPeer → Type 0) (PH : GatePeer → Type 0) (PT : List Entry → Type 0) (w : World) → Known PN PG PH PT w →
      T (ltb j (min (length w.hands) (length (gate i w).peers)))
  mine_gate PN PG PH PT w k = below_min j (length w.hands) (length (gate i w).peers) k.lj k.gi

-- ---- the handshake, step by step

-- all numbers fit a row, and there is a group key
pub record Fit (i j ds n c : ℕ) (a : Nonce) : Type 0 where
  pub gate : i < 2 ^ 49
  pub hand : j < 2 ^ 49
  pub kind : a.kind < 2 ^ 49
  pub node : a.node < 2 ^ 49
  pub index : a.index < 2 ^ 49
  pub draws : ds < limit
  pub group : n ≤ limit
  pub counter : c ≤ limit
  pub grouped : 1 ≤ n

abbrev AnyNumbers : ℕ → ℕ → Type 0
AnyNumbers m k = Unit {0}

abbrev AnyGate : HandPeer → Type 0
AnyGate x = Unit {0}

abbrev AnyHand : GatePeer → Type 0
AnyHand x = Unit {0}

abbrev AnyLog : List Entry → Type 0
AnyLog es = Unit {0}

module _ (i j ds n c : ℕ) (a : Nonce) (fit : Fit i j ds n c a) where
  -- the pair that comes of it
  abbrev pair : Pair
  pair = pair_of i j a (nonce_of 1 j ds)

  abbrev Numbers : ℕ → ℕ → Type 0
  Numbers m k = (m ≡ n) × (k ≡ c)

  abbrev Opened : HandPeer → Type 0
  Opened x = T (answers pair x.handshake)

  abbrev GateOffers : HandPeer → Type 0
  GateOffers x = x.end.offered ≡ Some pair

  abbrev GateUses : HandPeer → Type 0
  GateUses x = x.end ≡ installed pair

  abbrev HandOffers : GatePeer → Type 0
  HandOffers x = x.end.offered ≡ Some pair

  abbrev HandUses : GatePeer → Type 0
  HandUses x = (x.end ≡ installed pair) × UpTo n c x.group x.floor

  small_pair : Each (λ x. x < 2 ^ 49) (pair_row pair)
  small_pair = (fit.gate, (fit.hand, (fit.kind, (fit.node, (fit.index, (omega arith, (fit.hand, (omega arith, tt))))))))

  way_invite : (w : World) → a ≡ nonce_of 0 i (gate i w).draws → (gate i w).draws < limit → Known i j Numbers AnyGate AnyHand AnyLog w →
      Known i j Numbers Opened AnyHand AnyLog (happens (GateActs i (Invite j)) w)
  way_invite w e lt k =
      let y : GateState = gate i w in
      let R : World → Type 0 = Known i j Numbers Opened AnyHand AnyLog in
      gate_acts_on i j w R (Invite j) k.li (lt→ltb j (length w.hands) k.lj)
      (cond_yes (λ o. R (put_gate i o w)) (has_next y.draws) (gate_at (y.draws + 1) j (gate_invite i j (nonce_of 0 i y.draws)) y) (quiet y)
      (lt→ltb y.draws limit lt)
      (gate_at_on (λ o. R (put_gate i o w)) (y.draws + 1) j (gate_invite i j (nonce_of 0 i y.draws)) y k.gi
      (gate_known i j Numbers AnyGate Opened AnyHand AnyLog AnyLog w (y.draws + 1) (gate_invite i j (nonce_of 0 i y.draws) (hand_peer j y)) k
      (subst (λ v. T (same_nonce a v)) e (nonce_refl a)) tt)))

  way_begin : (w : World) → (hand j w).draws ≡ ds → Known i j Numbers Opened AnyHand AnyLog w →
      Known i j Numbers Opened HandOffers (In (Reply pair)) (happens (Hears j (Begin i j a)) w)
  way_begin w e k =
      let y : HandState = hand j w in
      let R : World → Type 0 = Known i j Numbers Opened HandOffers (In (Reply pair)) in
      let q : Pair = pair_of i j a (nonce_of 1 j y.draws) in
      hand_hears_on i j w R (Begin i j a) refl tt k.lj
      (small_of (code (Begin i j a)) (omega arith, (fit.gate, (fit.hand, (fit.kind, (fit.node, (fit.index, tt)))))))
      (and_i (ltb i (min (length w.gates) (length y.peers))) (eqb j j) (mine_hand i j Numbers Opened AnyHand AnyLog w k) (eqb_refl j))
      (cond_yes (λ o. R (put_hand j o w)) (has_next y.draws) (hand_at (y.draws + 1) i (hand_begin q) y) (quiet y) (lt→ltb y.draws limit (omega arith))
      (hand_at_on (λ o. R (put_hand j o w)) (y.draws + 1) i (hand_begin q) y k.hj
      (hand_known i j Numbers Opened AnyHand HandOffers AnyLog (In (Reply pair)) w (y.draws + 1) (hand_begin q (gate_peer i y)) k
      (ap (λ d. Some (pair_of i j a (nonce_of 1 j d))) e)
      (subst (λ d. In (Reply pair) (record { node = Hand j; message = Reply (pair_of i j a (nonce_of 1 j d)) } ∷ w.transcript)) (sym e)
      (in_here (Hand j) (Reply pair) w.transcript)))))

  way_reply : (w : World) → Inv w → Known i j Numbers Opened HandOffers (In (Reply pair)) w →
      Known i j Numbers GateOffers HandOffers (In (Take n c pair)) (happens (Hears j (Reply pair)) w)
  way_reply w inv k =
      let y : GateState = gate i w in
      let x : HandPeer = hand_peer j y in
      let R : World → Type 0 = Known i j Numbers GateOffers HandOffers (In (Take n c pair)) in
      let S : Out HandPeer → Type 0 = λ o. R (put_gate i (within (λ (x : HandPeer). with_hand_peer y.draws j x y) o) w) in
      let z : HandPeer = with_hand_end (with_offered (Some pair) x.end) x in
      gate_hears_on i j w R (Reply pair) refl k.t k.li (small_of (code (Reply pair)) (omega arith, small_pair))
      (and_i (eqb i i) (ltb j (min (length w.hands) (length y.peers))) (eqb_refl i) (mine_gate i j Numbers Opened HandOffers (In (Reply pair)) w k))
      (gate_at_on (λ o. R (put_gate i o w)) y.draws j (gate_reply y.group y.counter pair) y k.gi
      (cond_yes S (answers pair x.handshake && not (is_this pair x.end.key)) (saying z (Take y.group y.counter pair)) (quiet x)
      (and_i (answers pair x.handshake) (not (is_this pair x.end.key)) k.g
      (answer_not_in_use i j y.draws w.transcript x pair (inv.gates i j) k.g))
      (gate_known i j Numbers Opened GateOffers HandOffers (In (Reply pair)) (In (Take n c pair)) w y.draws (saying z (Take y.group y.counter pair)) k refl
      (subst (λ v. In (Take n c pair) (record { node = Gate i; message = Take v y.counter pair } ∷ w.transcript)) (sym k.n.0)
      (subst (λ v. In (Take n c pair) (record { node = Gate i; message = Take n v pair } ∷ w.transcript)) (sym k.n.1)
      (in_here (Gate i) (Take n c pair) w.transcript))))))

  way_take : (w : World) → Known i j Numbers GateOffers HandOffers (In (Take n c pair)) w →
      Known i j Numbers GateOffers HandUses (In (Taken pair)) (happens (Hears j (Take n c pair)) w)
  way_take w k =
      let y : HandState = hand j w in
      let x : GatePeer = gate_peer i y in
      let R : World → Type 0 = Known i j Numbers GateOffers HandUses (In (Taken pair)) in
      let S : Out GatePeer → Type 0 = λ o. R (put_hand j (within (λ (x : GatePeer). with_gate_peer y.draws i x y) o) w) in
      let z : GatePeer = learns n c (with_gate_end (installed pair) x) in
      hand_hears_on i j w R (Take n c pair) refl k.t k.lj (small_of (code (Take n c pair)) (omega arith, (omega arith, (omega arith, small_pair))))
      (and_i (ltb i (min (length w.gates) (length y.peers))) (eqb j j) (mine_hand i j Numbers GateOffers HandOffers (In (Take n c pair)) w k) (eqb_refl j))
      (hand_at_on (λ o. R (put_hand j o w)) y.draws i (hand_take n c pair) y k.hj
      (cond_yes S (is_this pair x.end.offered) (saying z (Taken pair)) _ (this← pair x.end.offered k.h)
      (hand_known i j Numbers GateOffers HandOffers HandUses (In (Take n c pair)) (In (Taken pair)) w y.draws (saying z (Taken pair)) k
      (refl, (learns_up n c (with_gate_end (installed pair) x)).1 fit.grouped) (in_here (Hand j) (Taken pair) w.transcript))))

  way_taken : (w : World) → Known i j Numbers GateOffers HandUses (In (Taken pair)) w → Known i j Numbers GateUses HandUses AnyLog (happens (Hears j (Taken pair)) w)
  way_taken w k =
      let y : GateState = gate i w in
      let x : HandPeer = hand_peer j y in
      let R : World → Type 0 = Known i j Numbers GateUses HandUses AnyLog in
      let S : Out HandPeer → Type 0 = λ o. R (put_gate i (within (λ (x : HandPeer). with_hand_peer y.draws j x y) o) w) in
      let z : HandPeer = with_handshake None (with_hand_end (installed pair) x) in
      gate_hears_on i j w R (Taken pair) refl k.t k.li (small_of (code (Taken pair)) (omega arith, small_pair))
      (and_i (eqb i i) (ltb j (min (length w.hands) (length y.peers))) (eqb_refl i) (mine_gate i j Numbers GateOffers HandUses (In (Taken pair)) w k))
      (gate_at_on (λ o. R (put_gate i o w)) y.draws j (gate_taken pair) y k.gi
      (cond_yes S (is_this pair x.end.offered) (quiet z) (quiet x) (this← pair x.end.offered k.g)
      (gate_known i j Numbers GateOffers GateUses HandUses (In (Taken pair)) AnyLog w y.draws (quiet z) k refl tt)))

  -- ---- frames

  send_down : (w : World) (b : ℕ) → T (is_body b) → Known i j Numbers GateUses HandUses AnyLog w →
      Known i j Numbers AnyGate HandUses (In (Load Down 0 b pair)) (happens (GateActs i (SendDown j b)) w)
  send_down w b body k =
      let y : GateState = gate i w in
      let x : HandPeer = hand_peer j y in
      let R : World → Type 0 = Known i j Numbers AnyGate HandUses (In (Load Down 0 b pair)) in
      gate_acts_on i j w R (SendDown j b) k.li (lt→ltb j (length w.hands) k.lj)
      (gate_at_on (λ o. R (put_gate i o w)) y.draws j (gate_send b) y k.gi
      (send_first (λ o. R (put_gate i (within (λ (x : HandPeer). with_hand_peer y.draws j x y) (within (λ (e : Endpoint). with_hand_end e x) o)) w)) pair Down b
      x.end k.g body
      (gate_known i j Numbers GateUses AnyGate HandUses AnyLog (In (Load Down 0 b pair)) w y.draws
      (saying (with_hand_end (with_send 1 (installed pair)) x) (Load Down 0 b pair)) k tt
      (in_here (Gate i) (Load Down 0 b pair) w.transcript))))

  deliver_down : (w : World) (b : ℕ) → T (is_body b) → Known i j Numbers AnyGate HandUses (In (Load Down 0 b pair)) w →
      T (is_logged (Hand j) (Load Down 0 b pair) (happens (Hears j (Load Down 0 b pair)) w).deliveries)
  deliver_down w b body k =
      let y : HandState = hand j w in
      let x : GatePeer = gate_peer i y in
      let m : Message = Load Down 0 b pair in
      let R : World → Type 0 = λ v. T (is_logged (Hand j) m v.deliveries) in
      hand_hears_on i j w R m refl k.t k.lj (small_of (code m) (omega arith, (omega arith, (omega arith, (ltb→lt b (2 ^ 49) body, small_pair)))))
      (and_i (ltb i (min (length w.gates) (length y.peers))) (eqb j j) (mine_hand i j Numbers AnyGate HandUses (In m) w k) (eqb_refl j))
      (hand_at_on (λ o. R (put_hand j o w)) y.draws i (hand_load 0 b pair) y k.hj
      (hear_first (λ o. R (put_hand j (within (λ (x : GatePeer). with_gate_peer y.draws i x y) (within (λ (e : Endpoint). with_gate_end e x) o)) w)) pair Down b
      x.end k.h.0
      (logged_here (Hand j) m w.deliveries)))

  send_up : (w : World) (b : ℕ) → T (is_body b) → Known i j Numbers GateUses HandUses AnyLog w →
      Known i j Numbers GateUses AnyHand (In (Load Up 0 b pair)) (happens (HandActs j (SendUp i b)) w)
  send_up w b body k =
      let y : HandState = hand j w in
      let x : GatePeer = gate_peer i y in
      let R : World → Type 0 = Known i j Numbers GateUses AnyHand (In (Load Up 0 b pair)) in
      hand_acts_on i j w R (SendUp i b) k.lj (lt→ltb i (length w.gates) k.li)
      (hand_at_on (λ o. R (put_hand j o w)) y.draws i (hand_send b) y k.hj
      (send_first (λ o. R (put_hand j (within (λ (x : GatePeer). with_gate_peer y.draws i x y) (within (λ (e : Endpoint). with_gate_end e x) o)) w)) pair Up b
      x.end k.h.0 body
      (hand_known i j Numbers GateUses HandUses AnyHand AnyLog (In (Load Up 0 b pair)) w y.draws
      (saying (with_gate_end (with_send 1 (installed pair)) x) (Load Up 0 b pair)) k tt
      (in_here (Hand j) (Load Up 0 b pair) w.transcript))))

  deliver_up : (w : World) (b : ℕ) → T (is_body b) → Known i j Numbers GateUses AnyHand (In (Load Up 0 b pair)) w →
      T (is_logged (Gate i) (Load Up 0 b pair) (happens (Hears j (Load Up 0 b pair)) w).deliveries)
  deliver_up w b body k =
      let y : GateState = gate i w in
      let x : HandPeer = hand_peer j y in
      let m : Message = Load Up 0 b pair in
      let R : World → Type 0 = λ v. T (is_logged (Gate i) m v.deliveries) in
      gate_hears_on i j w R m refl k.t k.li (small_of (code m) (omega arith, (omega arith, (omega arith, (ltb→lt b (2 ^ 49) body, small_pair)))))
      (and_i (eqb i i) (ltb j (min (length w.hands) (length y.peers))) (eqb_refl i) (mine_gate i j Numbers GateUses AnyHand (In m) w k))
      (gate_at_on (λ o. R (put_gate i o w)) y.draws j (gate_load 0 b pair) y k.gi
      (hear_first (λ o. R (put_gate i (within (λ (x : HandPeer). with_hand_peer y.draws j x y) (within (λ (e : Endpoint). with_hand_end e x) o)) w)) pair Up b
      x.end k.g
      (logged_here (Gate i) m w.deliveries)))

  -- the handheld has the gate's group key, and is not ahead of its counter
  abbrev Follows : ℕ → ℕ → GatePeer → Type 0
  Follows m k x = (x.end ≡ installed pair) × (m ≡ x.group) × (x.floor ≤ k)

  send_all : (w : World) (b : ℕ) → T (is_body b) → (gate i w).counter < limit → Known i j Numbers GateUses (Follows (gate i w).group (gate i w).counter) AnyLog w →
      Known i j AnyNumbers AnyGate (Follows (gate i w).group (gate i w).counter) (In (All i (gate i w).group (gate i w).counter b))
      (happens (GateActs i (Broadcast b)) w)
  send_all w b body lt k =
      let y : GateState = gate i w in
      let m : Message = All i y.group y.counter b in
      let R : World → Type 0 = Known i j AnyNumbers AnyGate (Follows y.group y.counter) (In m) in
      let z : GateState = record { draws = y.draws; group = y.group; counter = y.counter + 1; peers = y.peers } in
      let e : z ≡ get_or (set w.gates i z) i no_gate = sym (get_or-set_same w.gates i z no_gate k.li) in
      gate_acts_on i j w R (Broadcast b) k.li tt
      (cond_yes (λ o. R (put_gate i o w)) (is_body b && has_next y.counter) (saying z m) (quiet y)
      (and_i (is_body b) (has_next y.counter) body (lt→ltb y.counter limit lt))
      (record {
        li = rw length-set k.li;
        lj = k.lj;
        gi = subst (λ (u : GateState). j < length u.peers) e k.gi;
        hj = k.hj;
        n = tt;
        g = tt;
        h = k.h;
        t = in_here (Gate i) m w.transcript;
      }))

  deliver_all : (w : World) (b m k : ℕ) → T (is_body b) → 1 ≤ m → m ≤ limit → k ≤ limit → Known i j AnyNumbers AnyGate (Follows m k) (In (All i m k b)) w →
      T (is_logged (Hand j) (All i m k b) (happens (Hears j (All i m k b)) w).deliveries)
  deliver_all w b m k body one lm lk q =
      let y : HandState = hand j w in
      let x : GatePeer = gate_peer i y in
      let a : Message = All i m k b in
      let R : World → Type 0 = λ v. T (is_logged (Hand j) a v.deliveries) in
      hand_hears_on i j w R a refl q.t q.lj (small_of (code a) (omega arith, (fit.gate, (omega arith, (omega arith, (ltb→lt b (2 ^ 49) body, tt))))))
      (mine_hand i j AnyNumbers AnyGate (Follows m k) (In a) w q)
      (hand_at_on (λ o. R (put_hand j o w)) y.draws i (hand_all i m k b) y q.hj
      (cond_yes (λ o. R (put_hand j (within (λ (x : GatePeer). with_gate_peer y.draws i x y) o) w))
      (is_some x.end.key && ltb 0 m && eqb m x.group && accepts x.floor k) _ (quiet x)
      (and_i (is_some x.end.key && ltb 0 m && eqb m x.group) (accepts x.floor k)
      (and_i (is_some x.end.key && ltb 0 m) (eqb m x.group)
      (and_i (is_some x.end.key) (ltb 0 m) (subst (λ (e : Endpoint). T (is_some e.key)) (sym q.h.0) tt) (lt→ltb 0 m (omega arith)))
      (eqb← m x.group q.h.1))
      (le→leb x.floor k q.h.2))
      (logged_here (Hand j) a w.deliveries)))

  joined : (w : World) → Inv w → Known i j Numbers GateUses HandUses AnyLog w → Joined i j pair w
  unfolding after
  joined w inv k =
      let y : GateState = gate i w in
      let x : GatePeer = gate_peer i (hand j w) in
      let up = inv.ahead j i in
      let ug = up.0 in
      let dn = k.h.1.0 in
      let en = k.n.0 in
      let same : y.group ≡ x.group = omega arith in
      let floor = up.1 (sym same) in
      let one = inv.grouped i k.li in
      let lim = inv.limits i in (
        ap (λ (e : Endpoint). e.key) k.g,
        ap (λ (e : Endpoint). e.key) k.h.0,
        λ b body.
            let t = from_true (is_body b) body in (
              is_true _ (deliver_down (happens (GateActs i (SendDown j b)) w) b t (send_down w b t k)),
              is_true _ (deliver_up (happens (HandActs j (SendUp i b)) w) b t (send_up w b t k)),
              λ lt. is_true _ (deliver_all (happens (GateActs i (Broadcast b)) w) b y.group y.counter t one lim.1 lim.0
                  (send_all w b t lt (record { li = k.li; lj = k.lj; gi = k.gi; hj = k.hj; n = k.n; g = k.g; h = (k.h.0, same, floor); t = tt }))),
            ),
      )

  -- a begin that is heard, in a world where the handshake is open, joins them
  way_from : (w : World) → Inv w → (hand j w).draws ≡ ds → Known i j Numbers Opened AnyHand AnyLog w → Joined i j pair (after (handshake i j pair n c) w)
  unfolding after
  way_from w inv e k =
      let w2 = happens (Hears j (Begin i j a)) w in
      let w3 = happens (Hears j (Reply pair)) w2 in
      let w4 = happens (Hears j (Take n c pair)) w3 in
      let w5 = happens (Hears j (Taken pair)) w4 in
      let i2 = happens_keeps w inv (Hears j (Begin i j a)) in
      let i3 = happens_keeps w2 i2 (Hears j (Reply pair)) in
      let i4 = happens_keeps w3 i3 (Hears j (Take n c pair)) in
      let i5 = happens_keeps w4 i4 (Hears j (Taken pair)) in
      joined w5 i5 (way_taken w4 (way_take w3 (way_reply w2 i2 (way_begin w e k))))

-- ---- the ways on

module _ (w : World) (inv : Inv w) where
  pub way_on_of : WayOn w
  unfolding after
  way_on_of fits i j li lj lg ls =
      let a : Nonce = nonce_of 0 i (gate i w).draws in
      let lim = inv.limits i in
      let fit : Fit i j (hand j w).draws (gate i w).group (gate i w).counter a = record {
        gate = omega arith;
        hand = omega arith;
        kind = omega arith;
        node = omega arith;
        index = omega arith;
        draws = ls;
        group = lim.1;
        counter = lim.0;
        grouped = inv.grouped i li;
      } in
      let si = inv.hand_peers i li in
      let sj = inv.gate_peers j lj in
      let k0 : Known i j (Numbers i j (hand j w).draws (gate i w).group (gate i w).counter a fit) AnyGate AnyHand AnyLog w =
      record { li = li; lj = lj; gi = omega arith; hj = omega arith; n = (refl, refl); g = tt; h = tt; t = tt } in
      way_from i j (hand j w).draws (gate i w).group (gate i w).counter a fit (happens (GateActs i (Invite j)) w) (happens_keeps w inv (GateActs i (Invite j)))
      (gate_acts_on i j w (λ v. (hand j v).draws ≡ (hand j w).draws) (Invite j) li (lt→ltb j (length w.hands) lj) refl)
      (way_invite i j (hand j w).draws (gate i w).group (gate i w).counter a fit w refl lg k0)

  pub way_open_of : WayOpen w
  way_open_of fits i j o li lj opened ls =
      let x : HandPeer = hand_peer j (gate i w) in
      let op = any_this (OpenAtGate i j (gate i w).draws w.transcript) x.handshake o opened (inv.gates i j).opened in
      let k1 : o.anonce.kind ≡ 0 = ap (λ (v : Nonce). v.kind) op.0 in
      let k2 : o.anonce.node ≡ i = ap (λ (v : Nonce). v.node) op.0 in
      let lx = op.2 in
      let lim = inv.limits i in
      let fit : Fit i j (hand j w).draws (gate i w).group (gate i w).counter o.anonce = record {
        gate = omega arith;
        hand = omega arith;
        kind = omega arith;
        node = omega arith;
        index = omega arith;
        draws = ls;
        group = lim.1;
        counter = lim.0;
        grouped = inv.grouped i li;
      } in
      let si = inv.hand_peers i li in
      let sj = inv.gate_peers j lj in (
        is_true _ (logged_own (Begin i j o.anonce) w.transcript inv.own op.3),
        way_from i j (hand j w).draws (gate i w).group (gate i w).counter o.anonce fit w inv refl (record {
          li = li;
          lj = lj;
          gi = omega arith;
          hj = omega arith;
          n = (refl, refl);
          h = tt;
          t = tt;
          g = subst (λ v. T (answers (pair_of i j o.anonce (nonce_of 1 j (hand j w).draws)) v)) (sym opened) (nonce_refl o.anonce);
        }),
      )

pub way_on : Always WayOn
way_on g s es = way_on_of (after es (start g s)) (always g s es)

pub way_open : Always WayOpen
way_open g s es = way_open_of (after es (start g s)) (always g s es)
