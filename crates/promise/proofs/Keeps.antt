-- Whatever happens keeps the invariant.
use Rattle.std.proofs.Common.{◌≡◌, ℕ, ◌+◌, ◌<◌, ◌≤◌, true, cond, T, ltb, ◌⊎◌, List, [], ◌∷◌, length, set, Some, None, Option, sym, refl, ap, ◌∙◌, subst, inl, inr, ⊎_elim, arith, ltb→lt, length-set, get_or-set_same}
use lib.ListN.{length-replicate}
use Rattle.frame.specs.declared.message.Node.{Node}
use Rattle.frame.specs.declared.message.Node.TheVariants.{Gate, Hand}
use Rattle.frame.specs.declared.message.Nonce.{Nonce}
use Rattle.frame.specs.declared.message.Pair.{Pair}
use Rattle.frame.specs.declared.message.Direction.TheVariants.{Up, Down}
use Rattle.frame.specs.declared.message.Message.{Message}
use Rattle.frame.specs.declared.message.Message.TheVariants.{Begin, Reply, Take, Taken, Renew, Load, All}
use Rattle.frame.specs.Row.{code}
use Rattle.protocol.specs.declared.held.GatePeer.{GatePeer}
use Rattle.protocol.specs.declared.held.HandPeer.{HandPeer}
use Rattle.protocol.specs.Held.{nonce_of, new_gate_peer, new_hand_peer, HandState, new_hand, GateState, new_gate}
use Rattle.protocol.specs.declared.acts.HandAct.{HandAct}
use Rattle.protocol.specs.declared.acts.GateAct.{GateAct}
use Rattle.protocol.specs.Rules.{Out, quiet, gate_peer, hand_peer, gate_acts, gate_hears, hand_acts, hand_hears}
use Rattle.protocol.specs.Calls.{gate_may, hand_may, gate_does, hand_does, gate_hears_row, hand_hears_row}
use Rattle.protocol.specs.World.{Entry, World, start, gate, hand, logged, put_gate, put_hand, heard_by, may_be_heard, hearer, Event, GateActs, HandActs, Hears, happens, after}
use Rattle.protocol.specs.Promise.{Each, draws_of, draws_in, Pairwise, Group, Frames, Renewals, Seal, seals_of, seals_in, sender, Earlier}
use Rattle.promise.proofs.Base.{cond_case, In, Sub, in_logged, each_map, each_in, each_logged, log_split, Any, put, replicate_at, replicate_in, replicate_has}
use Rattle.promise.proofs.Ends.{Before, UpTo, Bounds, SpentAtGate, SpentAtHand, GateMoves, gate_same, HandMoves, hand_same, HandPeerOK, hand_peer_more, GateOK, GatePeerOK, OfferAtHand, gate_peer_more, HandOK, gave_more}
use Rattle.promise.proofs.Gates.{GateStep, InLimits, GateSays, GateDelivers, gate_quiet, gate_acts_lem, gate_hears_reply, gate_hears_taken, gate_hears_load}
use Rattle.promise.proofs.Hands.{HandStep, HandSays, HandDelivers, Gone, GoneBy, NotNewer, Late, hand_quiet, hand_acts_lem, hand_hears_begin, hand_hears_all, hand_hears_take, hand_hears_renew, hand_hears_load}
use Rattle.promise.proofs.Rows.{hand_row_lem, gate_row_lem}
use Rattle.promise.proofs.Invariant.{Fine, GateGot, HandGot, Got, Inv, WorldMoves, gate_up, fine_moves, got_moves, NewDraw, draws_more, each_draw, NextOf, draw_new, seal_of, NewSeal, seals_more, each_seal, down_new, renew_new, up_new, all_new, Above, above_up, above_down, above_all, rise_more}

abbrev pub no_gate : GateState
no_gate = record { draws = 0; group = 0; counter = 0; peers = [] }

abbrev pub no_hand : HandState
no_hand = record { draws = 0; peers = [] }

-- a take that is new in the log: what a handheld with no pair in use delivered of frames to all is before its counter
gone_log : (k o : Option Pair) (a l n c : ℕ) (es fs : List Entry) → Any (λ q. (i j : ℕ) → In (Take i j q) fs → In (Take i j q) es ⊎ Before n c i j) o →
    GoneBy es k o a l n c → GoneBy fs k o a l n c
gone_log None None a l n c es fs f h = tt
gone_log None (Some q) a l n c es fs f h = λ i j t. ⊎_elim (λ u. h i j u) (λ u. u) (f i j t)
gone_log (Some p) o a l n c es fs f h = h

-- what tells it from the seals of each message that was sent tells it from every seal
unsealed : (w : World) → Inv w → (a : Seal) → ((m : Message) → Fine w m → Each (λ (b : Seal). a ≡ b → ⊥) (seals_of m)) →
    Each (λ (b : Seal). a ≡ b → ⊥) (seals_in w.transcript)
unsealed w inv a f = each_seal (λ (b : Seal). a ≡ b → ⊥) w.transcript
    (each_map (λ (e : Entry). Fine w e.message) (λ (e : Entry). Each (λ (b : Seal). a ≡ b → ⊥) (seals_of e.message)) (λ e k. f e.message k) w.transcript inv.sent)

-- an end's next nonce was not drawn
undrawn : (w : World) → Inv w → (k i d : ℕ) → NextOf w k i d → Each (λ (b : Nonce). nonce_of k i d ≡ b → ⊥) (draws_in w.transcript)
undrawn w inv k i d next = each_draw (λ (b : Nonce). nonce_of k i d ≡ b → ⊥) w.transcript
    (each_map (λ (e : Entry). Fine w e.message) (λ (e : Entry). Each (λ (b : Nonce). nonce_of k i d ≡ b → ⊥) (draws_of e.message))
    (λ e f. draw_new w k i d next e.message f) w.transcript inv.sent)

-- ---- a gate does something

module _ (w : World) (inv : Inv w) (g : ℕ) (lt : g < length w.gates) (o : Out GateState) (st : GateStep g w.transcript (gate g w) o) where
  abbrev es : List Entry
  es = w.transcript

  abbrev fs : List Entry
  fs = logged (Gate g) o.says w.transcript

  abbrev v : World
  v = put_gate g o w

  sub : Sub es fs
  sub = in_logged (Gate g) o.says es

  here : gate g v ≡ o.held
  here = get_or-set_same w.gates g o.held no_gate lt

  there : (p : Pair) → p.gate ≡ g → o.held ≡ gate p.gate v
  there p e = sym here ∙ ap (λ i. gate i v) (sym e)

  back : (p : Pair) (P : GateState → Type 0) → p.gate ≡ g → P (gate g w) → P (gate p.gate w)
  back p P e h = subst (λ i. P (gate i w)) (sym e) h

  gate_gone : (j h n c b : ℕ) → In (All h n c b) es → Gone es (gate_peer h (hand j w)) n c → Gone fs (gate_peer h (hand j w)) n c
  gate_gone j h n c b t k =
      let x : GatePeer = gate_peer h (hand j w) in
      gone_log x.end.key x.end.offered x.group x.floor n c es fs (go x.end.offered (inv.hands j h).offered) k
    where
      go : (f : Option Pair) → Any (OfferAtHand h j (hand j w).draws) f → Any (λ q. (i k : ℕ) → In (Take i k q) fs → In (Take i k q) es ⊎ Before n c i k) f
      go None e = tt
      go (Some q) e = λ i k u. ⊎_elim
          (λ s. let f = each_in (Fine w) (All h n c b) es t inv.sent in
          let eh : g ≡ h = sym s.0 ∙ e.0 in
          let f2 = subst (λ z. Before n c (gate z w).group (gate z w).counter) (sym eh) f in
          let e1 = s.3 in let e2 = s.4 in
          inr (omega arith, λ z. let y = f2.1 (omega arith) in omega arith))
          (λ a. inl a) (log_split (GateSays g es (gate g w) o.held) (Gate g) o.says es (Take i k q) st.says u)

  pub gate_moved : WorldMoves w v
  gate_moved = record {
    gates = put (λ i u. GateMoves (gate i w) u) w.gates g o.held no_gate st.moves (λ i. gate_same (gate i w));
    hands = λ j. hand_same (hand j w);
    transcript = sub;
    gone = gate_gone;
    newest = λ j h p s k. k;
  }

  told : (p : Pair) (n c : ℕ) → p.gate ≡ g → n ≡ (gate g w).group → c ≡ (gate g w).counter → UpTo n c (gate p.gate v).group (gate p.gate v).counter
  told p n c q e f = let u = st.moves.up in subst (λ (y : GateState). UpTo n c y.group y.counter) (there p q)
      (omega arith, λ z. let h = u.1 (omega arith) in omega arith)

  gate_said : (m : Message) → GateSays g es (gate g w) o.held m → Fine v m
  gate_said (Begin h s a) k =
      let e : a.index ≡ (gate g w).draws = ap (λ (v : Nonce). v.index) k.1 in let l = k.2 in
      (k.1 ∙ (λ i. nonce_of 0 (sym k.0 i) (sym e i)), subst (λ (u : GateState). a.index < u.draws) (sym here ∙ ap (λ i. gate i v) (sym k.0)) (omega arith))
  gate_said (Reply p) k = absurd k
  gate_said (Take n c p) k =
      let one = inv.grouped g lt in let e = k.3 in
      (sub (Reply p) k.1, sub (Begin p.gate p.hand p.anonce) k.2, told p n c k.0 k.3 k.4, omega arith)
  gate_said (Taken p) k = absurd k
  gate_said (Renew r n c p) k =
      let z = subst (λ (u : GateState). SpentAtGate u.draws (hand_peer p.hand u) p ×
      ((hand_peer p.hand u).end.key ≡ Some p → r ≤ (hand_peer p.hand u).end.round)) (there p k.0) (k.3, λ _. k.4) in
      (z.0, z.1, told p n c k.0 k.5 k.6)
  gate_said (Load Up c b p) k = absurd k
  gate_said (Load Down c b p) k =
      subst (λ (u : GateState). SpentAtGate u.draws (hand_peer p.hand u) p × ((hand_peer p.hand u).end.key ≡ Some p → c < (hand_peer p.hand u).end.send))
      (there p k.0) (k.3, λ _. k.4)
  gate_said (All h n c b) k = subst (λ (u : GateState). Before n c u.group u.counter) (sym here ∙ ap (λ i. gate i v) (sym k.0)) k.3

  gate_new : (m : Message) → GateSays g es (gate g w) o.held m → NewSeal es m
  gate_new (Begin h s a) k = tt
  gate_new (Reply p) k = tt
  gate_new (Take n c p) k = tt
  gate_new (Taken p) k = tt
  gate_new (Renew r n c p) k = (
    unsealed w inv (seal_of (Pairwise p) Renewals r) (renew_new w p r (back p (λ u. (hand_peer p.hand u).end.key ≡ Some p) k.0 k.1)
        (back p (λ u. r ≡ (hand_peer p.hand u).end.round + 1) k.0 k.2)),
    tt,
  )
  gate_new (Load Up c b p) k = absurd k
  gate_new (Load Down c b p) k = (
    unsealed w inv (seal_of (Pairwise p) (Frames Down) c) (down_new w p c (back p (λ u. (hand_peer p.hand u).end.key ≡ Some p) k.0 k.1)
        (back p (λ u. c ≡ (hand_peer p.hand u).end.send) k.0 k.2)),
    tt,
  )
  gate_new (All h n c b) k = (
    unsealed w inv (seal_of (Group h n) (Frames Down) c) (all_new w h n c (subst (λ i. n ≡ (gate i w).group) (sym k.0) k.1)
        (subst (λ i. c ≡ (gate i w).counter) (sym k.0) k.2)),
    tt,
  )

  gate_own : (m : Message) → GateSays g es (gate g w) o.held m → sender m ≡ Gate g
  gate_own (Begin h s a) k = ap Gate k.0
  gate_own (Reply p) k = absurd k
  gate_own (Take n c p) k = ap Gate k.0
  gate_own (Taken p) k = absurd k
  gate_own (Renew r n c p) k = ap Gate k.0
  gate_own (Load Up c b p) k = absurd k
  gate_own (Load Down c b p) k = ap Gate k.0
  gate_own (All h n c b) k = ap Gate k.0

  gate_drew : (m : Message) → GateSays g es (gate g w) o.held m → NewDraw es m
  gate_drew (Begin h s a) k =
      (subst (λ (x : Nonce). Each (λ (b : Nonce). x ≡ b → ⊥) (draws_in es)) (sym k.1) (undrawn w inv 0 g (gate g w).draws (λ _. refl, λ e. absurd (omega arith))), tt)
  gate_drew (Reply p) k = absurd k
  gate_drew (Take n c p) k = tt
  gate_drew (Taken p) k = tt
  gate_drew (Renew r n c p) k = tt
  gate_drew (Load d c b p) k = tt
  gate_drew (All h n c b) k = tt

  gate_delivered : (m : Message) → GateDelivers g es (gate g w) o.held m → GateGot v g m
  gate_delivered (Begin h s a) k = k
  gate_delivered (Reply p) k = k
  gate_delivered (Take n c p) k = k
  gate_delivered (Taken p) k = k
  gate_delivered (Renew r n c p) k = k
  gate_delivered (Load Up c b p) k =
      let z = subst (λ (u : GateState). SpentAtGate u.draws (hand_peer p.hand u) p ×
      ((hand_peer p.hand u).end.key ≡ Some p → c < (hand_peer p.hand u).end.floor)) (there p k.0) (k.3, λ _. k.4) in
      (k.0, sub (Load Up c b p) k.5, z.0, z.1)
  gate_delivered (Load Down c b p) k = k
  gate_delivered (All h n c b) k = k

  gate_above : (m : Message) → GateDelivers g es (gate g w) o.held m → (i : Node) (n : Message) → Got w i n → i ≡ Gate g → Above m n
  gate_above (Begin h s a) k i n f e = absurd k
  gate_above (Reply p) k i n f e = absurd k
  gate_above (Take m c p) k i n f e = absurd k
  gate_above (Taken p) k i n f e = absurd k
  gate_above (Renew r m c p) k i n f e = absurd k
  gate_above (Load Up c b p) k i n f e =
      above_up w c b p (back p (λ u. (hand_peer p.hand u).end.key ≡ Some p) k.0 k.1) (back p (λ u. (hand_peer p.hand u).end.floor ≤ c) k.0 k.2) g n
      (subst (λ x. Got w x n) e f)
  gate_above (Load Down c b p) k i n f e = absurd k
  gate_above (All h m c b) k i n f e = absurd k

  pub gate_keeps : Inv v
  gate_keeps = record {
    gates = put (λ i u. GateOK i fs u) w.gates g o.held no_gate st.ok
        (λ i h. hand_peer_more i h (gate i w).draws (gate i w).draws es fs (hand_peer h (gate i w)) (omega arith) sub (inv.gates i h));
    hands = λ j i. gate_peer_more i j (hand j w).draws (hand j w).draws es fs (gate_peer i (hand j w)) (omega arith) sub (inv.hands j i);
    limits = put (λ i u. InLimits u) w.gates g o.held no_gate (st.limits (inv.limits g)) inv.limits;
    grouped = put (λ i u. i < length (set w.gates g o.held) → 1 ≤ u.group) w.gates g o.held no_gate
        (λ _. let one = inv.grouped g lt in let u = st.moves.up.0 in omega arith) (λ i h. inv.grouped i (rw length-set at h));
    sent = each_logged (λ (e : Entry). Fine v e.message) (Gate g) o.says es
        (each_map (GateSays g es (gate g w) o.held) (Fine v) gate_said o.says st.says)
        (each_map (λ (e : Entry). Fine w e.message) (λ (e : Entry). Fine v e.message) (λ e. fine_moves w v gate_moved e.message) es inv.sent);
    got = each_logged (λ (e : Entry). Got v e.node e.message) (Gate g) o.delivers w.deliveries
        (each_map (GateDelivers g es (gate g w) o.held) (GateGot v g) gate_delivered o.delivers st.delivers)
        (each_map (λ (e : Entry). Got w e.node e.message) (λ (e : Entry). Got v e.node e.message) (λ e. got_moves w v gate_moved e.node e.message)
        w.deliveries inv.got);
    draws = draws_more (Gate g) o.says es st.short.0 (each_map (GateSays g es (gate g w) o.held) (NewDraw es) gate_drew o.says st.says) inv.draws;
    seals = seals_more (Gate g) o.says es st.short.0 (each_map (GateSays g es (gate g w) o.held) (NewSeal es) gate_new o.says st.says) inv.seals;
    own = each_logged (λ (e : Entry). sender e.message ≡ e.node) (Gate g) o.says es
        (each_map (GateSays g es (gate g w) o.held) (λ m. sender m ≡ Gate g) gate_own o.says st.says) inv.own;
    rise = rise_more (Gate g) o.delivers w.deliveries st.short.1
        (each_map (GateDelivers g es (gate g w) o.held) (λ m. Each (λ (e : Entry). Earlier e (record { node = Gate g; message = m })) w.deliveries)
        (λ m k. each_map (λ (e : Entry). Got w e.node e.message) (λ (e : Entry). Earlier e (record { node = Gate g; message = m }))
        (λ e f q. gate_above m k e.node e.message f q) w.deliveries inv.got) o.delivers st.delivers) inv.rise;
    ahead = λ j i. gate_up w v gate_moved i (gate_peer i (hand j w)).group (gate_peer i (hand j w)).floor (inv.ahead j i);
    hand_peers = put (λ i u. i < length (set w.gates g o.held) → length u.peers ≡ length w.hands) w.gates g o.held no_gate
        (λ _. st.moves.size ∙ inv.hand_peers g lt) (λ i h. inv.hand_peers i (rw length-set at h));
    gate_peers = λ j h. inv.gate_peers j h ∙ sym (length-set w.gates g o.held);
  }

-- ---- a handheld does something

module _ (w : World) (inv : Inv w) (s : ℕ) (lt : s < length w.hands) (o : Out HandState) (st : HandStep s w.transcript (hand s w) o) where
  abbrev hes : List Entry
  hes = w.transcript

  abbrev hfs : List Entry
  hfs = logged (Hand s) o.says w.transcript

  abbrev hv : World
  hv = put_hand s o w

  hsub : Sub hes hfs
  hsub = in_logged (Hand s) o.says hes

  hhere : hand s hv ≡ o.held
  hhere = get_or-set_same w.hands s o.held no_hand lt

  hthere : (p : Pair) → p.hand ≡ s → o.held ≡ hand p.hand hv
  hthere p e = sym hhere ∙ ap (λ i. hand i hv) (sym e)

  hback : (p : Pair) (P : HandState → Type 0) → p.hand ≡ s → P (hand s w) → P (hand p.hand w)
  hback p P e h = subst (λ i. P (hand i w)) (sym e) h

  hand_gone : (x : GatePeer) (n c : ℕ) → Gone hes x n c → Gone hfs x n c
  hand_gone x n c k = gone_log x.end.key x.end.offered x.group x.floor n c hes hfs (go x.end.offered) k
    where
      go : (f : Option Pair) → Any (λ q. (i k : ℕ) → In (Take i k q) hfs → In (Take i k q) hes ⊎ Before n c i k) f
      go None = tt
      go (Some q) = λ i k u. ⊎_elim (λ a. absurd a) (λ a. inl a) (log_split (HandSays s hes (hand s w) o.held) (Hand s) o.says hes (Take i k q) st.says u)

  pub hand_moved : WorldMoves w hv
  hand_moved = record {
    gates = λ i. gate_same (gate i w);
    hands = put (λ i u. HandMoves (hand i w) u) w.hands s o.held no_hand st.moves (λ i. hand_same (hand i w));
    transcript = hsub;
    gone = λ j g n c b t h. hand_gone (gate_peer g (hand j hv)) n c
        (put (λ i u. Gone hes (gate_peer g (hand i w)) n c → Gone hes (gate_peer g u) n c) w.hands s o.held no_hand (st.gone g n c) (λ i k. k) j h);
    newest = λ j g p. put (λ i u. SpentAtHand (hand i w).draws (gate_peer g (hand i w)) p → NotNewer (gate_peer g (hand i w)) p → NotNewer (gate_peer g u) p)
        w.hands s o.held no_hand (st.newest g p) (λ i k h. h) j;
  }

  hand_said : (m : Message) → HandSays s hes (hand s w) o.held m → Fine hv m
  hand_said (Begin h t a) k = absurd k
  hand_said (Reply p) k =
      let e : p.snonce.index ≡ (hand s w).draws = ap (λ (v : Nonce). v.index) k.1 in let l = k.2 in
      (k.1 ∙ (λ i. nonce_of 1 (sym k.0 i) (sym e i)), subst (λ (u : HandState). p.snonce.index < u.draws) (hthere p k.0) (omega arith))
  hand_said (Take n c p) k = absurd k
  hand_said (Taken p) k =
      let z = subst (λ (u : HandState). SpentAtHand u.draws (gate_peer p.gate u) p × NotNewer (gate_peer p.gate u) p) (hthere p k.0) (k.2, k.3) in
      (gave_more p hes hfs hsub k.1, z.0, z.1)
  hand_said (Renew r n c p) k = absurd k
  hand_said (Load Up c b p) k =
      subst (λ (u : HandState). SpentAtHand u.draws (gate_peer p.gate u) p × ((gate_peer p.gate u).end.key ≡ Some p → c < (gate_peer p.gate u).end.send))
      (hthere p k.0) (k.3, λ _. k.4)
  hand_said (Load Down c b p) k = absurd k
  hand_said (All h n c b) k = absurd k

  hand_new : (m : Message) → HandSays s hes (hand s w) o.held m → NewSeal hes m
  hand_new (Begin h t a) k = tt
  hand_new (Reply p) k = tt
  hand_new (Take n c p) k = tt
  hand_new (Taken p) k = tt
  hand_new (Renew r n c p) k = absurd k
  hand_new (Load Up c b p) k = (
    unsealed w inv (seal_of (Pairwise p) (Frames Up) c) (up_new w p c (hback p (λ u. (gate_peer p.gate u).end.key ≡ Some p) k.0 k.1)
        (hback p (λ u. c ≡ (gate_peer p.gate u).end.send) k.0 k.2)),
    tt,
  )
  hand_new (Load Down c b p) k = absurd k
  hand_new (All h n c b) k = absurd k

  bounds : (i : ℕ) → Bounds hes i (gate i w).group (gate i w).counter
  bounds i = record {
    takes = λ n c p t e. subst (λ x. UpTo n c (gate x w).group (gate x w).counter) e (each_in (Fine w) (Take n c p) hes t inv.sent).2;
    renews = λ r n c p t e. subst (λ x. UpTo n c (gate x w).group (gate x w).counter) e (each_in (Fine w) (Renew r n c p) hes t inv.sent).2;
    alls = λ n c b t. each_in (Fine w) (All i n c b) hes t inv.sent;
  }

  hand_own : (m : Message) → HandSays s hes (hand s w) o.held m → sender m ≡ Hand s
  hand_own (Begin h t a) k = absurd k
  hand_own (Reply p) k = ap Hand k.0
  hand_own (Take n c p) k = absurd k
  hand_own (Taken p) k = ap Hand k.0
  hand_own (Renew r n c p) k = absurd k
  hand_own (Load Up c b p) k = ap Hand k.0
  hand_own (Load Down c b p) k = absurd k
  hand_own (All h n c b) k = absurd k

  hand_drew : (m : Message) → HandSays s hes (hand s w) o.held m → NewDraw hes m
  hand_drew (Begin h t a) k = absurd k
  hand_drew (Reply p) k =
      (subst (λ (x : Nonce). Each (λ (b : Nonce). x ≡ b → ⊥) (draws_in hes)) (sym k.1) (undrawn w inv 1 s (hand s w).draws (λ e. absurd (omega arith), λ _. refl)), tt)
  hand_drew (Take n c p) k = tt
  hand_drew (Taken p) k = tt
  hand_drew (Renew r n c p) k = tt
  hand_drew (Load d c b p) k = tt
  hand_drew (All h n c b) k = tt

  hand_delivered : (m : Message) → HandDelivers s hes (hand s w) o.held m → HandGot hv s m
  hand_delivered (Begin h t a) k = k
  hand_delivered (Reply p) k = k
  hand_delivered (Take n c p) k = k
  hand_delivered (Taken p) k = k
  hand_delivered (Renew r n c p) k = k
  hand_delivered (Load Up c b p) k = k
  hand_delivered (Load Down c b p) k =
      let z = subst (λ (u : HandState). SpentAtHand u.draws (gate_peer p.gate u) p ×
      ((gate_peer p.gate u).end.key ≡ Some p → c < (gate_peer p.gate u).end.floor)) (hthere p k.0) (k.3, λ _. k.4) in
      (k.0, hsub (Load Down c b p) k.5, z.0, z.1)
  hand_delivered (All g n c b) k = (
    hsub (All g n c b) k.4,
    hand_gone (gate_peer g (hand s hv)) n c (subst (λ (u : HandState). Gone hes (gate_peer g u) n c) (sym hhere) k.3),
  )

  hand_above : (m : Message) → HandDelivers s hes (hand s w) o.held m → (i : Node) (n : Message) → Got w i n → i ≡ Hand s → Above m n
  hand_above (Begin h t a) k i n f e = absurd k
  hand_above (Reply p) k i n f e = absurd k
  hand_above (Take m c p) k i n f e = absurd k
  hand_above (Taken p) k i n f e = absurd k
  hand_above (Renew r m c p) k i n f e = absurd k
  hand_above (Load Up c b p) k i n f e = absurd k
  hand_above (Load Down c b p) k i n f e =
      above_down w c b p (hback p (λ u. (gate_peer p.gate u).end.key ≡ Some p) k.0 k.1) (hback p (λ u. (gate_peer p.gate u).end.floor ≤ c) k.0 k.2) s
      n (subst (λ x. Got w x n) e f)
  hand_above (All g m c b) k i n f e = above_all w s g m c b k.0 k.1 k.2 n (subst (λ x. Got w x n) e f)

  pub hand_keeps : Inv hv
  hand_keeps = record {
    gates = λ i j. hand_peer_more i j (gate i w).draws (gate i w).draws hes hfs (hand_peer j (gate i w)) (omega arith) hsub (inv.gates i j);
    hands = put (λ i u. HandOK i hfs u) w.hands s o.held no_hand st.ok
        (λ i g. gate_peer_more g i (hand i w).draws (hand i w).draws hes hfs (gate_peer g (hand i w)) (omega arith) hsub (inv.hands i g));
    limits = inv.limits;
    grouped = inv.grouped;
    sent = each_logged (λ (e : Entry). Fine hv e.message) (Hand s) o.says hes
        (each_map (HandSays s hes (hand s w) o.held) (Fine hv) hand_said o.says st.says)
        (each_map (λ (e : Entry). Fine w e.message) (λ (e : Entry). Fine hv e.message) (λ e. fine_moves w hv hand_moved e.message) hes inv.sent);
    got = each_logged (λ (e : Entry). Got hv e.node e.message) (Hand s) o.delivers w.deliveries
        (each_map (HandDelivers s hes (hand s w) o.held) (HandGot hv s) hand_delivered o.delivers st.delivers)
        (each_map (λ (e : Entry). Got w e.node e.message) (λ (e : Entry). Got hv e.node e.message)
        (λ e. got_moves w hv hand_moved e.node e.message) w.deliveries inv.got);
    draws = draws_more (Hand s) o.says hes st.short.0 (each_map (HandSays s hes (hand s w) o.held) (NewDraw hes) hand_drew o.says st.says) inv.draws;
    seals = seals_more (Hand s) o.says hes st.short.0 (each_map (HandSays s hes (hand s w) o.held) (NewSeal hes) hand_new o.says st.says) inv.seals;
    own = each_logged (λ (e : Entry). sender e.message ≡ e.node) (Hand s) o.says hes
        (each_map (HandSays s hes (hand s w) o.held) (λ m. sender m ≡ Hand s) hand_own o.says st.says) inv.own;
    rise = rise_more (Hand s) o.delivers w.deliveries st.short.1
        (each_map (HandDelivers s hes (hand s w) o.held) (λ m. Each (λ (e : Entry). Earlier e (record { node = Hand s; message = m })) w.deliveries)
        (λ m k. each_map (λ (e : Entry). Got w e.node e.message) (λ (e : Entry). Earlier e (record { node = Hand s; message = m }))
        (λ e f q. hand_above m k e.node e.message f q) w.deliveries inv.got) o.delivers st.delivers) inv.rise;
    ahead = put (λ j (u : HandState). (i : ℕ) → UpTo (gate_peer i u).group (gate_peer i u).floor (gate i w).group (gate i w).counter) w.hands s o.held no_hand
        (λ i. st.ahead i (gate i w).group (gate i w).counter (bounds i) (inv.ahead s i)) (λ j i. inv.ahead j i);
    hand_peers = λ i h. inv.hand_peers i h ∙ sym (length-set w.hands s o.held);
    gate_peers = put (λ j u. j < length (set w.hands s o.held) → length u.peers ≡ length w.gates) w.hands s o.held no_hand
        (λ _. st.moves.size ∙ inv.gate_peers s lt) (λ j h. inv.gate_peers j (rw length-set at h));
  }

-- ---- whatever happens

world_same : (w : World) → WorldMoves w w
world_same w = record { gates = λ i. gate_same (gate i w); hands = λ j. hand_same (hand j w); transcript = λ m t. t; gone = λ j g n c b t h. h; newest = λ j g p s h. h }

-- a world that keeps the invariant, and that the other moved on to
abbrev pub Goes : World → World → Type 0
Goes w v = Inv v × WorldMoves w v

module _ (w : World) (inv : Inv w) where
  gate_turn : (g : ℕ) (o : Out GateState) → GateStep g w.transcript (gate g w) o → Goes w (cond (ltb g (length w.gates)) (put_gate g o w) w)
  gate_turn g o st = cond_case (λ v. Goes w v) (ltb g (length w.gates)) (put_gate g o w) w
      (λ t. (gate_keeps w inv g (ltb→lt g (length w.gates) t) o st, gate_moved w inv g (ltb→lt g (length w.gates) t) o st)) (inv, world_same w)

  hand_turn : (s : ℕ) (o : Out HandState) → HandStep s w.transcript (hand s w) o → Goes w (cond (ltb s (length w.hands)) (put_hand s o w) w)
  hand_turn s o st = cond_case (λ v. Goes w v) (ltb s (length w.hands)) (put_hand s o w) w
      (λ t. (hand_keeps w inv s (ltb→lt s (length w.hands) t) o st, hand_moved w inv s (ltb→lt s (length w.hands) t) o st)) (inv, world_same w)

  gate_hears_lem : (g : ℕ) (m : Message) → GateStep g w.transcript (gate g w) (gate_hears m (gate g w)) → Goes w (heard_by (Gate g) (code m) w)
  gate_hears_lem g m st = gate_turn g (gate_hears_row g (length w.hands) (code m) true (gate g w))
      (gate_row_lem g (length w.hands) m (gate g w) (GateStep g w.transcript (gate g w)) (gate_quiet g w.transcript (gate g w) (inv.gates g)) st)

  hand_hears_lem : (s : ℕ) (m : Message) → HandStep s w.transcript (hand s w) (hand_hears s m (hand s w)) → Goes w (heard_by (Hand s) (code m) w)
  hand_hears_lem s m st = hand_turn s (hand_hears_row (length w.gates) s (code m) true (hand s w))
      (hand_row_lem (length w.gates) s m (hand s w) (HandStep s w.transcript (hand s w)) (hand_quiet s w.transcript (hand s w) (inv.hands s)) st)

  late : (s : ℕ) → Late s w.transcript (hand s w).draws
  late s n c p t e = subst (λ i. p.snonce.index < (hand i w).draws) e
      (each_in (Fine w) (Reply p) w.transcript (each_in (Fine w) (Take n c p) w.transcript t inv.sent).0 inv.sent).1

  heard_keeps : (s : ℕ) (m : Message) → T (may_be_heard m w.transcript) → Goes w (heard_by (hearer s m) (code m) w)
  heard_keeps s (Begin g h a) k = hand_hears_lem h (Begin g h a) (hand_hears_begin h w.transcript (hand h w) (inv.hands h) g h a (late h))
  heard_keeps s (Reply p) k = gate_hears_lem p.gate (Reply p) (gate_hears_reply p w.transcript (gate p.gate w) (inv.gates p.gate) k)
  heard_keeps s (Take n c p) k = hand_hears_lem p.hand (Take n c p)
      (hand_hears_take p w.transcript (hand p.hand w) (inv.hands p.hand) n c k (each_in (Fine w) (Take n c p) w.transcript k inv.sent).3)
  heard_keeps s (Taken p) k = gate_hears_lem p.gate (Taken p) (gate_hears_taken p w.transcript (gate p.gate w) (inv.gates p.gate) k)
  heard_keeps s (Renew r n c p) k = hand_hears_lem p.hand (Renew r n c p) (hand_hears_renew p w.transcript (hand p.hand w) (inv.hands p.hand) r n c k)
  heard_keeps s (Load Up c b p) k = gate_hears_lem p.gate (Load Up c b p) (gate_hears_load p w.transcript (gate p.gate w) (inv.gates p.gate) c b k)
  heard_keeps s (Load Down c b p) k = hand_hears_lem p.hand (Load Down c b p) (hand_hears_load p w.transcript (hand p.hand w) (inv.hands p.hand) c b k)
  heard_keeps s (All g n c b) k = hand_hears_lem s (All g n c b) (hand_hears_all s w.transcript (hand s w) (inv.hands s) g n c b k)

  gate_does_lem : (g : ℕ) (a : GateAct) → GateStep g w.transcript (gate g w) (gate_does g (length w.hands) a (gate g w))
  unfolding gate_does
  gate_does_lem g a = cond_case (GateStep g w.transcript (gate g w)) (gate_may (length w.hands) a) (gate_acts g a (gate g w)) (quiet (gate g w))
      (λ _. gate_acts_lem g w.transcript (gate g w) (inv.gates g) a (inv.limits g)) (gate_quiet g w.transcript (gate g w) (inv.gates g))

  hand_does_lem : (s : ℕ) (a : HandAct) → HandStep s w.transcript (hand s w) (hand_does (length w.gates) a (hand s w))
  unfolding hand_does
  hand_does_lem s a = cond_case (HandStep s w.transcript (hand s w)) (hand_may (length w.gates) a) (hand_acts a (hand s w)) (quiet (hand s w))
      (λ _. hand_acts_lem s w.transcript (hand s w) (inv.hands s) a) (hand_quiet s w.transcript (hand s w) (inv.hands s))

  pub happens_goes : (e : Event) → Goes w (happens e w)
  happens_goes (GateActs g a) = gate_turn g (gate_does g (length w.hands) a (gate g w)) (gate_does_lem g a)
  happens_goes (HandActs s a) = hand_turn s (hand_does (length w.gates) a (hand s w)) (hand_does_lem s a)
  happens_goes (Hears s m) = cond_case (λ v. Goes w v) (may_be_heard m w.transcript) (heard_by (hearer s m) (code m) w) w (heard_keeps s m) (inv, world_same w)

  pub happens_keeps : (e : Event) → Inv (happens e w)
  happens_keeps e = (happens_goes e).0

-- ---- from the start

pub inv_run : (es : List Event) (w : World) → Inv w → Inv (after es w)
unfolding after
inv_run [] w inv = inv
inv_run (e ∷ es) w inv = inv_run es (happens e w) (happens_keeps w inv e)

start_inv : (g s : ℕ) → Inv (start g s)
start_inv g s = record {
  gates = λ i. replicate_has (λ (y : GateState). GateOK i [] y) g i (new_gate s) no_gate
      (λ h. subst (λ (x : HandPeer). HandPeerOK i h 0 [] x) (sym (replicate_at s h new_hand_peer)) (record { opened = tt; offered = tt; key = tt }))
      (λ h. record { opened = tt; offered = tt; key = tt });
  hands = λ j. replicate_has (λ (y : HandState). HandOK j [] y) s j (new_hand g) no_hand
      (λ i. subst (λ (x : GatePeer). GatePeerOK i j 0 [] x) (sym (replicate_at g i new_gate_peer)) (record { offered = tt; key = tt }))
      (λ i. record { offered = tt; key = tt });
  limits = λ i. replicate_has InLimits g i (new_gate s) no_gate (omega arith, omega arith) (omega arith, omega arith);
  grouped = λ i h. subst (λ (y : GateState). 1 ≤ y.group) (sym (replicate_in g i (new_gate s) no_gate (rw length-replicate at h))) (omega arith);
  sent = tt;
  got = tt;
  draws = tt;
  seals = tt;
  own = tt;
  rise = tt;
  ahead = λ j i. replicate_has (λ (y : HandState). UpTo (gate_peer i y).group (gate_peer i y).floor (gate i (start g s)).group (gate i (start g s)).counter) s j
      (new_hand g) no_hand
      (subst (λ (x : GatePeer). UpTo x.group x.floor (gate i (start g s)).group (gate i (start g s)).counter) (sym (replicate_at g i new_gate_peer))
      (omega arith, λ _. omega arith)) (omega arith, λ _. omega arith);
  hand_peers = λ i h. ap (λ (y : GateState). length y.peers) (replicate_in g i (new_gate s) no_gate (rw length-replicate at h)) ∙ length-replicate s new_hand_peer ∙
      sym (length-replicate s (new_hand g));
  gate_peers = λ j h. ap (λ (y : HandState). length y.peers) (replicate_in s j (new_hand g) no_hand (rw length-replicate at h)) ∙ length-replicate g new_gate_peer ∙
      sym (length-replicate g (new_gate s));
}

pub always : (g s : ℕ) (es : List Event) → Inv (after es (start g s))
always g s es = inv_run es (start g s) (start_inv g s)
