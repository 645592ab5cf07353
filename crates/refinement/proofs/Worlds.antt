-- A run on bytes is a run on rows.
use Rattle.std.proofs.Common.{◌≡◌, ℕ, zero, suc, ◌+◌, ◌<◌, ◌≤◌, true, T, ltb, ◌⊎◌, List, [], ◌∷◌, map, length, get_or, set, replicate, None, Option, sym, refl, ap, ◌∙◌, subst, subst₂, inl, inr, ⊎_elim, zero-add, arith, ltb→lt, length-set}
use lib.ListN.{length-replicate}
use Rattle.frame.specs.declared.message.Node.{Node}
use Rattle.frame.specs.declared.message.Node.TheVariants.{Gate, Hand}
use Rattle.frame.specs.declared.message.Message.{Message}
use Rattle.frame.specs.declared.message.Message.TheVariants.{Begin, Reply, Take, Taken, Renew, Load, All}
use Rattle.frame.specs.declared.message.Refusal.{Refusal}
use Rattle.frame.specs.Row.{code}
use Rattle.protocol.specs.declared.acts.HandAct.{HandAct}
use Rattle.protocol.specs.declared.acts.GateAct.{GateAct}
use Rattle.protocol.specs.Held.{HandState, new_hand, GateState, new_gate}
use Rattle.protocol.specs.Rules.{Out}
use Rattle.protocol.specs.Calls.{gate_hears_row, hand_hears_row, gate_does, hand_does}
use Rattle.protocol.specs.World.{World, gate, hand, logged, put_gate, put_hand, heard_by, may_be_heard, hearer, Event, GateActs, HandActs, Hears, happens, after}
use Rattle.protocol.specs.Promise.{Each}
use Rattle.promise.proofs.Base.{cond_case, replicate_in}
use Rattle.promise.proofs.Invariant.{Inv as RowInv}
use Rattle.promise.proofs.Keeps.{no_gate, no_hand, happens_keeps, always}
use Rattle.sealing.specs.Seal.{Sealed}
use Rattle.link.specs.declared.keys.GateKeys.{GateKeys}
use Rattle.link.specs.Keys.{Reception, received}
use Rattle.link.specs.Hands.{no_gate_keys, hand_seals, hand_by_row, hand_keys_acted, hand_acts_bytes}
use Rattle.link.specs.Gates.{GateRing, new_ring, gate_seals, gate_by_row, gate_by_act}
use Rattle.link.specs.World.{Fleet, gate_secrets, SealedEntry, ByteWorld, rings_from, start_bytes, no_ring, gate_ring, hand_ring, out_of, said_by, put_gate_bytes, put_hand_bytes, ByteEvent, GateDoes, HandDoes, GateHears, HandHears, is_gate, is_hand, happens_bytes, after_bytes, NotForged, Unforged}
use Rattle.link.specs.Theorems.{Nameable, entries_of, Refines, Quiet}
use Rattle.refinement.proofs.Base.{cond_true, set_same, put2}
use Rattle.refinement.proofs.Written.{Good}
use Rattle.refinement.proofs.Held.{AllGood}
use Rattle.refinement.proofs.Hands.{HandB, HandHeard, rightly, hand_hears_bytes_lem, hand_acts_keep, new_hand_lem}
use Rattle.refinement.proofs.Gates.{GateB, GateHeard, GateActed, gate_hears_bytes_lem, gate_acts_bytes_lem, new_gate_lem}

-- each end holds the key material of its pairs, and what was said is sealed as it should be
pub record Inv (F : Fleet) (w : ByteWorld) : Type 0 where
  pub rows : RowInv w.rows
  pub rings : length w.gates ≡ length w.rows.gates
  pub keys : length w.hands ≡ length w.rows.hands
  pub few : Nameable (length w.rows.gates) (length w.rows.hands)
  pub gates : (i : ℕ) → i < length w.rows.gates → GateB F i (gate i w.rows) (gate_ring i w)
  pub hands : (j : ℕ) → HandB F j (hand j w.rows) (hand_ring j w)
  pub said : AllGood F w.said
  pub log : entries_of w.said ≡ w.rows.transcript

-- ---- the logs

log_more : (n : Node) (ss : List Sealed) (es : List SealedEntry) → entries_of (said_by n ss es) ≡ logged n (map (λ (s : Sealed). s.message) ss) (entries_of es)
log_more n [] es = refl
log_more n (s ∷ ss) es = log_more n ss (record { node = n; «sealed» = s } ∷ es)

good_more : (F : Fleet) (n : Node) (ss : List Sealed) (es : List SealedEntry) → Each (Good F) ss → AllGood F es → AllGood F (said_by n ss es)
good_more F n [] es h k = k
good_more F n (s ∷ ss) es h k = good_more F n ss (record { node = n; «sealed» = s } ∷ es) h.1 (h.0, k)

-- what is sealed is what the rules say
same_messages : (seal : Message → Sealed) → ((m : Message) → (seal m).message ≡ m) → (ms : List Message) → map (λ (s : Sealed). s.message) (map seal ms) ≡ ms
same_messages seal f [] = refl
same_messages seal f (m ∷ ms) = λ i. f m i ∷ same_messages seal f ms i

gate_seals_it : (r : GateRing) (m : Message) → (gate_seals r m).message ≡ m
gate_seals_it r (Begin g h n) = refl
gate_seals_it r (Reply p) = refl
gate_seals_it r (Take n c p) = refl
gate_seals_it r (Taken p) = refl
gate_seals_it r (Renew d n c p) = refl
gate_seals_it r (Load d c x p) = refl
gate_seals_it r (All g n c x) = refl

hand_seals_it : (ks : List GateKeys) (m : Message) → (hand_seals ks m).message ≡ m
hand_seals_it ks (Begin g h n) = refl
hand_seals_it ks (Reply p) = refl
hand_seals_it ks (Take n c p) = refl
hand_seals_it ks (Taken p) = refl
hand_seals_it ks (Renew r n c p) = refl
hand_seals_it ks (Load d c x p) = refl
hand_seals_it ks (All g n c x) = refl

pub gate_out : (v : Option Refusal) (o : Out GateState) (r : GateRing) → out_of (received v o r (gate_seals r)) ≡ o
gate_out v o r = λ i. record { held = o.held; says = same_messages (gate_seals r) (gate_seals_it r) o.says i; delivers = o.delivers }

pub hand_out : (v : Option Refusal) (o : Out HandState) (ks : List GateKeys) → out_of (received v o ks (hand_seals ks)) ≡ o
hand_out v o ks = λ i. record { held = o.held; says = same_messages (hand_seals ks) (hand_seals_it ks) o.says i; delivers = o.delivers }

-- ---- one step of the rules, or none

abbrev pub Moved : World → World → Type 0
Moved w v = (v ≡ w) ⊎ ((e : Event) × (v ≡ happens e w))

moved_inv : (w v : World) → RowInv w → Moved w v → RowInv v
moved_inv w v inv (inl e) = subst RowInv (sym e) inv
moved_inv w v inv (inr e) = subst RowInv (sym e.1) (happens_keeps w inv e.0)

abbrev pub Step : Fleet → ByteWorld → ByteWorld → Type 0
Step F w v = Inv F v × Moved w.rows v.rows

module _ (F : Fleet) (w : ByteWorld) (inv : Inv F w) where
  -- ---- a gate

  module _ (g : ℕ) (t : T (is_gate g w)) where
    abbrev y : GateState
    y = gate g w.rows

    pub lt : g < length w.rows.gates
    lt = ltb→lt g (length w.rows.gates) t

    gate_put : (z : Reception GateState GateRing) → GateB F g z.held z.keys → Each (Good F) z.says → Moved w.rows (put_gate g (out_of z) w.rows) →
        Step F w (put_gate_bytes g z w)
    gate_put z gb says m = (
      record {
        rows = moved_inv w.rows (put_gate g (out_of z) w.rows) inv.rows m;
        rings = length-set w.gates g z.keys ∙ inv.rings ∙ sym (length-set w.rows.gates g z.held);
        keys = inv.keys;
        few = (rw length-set inv.few.0, inv.few.1);
        gates = λ i l. put2 (λ j u r. j < length w.rows.gates → GateB F j u r) w.rows.gates w.gates g z.held no_gate z.keys no_ring inv.rings (λ _. gb) inv.gates
            i (rw length-set at l);
        hands = inv.hands;
        said = good_more F (Gate g) z.says w.said says inv.said;
        log = log_more (Gate g) z.says w.said ∙ ap (logged (Gate g) (map (λ (s : Sealed). s.message) z.says)) inv.log;
      },
      m,
    )

    gate_quiet : (z : Reception GateState GateRing) → Quiet y (gate_ring g w) z → Step F w (put_gate_bytes g z w)
    gate_quiet z q = gate_put z
        (subst₂ (GateB F g) (sym q.0) (sym q.1) (inv.gates g lt))
        (subst (Each (Good F)) (sym q.2) tt)
        (inl ((λ i. record {
          gates = set w.rows.gates g (q.0 i);
          hands = w.rows.hands;
          transcript = logged (Gate g) (map (λ (s : Sealed). s.message) (q.2 i)) w.rows.transcript;
          deliveries = logged (Gate g) (q.3 i) w.rows.deliveries;
        })
        ∙ (λ i. record { gates = set_same w.rows.gates g no_gate i; hands = w.rows.hands; transcript = w.rows.transcript; deliveries = w.rows.deliveries })))

    -- a row that is heard, as the rules have it
    pub gate_event : (k : ℕ) (m : Message) (o : Out GateState) → T (may_be_heard m w.rows.transcript) → hearer k m ≡ Gate g →
        o ≡ gate_hears_row g (length y.peers) (code m) true y → put_gate g o w.rows ≡ happens (Hears k m) w.rows
    gate_event k m o may here e =
        ap (λ o. put_gate g o w.rows) (e ∙ ap (λ n. gate_hears_row g n (code m) true y) (inv.rows.hand_peers g lt))
        ∙ sym (cond_true (ltb g (length w.rows.gates)) _ w.rows t)
        ∙ ap (λ n. heard_by n (code m) w.rows) (sym here)
        ∙ sym (cond_true (may_be_heard m w.rows.transcript) (heard_by (hearer k m) (code m) w.rows) w.rows may)

    pub gate_act_event : (a : GateAct) (o : Out GateState) → o ≡ gate_does g (length y.peers) a y → put_gate g o w.rows ≡ happens (GateActs g a) w.rows
    gate_act_event a o e =
        ap (λ o. put_gate g o w.rows) (e ∙ ap (λ n. gate_does g n a y) (inv.rows.hand_peers g lt))
        ∙ sym (cond_true (ltb g (length w.rows.gates)) _ w.rows t)

    pub gate_few : length y.peers ≤ 65536
    gate_few = let e = inv.rows.hand_peers g lt in let f = inv.few.1 in omega arith

    pub near_gate : g < 256
    near_gate = let l = lt in let f = inv.few.0 in omega arith

    gate_heard : (z : Reception GateState GateRing) →
        GateHeard F g y (gate_ring g w) (inv.gates g lt) gate_few near_gate (inv.rows.limits g) (entries_of w.said) z → Step F w (put_gate_bytes g z w)
    gate_heard z (inl q) = gate_quiet z q
    gate_heard z (inr h) =
        subst (λ z. Step F w (put_gate_bytes g z w)) (sym h.4)
        (gate_put (gate_by_row g (rightly h.0) y h.1) h.5.0 h.5.1
        (inr (Hears 0 h.0, gate_event 0 h.0 _ (subst (λ l. T (may_be_heard h.0 l)) inv.log h.2) h.3 (gate_out None (gate_hears_row g (length y.peers) (code h.0) true y) h.1))))

    gate_acted : (a : GateAct) (z : Reception GateState GateRing) →
        GateActed F g y (gate_ring g w) (inv.gates g lt) gate_few near_gate (inv.rows.limits g) a z → Step F w (put_gate_bytes g z w)
    gate_acted a z (inl q) = gate_quiet z q
    gate_acted a z (inr h) =
        subst (λ z. Step F w (put_gate_bytes g z w)) (sym h.1)
        (gate_put (gate_by_act g a y h.0) h.2.0 h.2.1 (inr (GateActs g a, gate_act_event a _ (gate_out None (gate_does g (length y.peers) a y) h.0))))

  -- ---- a handheld

  module _ (s : ℕ) (t : T (is_hand s w)) where
    abbrev yh : HandState
    yh = hand s w.rows

    pub lh : s < length w.rows.hands
    lh = ltb→lt s (length w.rows.hands) t

    hand_put : (z : Reception HandState (List GateKeys)) → HandB F s z.held z.keys → Each (Good F) z.says → Moved w.rows (put_hand s (out_of z) w.rows) →
        Step F w (put_hand_bytes s z w)
    hand_put z hb says m = (
      record {
        rows = moved_inv w.rows (put_hand s (out_of z) w.rows) inv.rows m;
        rings = inv.rings;
        keys = length-set w.hands s z.keys ∙ inv.keys ∙ sym (length-set w.rows.hands s z.held);
        few = (inv.few.0, rw length-set inv.few.1);
        gates = inv.gates;
        hands = put2 (λ j u ks. HandB F j u ks) w.rows.hands w.hands s z.held no_hand z.keys [] inv.keys hb inv.hands;
        said = good_more F (Hand s) z.says w.said says inv.said;
        log = log_more (Hand s) z.says w.said ∙ ap (logged (Hand s) (map (λ (s : Sealed). s.message) z.says)) inv.log;
      },
      m,
    )

    hand_quiet : (z : Reception HandState (List GateKeys)) → Quiet yh (hand_ring s w) z → Step F w (put_hand_bytes s z w)
    hand_quiet z q = hand_put z
        (subst₂ (HandB F s) (sym q.0) (sym q.1) (inv.hands s))
        (subst (Each (Good F)) (sym q.2) tt)
        (inl ((λ i. record {
          gates = w.rows.gates;
          hands = set w.rows.hands s (q.0 i);
          transcript = logged (Hand s) (map (λ (s : Sealed). s.message) (q.2 i)) w.rows.transcript;
          deliveries = logged (Hand s) (q.3 i) w.rows.deliveries;
        })
        ∙ (λ i. record { gates = w.rows.gates; hands = set_same w.rows.hands s no_hand i; transcript = w.rows.transcript; deliveries = w.rows.deliveries })))

    pub hand_event : (m : Message) (o : Out HandState) → T (may_be_heard m w.rows.transcript) → hearer s m ≡ Hand s →
        o ≡ hand_hears_row (length yh.peers) s (code m) true yh → put_hand s o w.rows ≡ happens (Hears s m) w.rows
    hand_event m o may here e =
        ap (λ o. put_hand s o w.rows) (e ∙ ap (λ n. hand_hears_row n s (code m) true yh) (inv.rows.gate_peers s lh))
        ∙ sym (cond_true (ltb s (length w.rows.hands)) _ w.rows t)
        ∙ ap (λ n. heard_by n (code m) w.rows) (sym here)
        ∙ sym (cond_true (may_be_heard m w.rows.transcript) (heard_by (hearer s m) (code m) w.rows) w.rows may)

    pub hand_act_event : (a : HandAct) (o : Out HandState) → o ≡ hand_does (length yh.peers) a yh → put_hand s o w.rows ≡ happens (HandActs s a) w.rows
    hand_act_event a o e =
        ap (λ o. put_hand s o w.rows) (e ∙ ap (λ n. hand_does n a yh) (inv.rows.gate_peers s lh))
        ∙ sym (cond_true (ltb s (length w.rows.hands)) _ w.rows t)

    pub hand_few : length yh.peers ≤ 256
    hand_few = let e = inv.rows.gate_peers s lh in let f = inv.few.0 in omega arith

    pub near_hand : s < 65536
    near_hand = let l = lh in let f = inv.few.1 in omega arith

    hand_heard : (z : Reception HandState (List GateKeys)) → HandHeard F s yh (hand_ring s w) (inv.hands s) hand_few near_hand (entries_of w.said) z → Step F w (put_hand_bytes s z w)
    hand_heard z (inl q) = hand_quiet z q
    hand_heard z (inr h) =
        subst (λ z. Step F w (put_hand_bytes s z w)) (sym h.4)
        (hand_put (hand_by_row s (rightly h.0) yh h.1) h.5.0 h.5.1
        (inr (Hears s h.0, hand_event h.0 _ (subst (λ l. T (may_be_heard h.0 l)) inv.log h.2) h.3 (hand_out None (hand_hears_row (length yh.peers) s (code h.0) true yh) h.1))))

    hand_acted : (a : HandAct) → Step F w (put_hand_bytes s (hand_acts_bytes a yh (hand_ring s w)) w)
    unfolding hand_acts_bytes
    hand_acted a =
        let keeps = hand_acts_keep F s yh (hand_ring s w) (inv.hands s) hand_few near_hand a in
        hand_put (hand_acts_bytes a yh (hand_ring s w)) keeps.0 keeps.1
        (inr (HandActs s a, hand_act_event a _ (hand_out None (hand_does (length yh.peers) a yh) (hand_keys_acted a (hand_ring s w)))))

  -- ---- one event

  pub step : (e : ByteEvent) → NotForged F e w → Step F w (happens_bytes F e w)
  step (GateDoes g a) u = cond_case (Step F w) (is_gate g w) _ w
      (λ t. gate_acted g t a _ (gate_acts_bytes_lem F g (gate g w.rows) (gate_ring g w) (inv.gates g (lt g t)) (gate_few g t) (near_gate g t) (inv.rows.limits g) a)) (inv, inl refl)
  step (HandDoes s a) u = cond_case (Step F w) (is_hand s w) _ w (λ t. hand_acted s t a) (inv, inl refl)
  step (GateHears g x) u = cond_case (Step F w) (is_gate g w) _ w
      (λ t. gate_heard g t _ (gate_hears_bytes_lem F g (gate g w.rows) (gate_ring g w) (inv.gates g (lt g t)) (gate_few g t) (near_gate g t) (inv.rows.limits g) x w.said inv.said u))
      (inv, inl refl)
  step (HandHears s x) u = cond_case (Step F w) (is_hand s w) _ w
      (λ t. hand_heard s t _ (hand_hears_bytes_lem F s (hand s w.rows) (hand_ring s w) (inv.hands s) (hand_few s t) (near_hand s t) x w.said inv.said u)) (inv, inl refl)

-- ---- from the start

rings_length : (F : Fleet) (g n s : ℕ) → length (rings_from F g n s) ≡ n
rings_length F g zero s = refl
rings_length F g (suc n) s = ap suc (rings_length F (g + 1) n s)

rings_at : (F : Fleet) (g n s j : ℕ) → j < n → get_or (rings_from F g n s) j no_ring ≡ new_ring (gate_secrets F (g + j)) s
rings_at F g zero s j l = absurd (omega arith)
rings_at F g (suc n) s zero l = let e : g ≡ g + 0 = omega arith in ap (λ i. new_ring (gate_secrets F i) s) e
rings_at F g (suc n) s (suc j) l = let e : (g + 1) + j ≡ g + suc j = omega arith in rings_at F (g + 1) n s j (omega arith) ∙ ap (λ i. new_ring (gate_secrets F i) s) e

start_hands : (F : Fleet) (g s j : ℕ) → HandB F j (get_or (replicate s (new_hand g)) j no_hand) (get_or (replicate s (replicate g no_gate_keys)) j [])
start_hands F g s j = go s j
  where
    go : (n i : ℕ) → HandB F j (get_or (replicate n (new_hand g)) i no_hand) (get_or (replicate n (replicate g no_gate_keys)) i [])
    go zero i = new_hand_lem F j 0 0 0 refl
    go (suc n) zero = new_hand_lem F j 0 g g refl
    go (suc n) (suc i) = go n i

pub start_inv : (F : Fleet) (g s : ℕ) → Nameable g s → Inv F (start_bytes F g s)
unfolding after
start_inv F g s named = record {
  rows = always g s [];
  rings = rings_length F 0 g s ∙ sym (length-replicate g (new_gate s));
  keys = length-replicate s (replicate g no_gate_keys) ∙ sym (length-replicate s (new_hand g));
  few = (rw length-replicate named.0, rw length-replicate named.1);
  gates = λ i l. let lt : i < g = rw length-replicate at l in
      subst₂ (GateB F i) (sym (replicate_in g i (new_gate s) no_gate lt)) (sym (rings_at F 0 g s i lt ∙ ap (λ j. new_ring (gate_secrets F j) s) (zero-add i)))
      (new_gate_lem F i _ (new_gate s) s s refl refl refl);
  hands = start_hands F g s;
  said = tt;
  log = refl;
}

-- ---- runs

abbrev Ran : Fleet → List ByteEvent → ByteWorld → Type 0
Ran F es w = Inv F (after_bytes F es w) × ((rs : List Event) × ((after_bytes F es w).rows ≡ after rs w.rows))

pub run : (F : Fleet) (es : List ByteEvent) (w : ByteWorld) → Inv F w → Unforged F es w → Ran F es w
unfolding after_bytes Unforged after
run F [] w inv u = (inv, ([], refl))
run F (e ∷ es) w inv u =
    let v : ByteWorld = happens_bytes F e w in
    let st = step F w inv e u.0 in
    let r = run F es v st.0 u.1 in
    (r.0, ⊎_elim (λ q. (r.1.0, r.1.1 ∙ ap (after r.1.0) q)) (λ q. (q.0 ∷ r.1.0, r.1.1 ∙ ap (after r.1.0) q.1)) st.1)

pub refines : Refines
refines F g s es named u = let r = run F es (start_bytes F g s) (start_inv F g s named) u in (r.1.0, r.1.1, r.0.log)
