-- Bytes that were said, heard by an end that has their key, are heard as the message that they were said as.
use Rattle.std.proofs.Common.{◌≡◌, ℕ, min, Bool, true, false, T, List, [], ◌∷◌, length, set, None, sym, refl, ap, ◌∙◌, subst, arith}
use Rattle.frame.specs.declared.message.Nonce.{Nonce}
use Rattle.frame.specs.declared.message.Message.{Message}
use Rattle.frame.specs.declared.message.Message.TheVariants.{Begin, Reply, Take, Taken, Renew, Load, All}
use Rattle.frame.specs.Row.{code, is_small, is_message, message_of}
use Rattle.frame.proofs.RoundTrip.{message_of-code, code-is_message}
use Rattle.octets.specs.declared.parts.Cut.{Cut}
use Rattle.octets.specs.Laws.{blank, parts_of, row_of}
use Rattle.protocol.specs.declared.acts.HandAct.{HandAct}
use Rattle.protocol.specs.declared.acts.GateAct.{GateAct}
use Rattle.protocol.specs.Held.{HandState, GateState}
use Rattle.protocol.specs.Rules.{hand_hears, gate_hears}
use Rattle.protocol.specs.Calls.{is_for_hand, is_for_gate, is_tagged, verdict, hand_verdict, gate_verdict, hand_does, gate_does}
use Rattle.protocol.specs.World.{gate, hand, may_be_heard, is_sent, put_gate, put_hand, Event, GateActs, HandActs, Hears, happens}
use Rattle.promise.proofs.Base.{or_l, cond_case, is_true, from_true, In, in_here}
use Rattle.sealing.specs.Secrets.{Secrets}
use Rattle.sealing.specs.Seal.{Sealed, same_bytes, octets_sealed}
use Rattle.sealing.specs.declared.keys.PairKeys.{PairKeys}
use Rattle.link.specs.declared.keys.GateKeys.{GateKeys}
use Rattle.link.specs.declared.keys.TagKey.{TagKey}
use Rattle.link.specs.declared.keys.TagKey.TheVariants.{Key}
use Rattle.link.specs.Keys.{can_draw, nothing, received, unopened}
use Rattle.link.specs.Hands.{gate_keys, with_offered_keys, hand_tag_key, hand_seals, hand_keys_after, hand_by_row, begun_keys, hand_tagged, hand_row, hand_cut, hand_hears_bytes, hand_keys_acted, hand_acts_bytes}
use Rattle.link.specs.Gates.{GateRing, gate_tag_key, gate_seals, gate_keys_after, gate_tagged, gate_row, gate_cut, gate_hears_bytes, gate_by_act, gate_acts_bytes}
use Rattle.link.specs.World.{Fleet, gate_secrets, hand_secrets, SealedEntry, ByteWorld, gate_ring, hand_ring, put_gate_bytes, put_hand_bytes, GateDoes, HandDoes, GateHears, HandHears, is_gate, is_hand, happens_bytes, bytes_of, is_said, Genuine}
use Rattle.link.specs.Theorems.{entries_of, latest, tell_hand, tell_gate}
use Rattle.refinement.proofs.Base.{cond_true}
use Rattle.refinement.proofs.Idle.{hand_by_tag}
use Rattle.refinement.proofs.Written.{bytes_refl, Good, sealed_parts, sealed_cut, tag_right_lem}
use Rattle.refinement.proofs.Held.{AllGood, tagged_blank}
use Rattle.refinement.proofs.Hands.{for_hand_blank, hears_hand, hand_row_heard, hand_accepts}
use Rattle.refinement.proofs.Gates.{for_gate_blank, hears_gate, gate_row_heard, gate_accepts}
use Rattle.refinement.proofs.Worlds.{Inv, step, gate_out, hand_out, gate_event, gate_act_event, hand_event, hand_act_event, lt, gate_few, near_gate, hand_few, near_hand}

-- ---- what was said last

abbrev pub sealed_as : Message → PairKeys → (group : List ℕ) → Sealed
sealed_as m k q = record { message = m; a = k.nonces.anonce; b = k.nonces.snonce; key = k.key; group = q }

abbrev pub Latest : Message → PairKeys → List SealedEntry → Type 0
Latest m k [] = ⊥
Latest m k (e ∷ es) = (q : List ℕ) × (e.«sealed» ≡ sealed_as m k q)

abbrev SaidLast : Fleet → Message → PairKeys → List SealedEntry → Type 0
SaidLast F m k es = (q : List ℕ) × (latest F es ≡ octets_sealed F.hash (sealed_as m k q)) × Good F (sealed_as m k q) × In m (entries_of es)

said_last : (F : Fleet) (m : Message) (k : PairKeys) (es : List SealedEntry) → AllGood F es → Latest m k es → SaidLast F m k es
said_last F m k [] good l = absurd l
said_last F m k (e ∷ es) good l = (
  l.0,
  ap (octets_sealed F.hash) l.1,
  subst (Good F) l.1 good.0,
  subst (λ (z : Sealed). In z.message (entries_of (e ∷ es))) l.1 (in_here e.node e.«sealed».message (entries_of es)),
)

-- hearing it forges nothing
last_genuine : (F : Fleet) (m : Message) (k : PairKeys) (es : List SealedEntry) → Latest m k es → (key_for : Cut → TagKey) → Genuine F (latest F es) key_for es
last_genuine F m k [] l key_for c h ec ek right = absurd l
last_genuine F m k (e ∷ es) l key_for c h ec ek right = is_true _ (or_l (same_bytes (bytes_of F e) (bytes_of F e)) (is_said F (bytes_of F e) es) (bytes_refl (bytes_of F e)))

-- ---- no refusal

parts_row : (m : Message) (a b x k t : List ℕ) → row_of (parts_of m a b x k t) ≡ code (blank m)
parts_row (Begin g h n) a b x k t = refl
parts_row (Reply p) a b x k t = refl
parts_row (Take n c p) a b x k t = refl
parts_row (Taken p) a b x k t = refl
parts_row (Renew r n c p) a b x k t = refl
parts_row (Load d c z p) a b x k t = refl
parts_row (All g n c z) a b x k t = refl

no_refusal : (m o : Bool) → T m → T o → verdict m o true ≡ None
no_refusal true true t u = refl
no_refusal true false t u = elim u [ ]
no_refusal false o t u = elim t [ ]

hand_verdict_none : (s : ℕ) (m : Message) (y : HandState) → T (is_small (code m)) → T (is_for_hand (length y.peers) s m) → hand_verdict (length y.peers) s (code m) true y ≡ None
unfolding hand_verdict
hand_verdict_none s m y small mine =
    let n : ℕ = length y.peers in
    let same : n ≡ min n n = omega arith in
    no_refusal (is_message (code m)) (is_for_hand (min n n) s (message_of (code m))) (from_true _ (code-is_message m (is_true (is_small (code m)) small)))
    (subst (λ k. T (is_for_hand (min n n) s k)) (sym (message_of-code m)) (subst (λ k. T (is_for_hand k s m)) same mine))

gate_verdict_none : (g : ℕ) (m : Message) (y : GateState) → T (is_small (code m)) → T (is_for_gate g (length y.peers) m) → gate_verdict g (length y.peers) (code m) true y ≡ None
unfolding gate_verdict
gate_verdict_none g m y small mine =
    let n : ℕ = length y.peers in
    let same : n ≡ min n n = omega arith in
    no_refusal (is_message (code m)) (is_for_gate g (min n n) (message_of (code m))) (from_true _ (code-is_message m (is_true (is_small (code m)) small)))
    (subst (λ k. T (is_for_gate g (min n n) k)) (sym (message_of-code m)) (subst (λ k. T (is_for_gate g k m)) same mine))

-- the world w becomes v, which is u, by an event e of the rules
pub record Becomes (F : Fleet) (w v u : ByteWorld) (e : Event) : Type 0 where
  pub is : v ≡ u
  pub keeps : Inv F v
  pub rows : v.rows ≡ happens e w.rows

module _ (F : Fleet) (w : ByteWorld) (inv : Inv F w) (m : Message) (k : PairKeys) (last : Latest m k w.said) (small : T (is_small (code m))) where
  abbrev z : List ℕ → Sealed
  z q = sealed_as m k q

  may : T (may_be_heard m w.rows.transcript)
  may = cond_case T (is_tagged m) (is_sent m w.rows.transcript) true (λ _. subst (In m) inv.log (said_last F m k w.said inv.said last).3) tt

  -- ---- a handheld hears it

  module _ (j : ℕ) (t : T (is_hand j w)) (mine : T (is_for_hand (length (hand j w.rows).peers) j m)) where
    abbrev y : HandState
    y = hand j w.rows

    abbrev ks : List GateKeys
    ks = hand_ring j w

    abbrev n : ℕ
    n = length y.peers

    abbrev v : Secrets
    v = hand_secrets F j

    -- it is heard as the rules say, with these keys afterwards
    abbrev pub HandTold : List GateKeys → Type 0
    HandTold keys = Becomes F w (tell_hand F j w) (put_hand_bytes j (received None (hand_hears j m y) keys (hand_seals keys)) w) (Hears j m)

    hand_told_as : (keys : List GateKeys) → hand_hears_bytes v j (latest F w.said) y ks ≡ received None (hand_hears j m y) keys (hand_seals keys) → HandTold keys
    hand_told_as keys e =
        let is : tell_hand F j w ≡ put_hand_bytes j (received None (hand_hears j m y) keys (hand_seals keys)) w =
        cond_true (is_hand j w) (put_hand_bytes j (hand_hears_bytes v j (latest F w.said) y ks) w) w t ∙ ap (λ r. put_hand_bytes j r w) e in
        record {
          is = is;
          keeps = (step F w inv (HandHears j (latest F w.said)) (last_genuine F m k w.said last (λ (c : Cut). hand_tag_key y ks c.nonces.anonce c.nonces.snonce (message_of (row_of c))))).0;
          rows = ap (λ (u : ByteWorld). u.rows) is ∙ ap (λ o. put_hand j o w.rows) (hand_out None (hand_hears j m y) keys)
              ∙ hand_event F w inv j t m (hand_hears j m y) may (hears_hand n j m mine) (sym (hand_row_heard n j m y (hand_verdict_none j m y small mine)));
        }

    -- a message with a tag, whose key it has
    pub hand_told : is_tagged m ≡ true → T (is_small (code (blank m))) →
        ((q : List ℕ) → hand_tag_key y ks (sealed_parts F (z q)).nonces.anonce (sealed_parts F (z q)).nonces.snonce (message_of (row_of (sealed_parts F (z q)))) ≡ Key k.key) →
        (q : List ℕ) × HandTold (hand_keys_after q m y ks)
    unfolding hand_hears_bytes
    hand_told tagged small0 key =
        let l = said_last F m k w.said inv.said last in
        let q : List ℕ = l.0 in
        let x : List ℕ = octets_sealed F.hash (z q) in
        let c : Cut = sealed_parts F (z q) in
        let fine : hand_verdict n j (row_of c) true y ≡ None =
        ap (λ l. hand_verdict n j l true y) (parts_row m k.nonces.anonce k.nonces.snonce _ _ _) ∙ hand_verdict_none j (blank m) y small0 (subst T (sym (for_hand_blank n j m)) mine) in (
          q,
          hand_told_as (hand_keys_after q m y ks) (
              ap (λ x. hand_hears_bytes v j x y ks) l.1
              ∙ ap (λ d. hand_cut v j x d y ks) (sealed_cut F (z q) l.2)
              ∙ ap (λ o. hand_row v j x c o y ks) fine
              ∙ hand_by_tag v j x c (message_of (row_of c)) y ks (tagged_blank m k.nonces.anonce k.nonces.snonce _ _ _ ∙ tagged)
              ∙ ap (λ t. hand_tagged v j x c t y ks) (key q)
              ∙ hand_accepts F j y ks (inv.hands j) (hand_few F w inv j t) (near_hand F w inv j t) x (z q) l.2 (tag_right_lem F (z q) tagged l.2)
              ∙ (λ i. received (hand_verdict_none j m y small mine i) (hand_row_heard n j m y (hand_verdict_none j m y small mine) i) (hand_keys_after q m y ks) (hand_seals (hand_keys_after q m y ks)))),
        )

  -- ---- a gate hears it

  module _ (g : ℕ) (t : T (is_gate g w)) (mine : T (is_for_gate g (length (gate g w.rows).peers) m)) where
    abbrev yg : GateState
    yg = gate g w.rows

    abbrev r : GateRing
    r = gate_ring g w

    abbrev ng : ℕ
    ng = length yg.peers

    abbrev vg : Secrets
    vg = gate_secrets F g

    abbrev ring : GateRing
    ring = gate_keys_after k m yg r

    -- the event of the rules is the same whichever handheld it names
    abbrev pub GateTold : ℕ → Type 0
    GateTold s = Becomes F w (tell_gate F g w) (put_gate_bytes g (received None (gate_hears m yg) ring (gate_seals ring)) w) (Hears s m)

    pub gate_told : (s : ℕ) → is_tagged m ≡ true → T (is_small (code (blank m))) →
        ((q : List ℕ) → gate_tag_key vg yg r (sealed_parts F (z q)).nonces.anonce (sealed_parts F (z q)).nonces.snonce (message_of (row_of (sealed_parts F (z q)))) ≡ Key k.key) → GateTold s
    unfolding gate_hears_bytes
    gate_told s tagged small0 key =
        let l = said_last F m k w.said inv.said last in
        let q : List ℕ = l.0 in
        let x : List ℕ = octets_sealed F.hash (z q) in
        let c : Cut = sealed_parts F (z q) in
        let none : gate_verdict g ng (code m) true yg ≡ None = gate_verdict_none g m yg small mine in
        let fine : gate_verdict g ng (row_of c) true yg ≡ None =
        ap (λ l. gate_verdict g ng l true yg) (parts_row m k.nonces.anonce k.nonces.snonce _ _ _) ∙ gate_verdict_none g (blank m) yg small0 (subst T (sym (for_gate_blank g ng m)) mine) in
        let heard : gate_hears_bytes vg g (latest F w.said) yg r ≡ received None (gate_hears m yg) ring (gate_seals ring) =
        ap (λ x. gate_hears_bytes vg g x yg r) l.1
        ∙ ap (λ d. gate_cut vg g x d yg r) (sealed_cut F (z q) l.2)
        ∙ ap (λ o. gate_row vg g x c o yg r) fine
        ∙ ap (λ t. gate_tagged vg g x c t yg r) (key q)
        ∙ gate_accepts F g yg r (inv.gates g (lt F w inv g t)) (gate_few F w inv g t) (near_gate F w inv g t) (inv.rows.limits g) x (z q) l.2 (tag_right_lem F (z q) tagged l.2)
        ∙ (λ i. received (none i) (gate_row_heard g ng m yg none i) ring (gate_seals ring)) in
        let is : tell_gate F g w ≡ put_gate_bytes g (received None (gate_hears m yg) ring (gate_seals ring)) w =
        cond_true (is_gate g w) (put_gate_bytes g (gate_hears_bytes vg g (latest F w.said) yg r) w) w t ∙ ap (λ z. put_gate_bytes g z w) heard in
        record {
          is = is;
          keeps = (step F w inv (GateHears g (latest F w.said)) (last_genuine F m k w.said last (λ (c : Cut). gate_tag_key vg yg r c.nonces.anonce c.nonces.snonce (message_of (row_of c))))).0;
          rows = ap (λ (u : ByteWorld). u.rows) is ∙ ap (λ o. put_gate g o w.rows) (gate_out None (gate_hears m yg) ring)
              ∙ gate_event F w inv g t s m (gate_hears m yg) may (hears_gate s g ng m mine) (sym (gate_row_heard g ng m yg none));
        }

-- ---- a begin, which has no tag

module _ (F : Fleet) (w : ByteWorld) (inv : Inv F w) (g h : ℕ) (a : Nonce) (k : PairKeys) (last : Latest (Begin g h a) k w.said) (small : T (is_small (code (Begin g h a)))) (j : ℕ)
    (t : T (is_hand j w)) (mine : T (is_for_hand (length (hand j w.rows).peers) j (Begin g h a))) where
  pub begin_told : T (can_draw (hand_secrets F j) (hand j w.rows).draws) →
      HandTold F w inv (Begin g h a) k last small j t mine (set (hand_ring j w) g (with_offered_keys (begun_keys (hand_secrets F j) j g k.nonces.anonce (hand j w.rows)) (gate_keys g (hand_ring j w))))
  unfolding hand_hears_bytes
  begin_told draw =
      let y : HandState = hand j w.rows in
      let ks : List GateKeys = hand_ring j w in
      let n : ℕ = length y.peers in
      let v : Secrets = hand_secrets F j in
      let keys : List GateKeys = set ks g (with_offered_keys (begun_keys v j g k.nonces.anonce y) (gate_keys g ks)) in
      let l = said_last F (Begin g h a) k w.said inv.said last in
      let x : List ℕ = octets_sealed F.hash (sealed_as (Begin g h a) k l.0) in
      let c : Cut = sealed_parts F (sealed_as (Begin g h a) k l.0) in
      let none : hand_verdict n j (code (Begin g h a)) true y ≡ None = hand_verdict_none j (Begin g h a) y small mine in
      hand_told_as F w inv (Begin g h a) k last small j t mine keys (
      ap (λ x. hand_hears_bytes v j x y ks) l.1
      ∙ ap (λ d. hand_cut v j x d y ks) (sealed_cut F (sealed_as (Begin g h a) k l.0) l.2)
      ∙ ap (λ o. hand_row v j x c o y ks) none
      ∙ cond_true (can_draw v y.draws) (hand_by_row j (unopened true c) y keys) (nothing y ks) draw
      ∙ (λ i. received (none i) (hand_row_heard n j (Begin g h a) y none i) keys (hand_seals keys)))

-- ---- acts

module _ (F : Fleet) (w : ByteWorld) (inv : Inv F w) where
  pub gate_did : (g : ℕ) (t : T (is_gate g w)) (act : GateAct) (ring : GateRing) →
      gate_acts_bytes (gate_secrets F g) g act (gate g w.rows) (gate_ring g w) ≡ gate_by_act g act (gate g w.rows) ring →
      Becomes F w (happens_bytes F (GateDoes g act) w) (put_gate_bytes g (gate_by_act g act (gate g w.rows) ring) w) (GateActs g act)
  gate_did g t act ring e =
      let y : GateState = gate g w.rows in
      let is : happens_bytes F (GateDoes g act) w ≡ put_gate_bytes g (gate_by_act g act y ring) w =
      cond_true (is_gate g w) _ w t ∙ ap (λ z. put_gate_bytes g z w) e in
      record {
        is = is;
        keeps = (step F w inv (GateDoes g act) tt).0;
        rows = ap (λ (u : ByteWorld). u.rows) is ∙ gate_act_event F w inv g t act _ (gate_out None (gate_does g (length y.peers) act y) ring);
      }

  pub hand_did : (s : ℕ) (t : T (is_hand s w)) (act : HandAct) →
      Becomes F w (happens_bytes F (HandDoes s act) w) (put_hand_bytes s (received None (hand_does (length (hand s w.rows).peers) act (hand s w.rows)) (hand_keys_acted act (hand_ring s w))
      (hand_seals (hand_keys_acted act (hand_ring s w)))) w) (HandActs s act)
  unfolding hand_acts_bytes
  hand_did s t act =
      let y : HandState = hand s w.rows in
      let is = cond_true (is_hand s w) (put_hand_bytes s (hand_acts_bytes act y (hand_ring s w)) w) w t in
      record {
        is = is;
        keeps = (step F w inv (HandDoes s act) tt).0;
        rows = ap (λ (u : ByteWorld). u.rows) is ∙ hand_act_event F w inv s t act _ (hand_out None (hand_does (length y.peers) act y) (hand_keys_acted act (hand_ring s w)));
      }
