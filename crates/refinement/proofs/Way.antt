-- From any state of a run on bytes there is a way on.
use Rattle.std.proofs.Common.{◌≡◌, ℕ, ◌+◌, ◌^◌, ◌<◌, ◌≤◌, Bool, true, false, cond, not, ◌&&◌, T, eqb, ltb, List, [], ◌∷◌, map, length, set, Some, None, sym, refl, ap, ◌∙◌, subst, subst₂, arith, ltb→lt, lt→ltb, length-set, get_or-set_same}
use borrow.Author.Tests.{not-true}
use lib.Dec.{eqb_refl}
use lib.ListN.{length-replicate}
use Rattle.frame.specs.declared.message.Node.TheVariants.{Gate, Hand}
use Rattle.frame.specs.declared.message.Nonce.{Nonce}
use Rattle.frame.specs.declared.message.Pair.{Pair}
use Rattle.frame.specs.declared.message.Direction.{Direction}
use Rattle.frame.specs.declared.message.Direction.TheVariants.{Up, Down}
use Rattle.frame.specs.declared.message.Message.{Message}
use Rattle.frame.specs.declared.message.Message.TheVariants.{Begin, Reply, Take, Taken, Load, All}
use Rattle.frame.specs.Row.{code, pair_row, is_small}
use Rattle.protocol.specs.declared.acts.HandAct.TheVariants.{SendUp}
use Rattle.protocol.specs.declared.acts.GateAct.TheVariants.{Invite, SendDown, Broadcast}
use Rattle.protocol.specs.declared.held.Endpoint.{Endpoint}
use Rattle.protocol.specs.declared.held.GatePeer.{GatePeer}
use Rattle.protocol.specs.declared.held.HandPeer.{HandPeer}
use Rattle.protocol.specs.Held.{nonce_of, pair_of, is_this, with_offered, with_send, installed, new_gate_peer, with_gate_end, HandState, new_hand, new_hand_peer, with_hand_end, with_handshake, GateState, new_gate, with_group_counter}
use Rattle.protocol.specs.Rules.{Out, quiet, saying, within, limit, has_next, is_body, end_sends, learns, hand_begin, hand_take, hand_send, gate_peer, hand_at, hand_hears, answers, gate_invite, gate_reply, gate_taken, gate_send, hand_peer, gate_at, gate_hears, gate_acts}
use Rattle.protocol.specs.Calls.{gate_does, hand_does}
use Rattle.protocol.specs.World.{World, start, gate, hand, Event, GateActs, HandActs, Hears, happens, after}
use Rattle.protocol.specs.Promise.{Each, is_logged, handshake, Joined}
use Rattle.promise.proofs.Base.{and_i, cond_yes, is_true, from_true, eqb←, nonce_refl, this←}
use Rattle.promise.proofs.Ends.{with_gate_peer, with_hand_peer}
use Rattle.promise.proofs.Gates.{answer_not_in_use}
use Rattle.promise.proofs.Hands.{learns_up}
use Rattle.promise.proofs.Rows.{small_of}
use Rattle.promise.proofs.Keeps.{no_gate, no_hand}
use Rattle.promise.proofs.Reach.{sized_happens}
use Rattle.promise.proofs.Way.{way_on_of}
use Rattle.sealing.specs.Secrets.{Secrets, pairwise_key, group_key, has_entropy, entropy_at, nonce_bytes}
use Rattle.sealing.specs.Seal.{noughts, same_bytes}
use Rattle.sealing.specs.declared.keys.PairKeys.{PairKeys}
use Rattle.link.specs.declared.keys.GateKeys.{GateKeys}
use Rattle.link.specs.declared.keys.HandKeys.{HandKeys}
use Rattle.link.specs.declared.keys.TagKey.TheVariants.{Missing, Mismatch, Key}
use Rattle.link.specs.Keys.{can_draw, received, matching, held_key}
use Rattle.link.specs.Hands.{no_gate_keys, gate_keys, with_offered_keys, installed_keys, learns_key, hand_tag_key, sealed_by, hand_seals, hand_keys_after, begun_keys}
use Rattle.link.specs.Gates.{GateRing, no_hand_keys, hand_keys, with_hand_keys, invited_keys, replied_keys, confirmed_keys, or_reply_key, gate_held_key, gate_tag_key, sealed_carrying, begun_by, broadcast_by, gate_seals, gate_keys_after, gate_nonce, gate_by_act, gate_acts_bytes}
use Rattle.link.specs.World.{Fleet, gate_secrets, hand_secrets, SealedEntry, ByteWorld, no_ring, gate_ring, hand_ring, said_by, put_gate_bytes, put_hand_bytes, start_bytes, GateDoes, HandDoes, happens_bytes, after_bytes}
use Rattle.link.specs.Theorems.{tell_hand, tell_gate, handshake_bytes, JoinedBytes, WayOnBytes}
use Rattle.refinement.proofs.Base.{cond_true, cond_false}
use Rattle.refinement.proofs.Written.{bytes_refl, same_key}
use Rattle.refinement.proofs.Worlds.{Inv, start_inv, run}
use Rattle.refinement.proofs.Told.{Latest, Becomes, hand_told, begin_told, gate_told, gate_did, hand_did}

-- ---- what is known of a world: of gate i and of handheld j, of their key material, and of what was said last

pub record Stage (F : Fleet) (i j : ℕ) (PG : GateState → GateRing → Type 0) (PH : HandState → List GateKeys → Type 0) (PS : List SealedEntry → Type 0) (w : ByteWorld) : Type 0 where
  pub inv : Inv F w
  pub li : i < length w.rows.gates
  pub lj : j < length w.rows.hands
  pub g : PG (gate i w.rows) (gate_ring i w)
  pub h : PH (hand j w.rows) (hand_ring j w)
  pub s : PS w.said

-- the next stage, by one event of the rules
abbrev Goes : Fleet → (i j : ℕ) → (GateState → GateRing → Type 0) → (HandState → List GateKeys → Type 0) → (List SealedEntry → Type 0) → (w v : ByteWorld) → Event → Type 0
Goes F i j PG PH PS w v e = Stage F i j PG PH PS v × (v.rows ≡ happens e w.rows)

-- what is known of an end afterwards, and of what was said
abbrev GateNext : (i : ℕ) → (GateState → GateRing → Type 0) → (List SealedEntry → Type 0) → ByteWorld → Out GateState → GateRing → Type 0
GateNext i QG QS w o r = QG o.held r × QS (said_by (Gate i) (map (gate_seals r) o.says) w.said)

abbrev HandNext : (j : ℕ) → (HandState → List GateKeys → Type 0) → (List SealedEntry → Type 0) → ByteWorld → Out HandState → List GateKeys → Type 0
HandNext j QH QS w o ks = QH o.held ks × QS (said_by (Hand j) (map (hand_seals ks) o.says) w.said)

module _ (F : Fleet) (i j : ℕ) (PG QG : GateState → GateRing → Type 0) (PH QH : HandState → List GateKeys → Type 0) (PS QS : List SealedEntry → Type 0) (w v : ByteWorld)
    (st : Stage F i j PG PH PS w) (e : Event) where
  gate_goes : (o : Out GateState) (r : GateRing) → Becomes F w v (put_gate_bytes i (received None o r (gate_seals r)) w) e → GateNext i QG QS w o r → Goes F i j QG PH QS w v e
  gate_goes o r b next =
      let li = st.li in
      let rings = st.inv.rings in (
        subst (λ (u : ByteWorld). Inv F u → Stage F i j QG PH QS u) (sym b.is) (λ inv. record {
          inv = inv;
          li = rw length-set st.li;
          lj = st.lj;
          g = subst₂ QG (sym (get_or-set_same w.rows.gates i o.held no_gate st.li)) (sym (get_or-set_same w.gates i r no_ring (omega arith))) next.0;
          h = st.h;
          s = next.1;
        }) b.keeps,
        b.rows,
      )

  hand_goes : (o : Out HandState) (ks : List GateKeys) → Becomes F w v (put_hand_bytes j (received None o ks (hand_seals ks)) w) e → HandNext j QH QS w o ks → Goes F i j PG QH QS w v e
  hand_goes o ks b next =
      let lj = st.lj in
      let keys = st.inv.keys in (
        subst (λ (u : ByteWorld). Inv F u → Stage F i j PG QH QS u) (sym b.is) (λ inv. record {
          inv = inv;
          li = st.li;
          lj = rw length-set st.lj;
          g = st.g;
          h = subst₂ QH (sym (get_or-set_same w.rows.hands j o.held no_hand st.lj)) (sym (get_or-set_same w.hands j ks [] (omega arith))) next.0;
          s = next.1;
        }) b.keeps,
        b.rows,
      )

module _ (F : Fleet) (i j : ℕ) (w : ByteWorld) (inv : Inv F w) (li : i < length w.rows.gates) (lj : j < length w.rows.hands) where
  -- each has a place for the other, and for its key material
  place_gate : i < length (hand j w.rows).peers
  place_gate = let e = inv.rows.gate_peers j lj in omega arith

  place_hand : j < length (gate i w.rows).peers
  place_hand = let e = inv.rows.hand_peers i li in omega arith

  keys_gate : i < length (hand_ring j w)
  keys_gate = let e = (inv.hands j).lens in let l = place_gate in omega arith

  keys_hand : j < length (gate_ring i w).peers
  keys_hand = let e = (inv.gates i li).lens in let l = place_hand in omega arith

  for_hand : T (ltb i (length (hand j w.rows).peers) && eqb j j)
  for_hand = and_i _ _ (lt→ltb i _ place_gate) (eqb_refl j)

  for_gate : T (eqb i i && ltb j (length (gate i w.rows).peers))
  for_gate = and_i _ _ (eqb_refl i) (lt→ltb j _ place_hand)

  -- what is put in a place is there
  peer_put : (d : ℕ) (x : HandPeer) → hand_peer j (with_hand_peer d j x (gate i w.rows)) ≡ x
  peer_put d x = get_or-set_same (gate i w.rows).peers j x new_hand_peer place_hand

  keys_put : (k : HandKeys) → hand_keys j (with_hand_keys j k (gate_ring i w)) ≡ k
  keys_put k = get_or-set_same (gate_ring i w).peers j k no_hand_keys keys_hand

  hand_peer_put : (d : ℕ) (x : GatePeer) → gate_peer i (with_gate_peer d i x (hand j w.rows)) ≡ x
  hand_peer_put d x = get_or-set_same (hand j w.rows).peers i x new_gate_peer place_gate

  hand_keys_put : (k : GateKeys) → gate_keys i (set (hand_ring j w) i k) ≡ k
  hand_keys_put k = get_or-set_same (hand_ring j w) i k no_gate_keys keys_gate

abbrev AnyGate : GateState → GateRing → Type 0
AnyGate y r = Unit {0}

abbrev AnyHand : HandState → List GateKeys → Type 0
AnyHand y ks = Unit {0}

abbrev AnySaid : List SealedEntry → Type 0
AnySaid es = Unit {0}

-- a key held for these very bytes
match_held : (k : PairKeys) → matching k.nonces.anonce k.nonces.snonce k ≡ Key k.key
match_held k = cond_true (same_bytes k.nonces.anonce k.nonces.anonce && same_bytes k.nonces.snonce k.nonces.snonce) (Key k.key) Mismatch (and_i _ _ (bytes_refl k.nonces.anonce) (bytes_refl k.nonces.snonce))

-- numbers of two ends: dg, dh nonces were drawn by them; n, c are the gate's group key and counter
module _ (F : Fleet) (i j dg dh n c : ℕ) (fi : i < 256) (fj : j < 65536) (fg : dg < limit) (fh : dh < limit) (fn : n ≤ limit) (fc : c ≤ limit) where
  abbrev anonce : Nonce
  anonce = nonce_of 0 i dg

  abbrev pair : Pair
  pair = pair_of i j anonce (nonce_of 1 j dh)

  abbrev a32 : List ℕ
  a32 = nonce_bytes 0 i dg (entropy_at (gate_secrets F i) dg)

  abbrev b32 : List ℕ
  b32 = nonce_bytes 1 j dh (entropy_at (hand_secrets F j) dh)

  -- the key material that both come to have
  abbrev material : PairKeys
  material = record { nonces = record { anonce = a32; snonce = b32 }; key = pairwise_key (gate_secrets F i) j a32 b32 }

  small_pair : Each (λ x. x < 2 ^ 49) (pair_row pair)
  small_pair = (omega arith, (omega arith, (omega arith, (omega arith, (omega arith, (omega arith, (omega arith, (omega arith, tt))))))))

  small_begin : T (is_small (code (Begin i j anonce)))
  small_begin = small_of (code (Begin i j anonce)) (omega arith, (omega arith, (omega arith, (omega arith, (omega arith, (omega arith, tt))))))

  small_reply : T (is_small (code (Reply pair)))
  small_reply = small_of (code (Reply pair)) (omega arith, small_pair)

  small_take : T (is_small (code (Take n c pair)))
  small_take = small_of (code (Take n c pair)) (omega arith, (omega arith, (omega arith, small_pair)))

  small_taken : T (is_small (code (Taken pair)))
  small_taken = small_of (code (Taken pair)) (omega arith, small_pair)

  small_load : (d : Direction) (b : ℕ) → b < 2 ^ 49 → T (is_small (code (Load d 0 b pair)))
  small_load Up b l = small_of (code (Load Up 0 b pair)) (omega arith, (omega arith, (omega arith, (l, small_pair))))
  small_load Down b l = small_of (code (Load Down 0 b pair)) (omega arith, (omega arith, (omega arith, (l, small_pair))))

  -- ---- the stages of a handshake

  abbrev Numbers : GateState → Type 0
  Numbers y = (y.group ≡ n) × (y.counter ≡ c)

  abbrev Invited : GateState → GateRing → Type 0
  Invited y r = Numbers y × ((hand_peer j y).handshake ≡ Some (record { anonce = anonce })) × ((hand_peer j y).end.offered ≡ None) × ((hand_keys j r).anonce ≡ a32)

  abbrev GateOffers : GateState → GateRing → Type 0
  GateOffers y r = Numbers y × ((hand_peer j y).end.offered ≡ Some pair) × ((hand_keys j r).offered ≡ material)

  abbrev GateUses : GateState → GateRing → Type 0
  GateUses y r = Numbers y × ((hand_peer j y).end ≡ installed pair) × ((hand_keys j r).installed ≡ material)

  abbrev Drew : HandState → List GateKeys → Type 0
  Drew y ks = y.draws ≡ dh

  abbrev HandOffers : HandState → List GateKeys → Type 0
  HandOffers y ks = ((gate_peer i y).end.offered ≡ Some pair) × ((gate_keys i ks).offered ≡ material)

  abbrev HandUses : HandState → List GateKeys → Type 0
  HandUses y ks = ((gate_peer i y).end ≡ installed pair) × (n ≤ (gate_peer i y).group) × ((gate_keys i ks).installed ≡ material)

  abbrev Before : GateState → GateRing → Type 0
  Before y r = Numbers y × (y.draws ≡ dg)

  way_invite : (w : ByteWorld) → Stage F i j Before Drew AnySaid w → T (has_entropy (gate_secrets F i) dg) →
      Goes F i j Invited Drew (Latest (Begin i j anonce) (begun_by a32)) w (happens_bytes F (GateDoes i (Invite j)) w) (GateActs i (Invite j))
  unfolding gate_acts_bytes gate_does
  way_invite w st entropy =
      let y : GateState = gate i w.rows in
      let r : GateRing = gate_ring i w in
      let v : Secrets = gate_secrets F i in
      let e = st.g.1 in
      let lp = lt→ltb j (length y.peers) (place_hand F i j w st.inv st.li st.lj) in
      let next : T (has_next y.draws) = lt→ltb y.draws limit (omega arith) in
      let k : HandKeys = invited_keys (gate_nonce v i y) (hand_keys j r) in
      let ring : GateRing = with_hand_keys j k r in
      let x : HandPeer = (gate_invite i j (nonce_of 0 i y.draws) (hand_peer j y)).held in
      let here = peer_put F i j w st.inv st.li st.lj (y.draws + 1) x in
      let there : (hand_keys j ring).anonce ≡ a32 = ap (λ (k : HandKeys). k.anonce) (keys_put F i j w st.inv st.li st.lj k) ∙ ap (λ d. nonce_bytes 0 i d (entropy_at v d)) e in
      let did = gate_did F w st.inv i (lt→ltb i (length w.rows.gates) st.li) (Invite j) ring
      (cond_true (can_draw v y.draws) (gate_by_act i (Invite j) y ring) _ (and_i _ _ next (subst (λ d. T (has_entropy v d)) (sym e) entropy))) in
      let Q : Out GateState → Type 0 = λ o. GateNext i Invited (Latest (Begin i j anonce) (begun_by a32)) w o ring in
      let q : Q (gate_does i (length y.peers) (Invite j) y) =
      cond_yes Q (ltb j (length y.peers)) (gate_acts i (Invite j) y) (quiet y) lp
      (cond_yes Q (has_next y.draws) (gate_at (y.draws + 1) j (gate_invite i j (nonce_of 0 i y.draws)) y) (quiet y) next
      (cond_yes Q (ltb j (length y.peers)) (within (λ (x : HandPeer). with_hand_peer (y.draws + 1) j x y) (gate_invite i j (nonce_of 0 i y.draws) (hand_peer j y))) (quiet y) lp (
        (
          st.g.0,
          ap (λ (x : HandPeer). x.handshake) here ∙ ap (λ d. Some (record { anonce = nonce_of 0 i d })) e,
          ap (λ (x : HandPeer). x.end.offered) here,
          there,
        ),
        (noughts 32, λ t. sealed_carrying (noughts 32) (begun_by (there t)) (Begin i j (nonce_of 0 i (e t)))),
      ))) in
      gate_goes F i j Before Invited Drew Drew AnySaid (Latest (Begin i j anonce) (begun_by a32)) w _ st (GateActs i (Invite j)) (gate_does i (length y.peers) (Invite j) y) ring did q

  way_begin : (w : ByteWorld) → Stage F i j Invited Drew (Latest (Begin i j anonce) (begun_by a32)) w → T (has_entropy (hand_secrets F j) dh) →
      Goes F i j Invited HandOffers (Latest (Reply pair) material) w (tell_hand F j w) (Hears j (Begin i j anonce))
  way_begin w st entropy =
      let y : HandState = hand j w.rows in
      let ks : List GateKeys = hand_ring j w in
      let v : Secrets = hand_secrets F j in
      let e = st.h in
      let lp = lt→ltb i (length y.peers) (place_gate F i j w st.inv st.li st.lj) in
      let next : T (has_next y.draws) = lt→ltb y.draws limit (omega arith) in
      let k : GateKeys = with_offered_keys (begun_keys v j i a32 y) (gate_keys i ks) in
      let keys : List GateKeys = set ks i k in
      let p : Pair = pair_of i j anonce (nonce_of 1 j y.draws) in
      let same : begun_keys v j i a32 y ≡ material =
      (λ t. record { nonces = record { anonce = a32; snonce = nonce_bytes 1 j (e t) (entropy_at v (e t)) }; key = pairwise_key v i a32 (nonce_bytes 1 j (e t) (entropy_at v (e t))) })
      ∙ (λ t. record { nonces = record { anonce = a32; snonce = b32 }; key = same_key F i j a32 b32 t }) in
      let here = hand_peer_put F i j w st.inv st.li st.lj (y.draws + 1) (hand_begin p (gate_peer i y)).held in
      let there : (gate_keys i keys).offered ≡ material = ap (λ (k : GateKeys). k.offered) (hand_keys_put F i j w st.inv st.li st.lj k) ∙ same in
      let told = begin_told F w st.inv i j anonce (begun_by a32) st.s small_begin j (lt→ltb j (length w.rows.hands) st.lj)
      (for_hand F i j w st.inv st.li st.lj) (and_i _ _ next (subst (λ d. T (has_entropy v d)) (sym e) entropy)) in
      let Q : Out HandState → Type 0 = λ o. HandNext j HandOffers (Latest (Reply pair) material) w o keys in
      let q : Q (hand_hears j (Begin i j anonce) y) =
      cond_yes Q (has_next y.draws) (hand_at (y.draws + 1) i (hand_begin p) y) (quiet y) next
      (cond_yes Q (ltb i (length y.peers)) (within (λ (x : GatePeer). with_gate_peer (y.draws + 1) i x y) (hand_begin p (gate_peer i y))) (quiet y) lp (
        (ap (λ (x : GatePeer). x.end.offered) here ∙ ap (λ d. Some (pair_of i j anonce (nonce_of 1 j d))) e, there),
        (noughts 32, λ t. sealed_by (there t) (Reply (pair_of i j anonce (nonce_of 1 j (e t))))),
      )) in
      hand_goes F i j Invited Invited Drew HandOffers (Latest (Begin i j anonce) (begun_by a32)) (Latest (Reply pair) material) w _ st (Hears j (Begin i j anonce)) (hand_hears j (Begin i j anonce) y) keys told q

  -- its handshake is open with that nonce, and the pair is neither offered nor in use
  reply_key_lem : (w : ByteWorld) (st : Stage F i j Invited HandOffers (Latest (Reply pair) material) w) →
      gate_tag_key (gate_secrets F i) (gate i w.rows) (gate_ring i w) a32 b32 (Reply pair) ≡ Key material.key
  reply_key_lem w st =
      let y : GateState = gate i w.rows in
      let v : Secrets = gate_secrets F i in
      let x : HandPeer = hand_peer j y in
      let k : HandKeys = hand_keys j (gate_ring i w) in
      let opened : T (answers pair x.handshake) = subst (λ o. T (answers pair o)) (sym st.g.1) (nonce_refl anonce) in
      let unused : is_this pair x.end.key ≡ false =
      not-true _ (is_true _ (answer_not_in_use i j y.draws w.rows.transcript x pair (st.inv.rows.gates i j) opened)) in
      let missing : gate_held_key pair a32 b32 x k ≡ Missing =
      cond_false (is_this pair x.end.offered) _ _ (ap (is_this pair) st.g.2) ∙ cond_false (is_this pair x.end.key) _ _ unused in
      ap (or_reply_key v pair a32 b32 x k) missing
      ∙ cond_true (answers pair x.handshake) (cond (same_bytes a32 k.anonce) (Key material.key) Mismatch) Missing opened
      ∙ cond_true (same_bytes a32 k.anonce) (Key material.key) Mismatch (subst (λ l. T (same_bytes a32 l)) (sym st.g.3) (bytes_refl a32))

  way_reply : (w : ByteWorld) → Stage F i j Invited HandOffers (Latest (Reply pair) material) w →
      Goes F i j GateOffers HandOffers (Latest (Take n c pair) material) w (tell_gate F i w) (Hears j (Reply pair))
  way_reply w st =
      let y : GateState = gate i w.rows in
      let r : GateRing = gate_ring i w in
      let x : HandPeer = hand_peer j y in
      let lp = lt→ltb j (length y.peers) (place_hand F i j w st.inv st.li st.lj) in
      let opened : T (answers pair x.handshake) = subst (λ o. T (answers pair o)) (sym st.g.1) (nonce_refl anonce) in
      let test : Bool = answers pair x.handshake && not (is_this pair x.end.key) in
      let passes : T test = and_i _ _ opened (answer_not_in_use i j y.draws w.rows.transcript x pair (st.inv.rows.gates i j) opened) in
      let k : HandKeys = replied_keys material (hand_keys j r) in
      let z : HandPeer = with_hand_end (with_offered (Some pair) x.end) x in
      let told = gate_told F w st.inv (Reply pair) material st.s small_reply i (lt→ltb i (length w.rows.gates) st.li) (for_gate F i j w st.inv st.li st.lj) j refl
      small_reply (λ q. reply_key_lem w st) in
      let here = peer_put F i j w st.inv st.li st.lj y.draws z in
      let there : (hand_keys j (with_hand_keys j k r)).offered ≡ material = ap (λ (k : HandKeys). k.offered) (keys_put F i j w st.inv st.li st.lj k) in
      let numbers = st.g.0 in
      let Q : Out GateState → GateRing → Type 0 = GateNext i GateOffers (Latest (Take n c pair) material) w in
      let put : Out HandPeer → Out GateState = within (λ (x : HandPeer). with_hand_peer y.draws j x y) in
      let q : Q (gate_hears (Reply pair) y) (gate_keys_after material (Reply pair) y r) =
      cond_yes (λ o. Q o (gate_keys_after material (Reply pair) y r)) (ltb j (length y.peers)) (put (gate_reply y.group y.counter pair x)) (quiet y) lp
      (cond_yes (λ u. Q (put (gate_reply y.group y.counter pair x)) (with_hand_keys j u r)) test k (hand_keys j r) passes
      (cond_yes (λ o. Q (put o) (with_hand_keys j k r)) test (saying z (Take y.group y.counter pair)) (quiet x) passes (
        (numbers, ap (λ (x : HandPeer). x.end.offered) here, there),
        (r.group, λ t. sealed_carrying r.group (there t) (Take (numbers.0 t) (numbers.1 t) pair)),
      ))) in
      gate_goes F i j Invited GateOffers HandOffers HandOffers (Latest (Reply pair) material) (Latest (Take n c pair) material) w _ st (Hears j (Reply pair)) (gate_hears (Reply pair) y)
      (gate_keys_after material (Reply pair) y r) told q

  -- the key of an offer that is held, at either end
  offered_key : (e : Endpoint) (o k : PairKeys) → e.offered ≡ Some pair → o ≡ material → held_key pair a32 b32 e o k ≡ Key material.key
  offered_key e o k this same =
      cond_true (is_this pair e.offered) (matching a32 b32 o) _ (this← pair e.offered this) ∙ ap (matching a32 b32) same ∙ match_held material

  way_take : (w : ByteWorld) → Stage F i j GateOffers HandOffers (Latest (Take n c pair) material) w →
      Goes F i j GateOffers HandUses (Latest (Taken pair) material) w (tell_hand F j w) (Hears j (Take n c pair))
  way_take w st =
      let y : HandState = hand j w.rows in
      let ks : List GateKeys = hand_ring j w in
      let x : GatePeer = gate_peer i y in
      let lp = lt→ltb i (length y.peers) (place_gate F i j w st.inv st.li st.lj) in
      let this : T (is_this pair x.end.offered) = this← pair x.end.offered st.h.0 in
      let told = hand_told F w st.inv (Take n c pair) material st.s small_take j (lt→ltb j (length w.rows.hands) st.lj) (for_hand F i j w st.inv st.li st.lj) refl
      small_take (λ q. offered_key x.end (gate_keys i ks).offered (gate_keys i ks).installed st.h.0 st.h.1) in
      let q : List ℕ = told.0 in
      let k : GateKeys = learns_key n q x (installed_keys (gate_keys i ks)) in
      let z : GatePeer = learns n c (with_gate_end (installed pair) x) in
      let here = hand_peer_put F i j w st.inv st.li st.lj y.draws z in
      let there : (gate_keys i (set ks i k)).installed ≡ material = ap (λ (k : GateKeys). k.installed) (hand_keys_put F i j w st.inv st.li st.lj k) ∙ st.h.1 in
      let numbers = st.g.0.0 in
      let one = st.inv.rows.grouped i st.li in
      let up = ((learns_up n c (with_gate_end (installed pair) x)).1 (omega arith)).0 in
      let Q : Out HandState → List GateKeys → Type 0 = HandNext j HandUses (Latest (Taken pair) material) w in
      let put : Out GatePeer → Out HandState = within (λ (x : GatePeer). with_gate_peer y.draws i x y) in
      let next : Q (hand_hears j (Take n c pair) y) (hand_keys_after q (Take n c pair) y ks) =
      cond_yes (λ o. Q o (hand_keys_after q (Take n c pair) y ks)) (ltb i (length y.peers)) (put (hand_take n c pair x)) (quiet y) lp
      (cond_yes (λ u. Q (put (hand_take n c pair x)) (set ks i u)) (is_this pair x.end.offered) k (gate_keys i ks) this
      (cond_yes (λ o. Q (put o) (set ks i k)) (is_this pair x.end.offered) (saying z (Taken pair)) _ this (
        (ap (λ (x : GatePeer). x.end) here, subst (λ (x : GatePeer). n ≤ x.group) (sym here) up, there),
        (noughts 32, λ t. sealed_by (there t) (Taken pair)),
      ))) in
      hand_goes F i j GateOffers GateOffers HandOffers HandUses (Latest (Take n c pair) material) (Latest (Taken pair) material) w _ st (Hears j (Take n c pair)) (hand_hears j (Take n c pair) y)
      (hand_keys_after q (Take n c pair) y ks) told.1 next

  way_taken : (w : ByteWorld) → Stage F i j GateOffers HandUses (Latest (Taken pair) material) w →
      Goes F i j GateUses HandUses AnySaid w (tell_gate F i w) (Hears j (Taken pair))
  way_taken w st =
      let y : GateState = gate i w.rows in
      let r : GateRing = gate_ring i w in
      let x : HandPeer = hand_peer j y in
      let lp = lt→ltb j (length y.peers) (place_hand F i j w st.inv st.li st.lj) in
      let this : T (is_this pair x.end.offered) = this← pair x.end.offered st.g.1 in
      let told = gate_told F w st.inv (Taken pair) material st.s small_taken i (lt→ltb i (length w.rows.gates) st.li) (for_gate F i j w st.inv st.li st.lj) j refl
      small_taken (λ q. offered_key x.end (hand_keys j r).offered (hand_keys j r).installed st.g.1 st.g.2) in
      let k : HandKeys = confirmed_keys (hand_keys j r) in
      let z : HandPeer = with_handshake None (with_hand_end (installed pair) x) in
      let here = peer_put F i j w st.inv st.li st.lj y.draws z in
      let there : (hand_keys j (with_hand_keys j k r)).installed ≡ material = ap (λ (k : HandKeys). k.installed) (keys_put F i j w st.inv st.li st.lj k) ∙ st.g.2 in
      let Q : Out GateState → GateRing → Type 0 = GateNext i GateUses AnySaid w in
      let put : Out HandPeer → Out GateState = within (λ (x : HandPeer). with_hand_peer y.draws j x y) in
      let next : Q (gate_hears (Taken pair) y) (gate_keys_after material (Taken pair) y r) =
      cond_yes (λ o. Q o (gate_keys_after material (Taken pair) y r)) (ltb j (length y.peers)) (put (gate_taken pair x)) (quiet y) lp
      (cond_yes (λ u. Q (put (gate_taken pair x)) (with_hand_keys j u r)) (is_this pair x.end.offered) k (hand_keys j r) this
      (cond_yes (λ o. Q (put o) (with_hand_keys j k r)) (is_this pair x.end.offered) (quiet z) (quiet x) this
      ((st.g.0, ap (λ (x : HandPeer). x.end) here, there), tt))) in
      gate_goes F i j GateOffers GateUses HandUses HandUses (Latest (Taken pair) material) AnySaid w _ st (Hears j (Taken pair)) (gate_hears (Taken pair) y)
      (gate_keys_after material (Taken pair) y r) told next

  -- ---- frames

  -- the key of a pair that has just come into use
  used_key : (e : Endpoint) (o k : PairKeys) → e ≡ installed pair → k ≡ material → held_key pair a32 b32 e o k ≡ Key material.key
  used_key e o k this same =
      ap (λ (e : Endpoint). held_key pair a32 b32 e o k) this ∙ cond_true (is_this pair (Some pair)) (matching a32 b32 k) Missing (this← pair (Some pair) refl)
      ∙ ap (matching a32 b32) same ∙ match_held material

  send_first : (R : Out Endpoint → Type 0) (d : Direction) (b : ℕ) (e : Endpoint) → e ≡ installed pair → T (is_body b) →
      R (saying (with_send 1 (installed pair)) (Load d 0 b pair)) → R (end_sends d b e)
  send_first R d b e this body next =
      subst (λ e. R (end_sends d b e)) (sym this) (cond_yes R (is_body b && has_next 0) _ _ (and_i (is_body b) (has_next 0) body tt) next)

  module _ (w : ByteWorld) (st : Stage F i j GateUses HandUses AnySaid w) (b : ℕ) (body : T (is_body b)) where
    down : (tell_hand F j (happens_bytes F (GateDoes i (SendDown j b)) w)).rows ≡ happens (Hears j (Load Down 0 b pair)) (happens (GateActs i (SendDown j b)) w.rows)
    unfolding gate_acts_bytes gate_does
    down =
        let y : GateState = gate i w.rows in
        let r : GateRing = gate_ring i w in
        let x : HandPeer = hand_peer j y in
        let m : Message = Load Down 0 b pair in
        let lp = lt→ltb j (length y.peers) (place_hand F i j w st.inv st.li st.lj) in
        let put : Out HandPeer → Out GateState = within (λ (x : HandPeer). with_hand_peer y.draws j x y) in
        let Q : Out GateState → Type 0 = λ o. GateNext i AnyGate (Latest m material) w o r in
        let did = gate_did F w st.inv i (lt→ltb i (length w.rows.gates) st.li) (SendDown j b) r refl in
        let next : Q (gate_does i (length y.peers) (SendDown j b) y) =
        cond_yes Q (ltb j (length y.peers)) (gate_at y.draws j (gate_send b) y) (quiet y) lp
        (cond_yes Q (ltb j (length y.peers)) (put (gate_send b x)) (quiet y) lp
        (send_first (λ o. Q (put (within (λ (e : Endpoint). with_hand_end e x) o))) Down b x.end st.g.1 body (tt, (noughts 32, λ t. sealed_carrying (noughts 32) (st.g.2 t) m)))) in
        let v : ByteWorld = happens_bytes F (GateDoes i (SendDown j b)) w in
        let go = gate_goes F i j GateUses AnyGate HandUses HandUses AnySaid (Latest m material) w v st (GateActs i (SendDown j b)) (gate_does i (length y.peers) (SendDown j b) y) r did next in
        let su = go.0 in
        let lb = ltb→lt b (2 ^ 49) body in
        let z : GateKeys = gate_keys i (hand_ring j v) in
        let told = hand_told F v su.inv m material su.s (small_load Down b lb) j (lt→ltb j (length v.rows.hands) su.lj) (for_hand F i j v su.inv su.li su.lj) refl
        (small_load Down 0 (omega arith)) (λ q. used_key (gate_peer i (hand j v.rows)).end z.offered z.installed su.h.0 su.h.2) in
        told.1.rows ∙ ap (happens (Hears j m)) go.1

    up : (tell_gate F i (happens_bytes F (HandDoes j (SendUp i b)) w)).rows ≡ happens (Hears j (Load Up 0 b pair)) (happens (HandActs j (SendUp i b)) w.rows)
    unfolding hand_does
    up =
        let y : HandState = hand j w.rows in
        let ks : List GateKeys = hand_ring j w in
        let x : GatePeer = gate_peer i y in
        let m : Message = Load Up 0 b pair in
        let lp = lt→ltb i (length y.peers) (place_gate F i j w st.inv st.li st.lj) in
        let put : Out GatePeer → Out HandState = within (λ (x : GatePeer). with_gate_peer y.draws i x y) in
        let Q : Out HandState → Type 0 = λ o. HandNext j AnyHand (Latest m material) w o ks in
        let did = hand_did F w st.inv j (lt→ltb j (length w.rows.hands) st.lj) (SendUp i b) in
        let next : Q (hand_does (length y.peers) (SendUp i b) y) =
        cond_yes Q (ltb i (length y.peers)) (hand_at y.draws i (hand_send b) y) (quiet y) lp
        (cond_yes Q (ltb i (length y.peers)) (put (hand_send b x)) (quiet y) lp
        (send_first (λ o. Q (put (within (λ (e : Endpoint). with_gate_end e x) o))) Up b x.end st.h.0 body (tt, (noughts 32, λ t. sealed_by (st.h.2 t) m)))) in
        let v : ByteWorld = happens_bytes F (HandDoes j (SendUp i b)) w in
        let go = hand_goes F i j GateUses GateUses HandUses AnyHand AnySaid (Latest m material) w v st (HandActs j (SendUp i b)) (hand_does (length y.peers) (SendUp i b) y) ks did next in
        let su = go.0 in
        let lb = ltb→lt b (2 ^ 49) body in
        let z : HandKeys = hand_keys j (gate_ring i v) in
        let told = gate_told F v su.inv m material su.s (small_load Up b lb) i (lt→ltb i (length v.rows.gates) su.li) (for_gate F i j v su.inv su.li su.lj) j refl
        (small_load Up 0 (omega arith)) (λ q. used_key (hand_peer j (gate i v.rows)).end z.offered z.installed su.g.1 su.g.2) in
        told.rows ∙ ap (happens (Hears j m)) go.1

    -- the handheld has the gate's group key, with its number and its bytes
    all : c < limit → (tell_hand F j (happens_bytes F (GateDoes i (Broadcast b)) w)).rows ≡ happens (Hears j (All i n c b)) (happens (GateActs i (Broadcast b)) w.rows)
    unfolding gate_acts_bytes gate_does
    all more =
        let y : GateState = gate i w.rows in
        let r : GateRing = gate_ring i w in
        let m : Message = All i n c b in
        let k : PairKeys = broadcast_by r.group in
        let numbers = st.g.0 in
        let QG : GateState → GateRing → Type 0 = λ y ring. y.group ≡ n in
        let Q : Out GateState → Type 0 = λ o. GateNext i QG (Latest m k) w o r in
        let did = gate_did F w st.inv i (lt→ltb i (length w.rows.gates) st.li) (Broadcast b) r refl in
        let next : Q (gate_does i (length y.peers) (Broadcast b) y) =
        cond_yes Q (is_body b && has_next y.counter) (saying (with_group_counter (y.counter + 1) y) (All i y.group y.counter b)) (quiet y)
        (and_i (is_body b) (has_next y.counter) body (lt→ltb y.counter limit (omega arith)))
        (numbers.0, (noughts 32, λ t. sealed_carrying (noughts 32) k (All i (numbers.0 t) (numbers.1 t) b))) in
        let v : ByteWorld = happens_bytes F (GateDoes i (Broadcast b)) w in
        let go = gate_goes F i j GateUses QG HandUses HandUses AnySaid (Latest m k) w v st (GateActs i (Broadcast b)) (gate_does i (length y.peers) (Broadcast b) y) r did next in
        let su = go.0 in
        let lb = ltb→lt b (2 ^ 49) body in
        let x : GatePeer = gate_peer i (hand j v.rows) in
        let one = st.inv.rows.grouped i st.li in
        let ahead = (su.inv.rows.ahead j i).0 in
        let behind = su.h.1 in
        let told-number = su.g in
        let same : n ≡ x.group = omega arith in
        let known : (gate_keys i (hand_ring j v)).group ≡ r.group =
        ((su.inv.hands j).peers i).group (omega arith) ∙ ap (group_key (gate_secrets F i)) (sym same ∙ sym numbers.0) ∙ sym (st.inv.gates i st.li).group in
        let key : hand_tag_key (hand j v.rows) (hand_ring j v) (noughts 32) (noughts 32) (All i n c b) ≡ Key r.group =
        cond_true (ltb 0 n && eqb n x.group) (Key (gate_keys i (hand_ring j v)).group) Missing (and_i _ _ (lt→ltb 0 n (omega arith)) (eqb← n x.group same)) ∙ ap Key known in
        let told = hand_told F v su.inv m k su.s (small_of (code m) (omega arith, (omega arith, (omega arith, (omega arith, (lb, tt)))))) j (lt→ltb j (length v.rows.hands) su.lj)
        (lt→ltb i _ (place_gate F i j v su.inv su.li su.lj)) refl (small_of (code (All i n c 0)) (omega arith, (omega arith, (omega arith, (omega arith, (omega arith, tt)))))) (λ q. key) in
        told.1.rows ∙ ap (happens (Hears j m)) go.1

-- ---- the way on

sized_run : (es : List Event) (w : World) → (length (after es w).gates ≡ length w.gates) × (length (after es w).hands ≡ length w.hands)
unfolding after
sized_run [] w = (refl, refl)
sized_run (e ∷ es) w = let r = sized_run es (happens e w) in let s = sized_happens w e in (r.0 ∙ s.0, r.1 ∙ s.1)

module _ (F : Fleet) (w : ByteWorld) (inv : Inv F w) (i j : ℕ) (li : i < length w.rows.gates) (lj : j < length w.rows.hands) (lg : (gate i w.rows).draws < limit)
    (lh : (hand j w.rows).draws < limit) where
  abbrev dg : ℕ
  dg = (gate i w.rows).draws

  abbrev dh : ℕ
  dh = (hand j w.rows).draws

  abbrev n : ℕ
  n = (gate i w.rows).group

  abbrev c : ℕ
  c = (gate i w.rows).counter

  abbrev p : Pair
  p = pair_of i j (nonce_of 0 i dg) (nonce_of 1 j dh)

  fi : i < 256
  fi = let f = inv.few.0 in omega arith

  fj : j < 65536
  fj = let f = inv.few.1 in omega arith

  way : T (has_entropy (gate_secrets F i) dg) → T (has_entropy (hand_secrets F j) dh) → JoinedBytes F i j p (handshake_bytes F i j w)
  unfolding after
  way eg eh =
      let fn = (inv.rows.limits i).1 in
      let fc = (inv.rows.limits i).0 in
      let st : Stage F i j (Before F i j dg dh n c fi fj lg lh fn fc) (Drew F i j dg dh n c fi fj lg lh fn fc) AnySaid w =
      record { inv = inv; li = li; lj = lj; g = ((refl, refl), refl); h = refl; s = tt } in
      let w1 : ByteWorld = happens_bytes F (GateDoes i (Invite j)) w in
      let w2 : ByteWorld = tell_hand F j w1 in
      let w3 : ByteWorld = tell_gate F i w2 in
      let w4 : ByteWorld = tell_hand F j w3 in
      let w5 : ByteWorld = tell_gate F i w4 in
      let s1 = way_invite F i j dg dh n c fi fj lg lh fn fc w st eg in
      let s2 = way_begin F i j dg dh n c fi fj lg lh fn fc w1 s1.0 eh in
      let s3 = way_reply F i j dg dh n c fi fj lg lh fn fc w2 s2.0 in
      let s4 = way_take F i j dg dh n c fi fj lg lh fn fc w3 s3.0 in
      let s5 = way_taken F i j dg dh n c fi fj lg lh fn fc w4 s4.0 in
      let su = s5.0 in
      let rows : w5.rows ≡ after (GateActs i (Invite j) ∷ handshake i j p n c) w.rows =
      s5.1 ∙ ap (happens (Hears j (Taken p))) (s4.1 ∙ ap (happens (Hears j (Take n c p))) (s3.1 ∙ ap (happens (Hears j (Reply p))) (s2.1 ∙ ap (happens (Hears j (Begin i j (nonce_of 0 i dg)))) s1.1))) in
      let both : Joined i j p w5.rows = subst (Joined i j p) (sym rows) (way_on_of w.rows inv.rows (let f = inv.few.0 in omega arith, let f = inv.few.1 in omega arith) i j li lj lg lh) in
      let numbers = su.g.0 in (
        both.0,
        both.1,
        su.g.2 ∙ sym su.h.2,
        λ b body.
            let t = from_true (is_body b) body in
            let frames = both.2 b body in (
              subst (λ (u : World). is_logged (Hand j) (Load Down 0 b p) u.deliveries ≡ true) (sym (down F i j dg dh n c fi fj lg lh fn fc w5 su b t)) frames.0,
              subst (λ (u : World). is_logged (Gate i) (Load Up 0 b p) u.deliveries ≡ true) (sym (up F i j dg dh n c fi fj lg lh fn fc w5 su b t)) frames.1,
              λ more.
                  let m : Message = All i (gate i w5.rows).group (gate i w5.rows).counter b in
                  let heard = all F i j dg dh n c fi fj lg lh fn fc w5 su b t (omega arith)
                  ∙ (λ t. happens (Hears j (All i (sym numbers.0 t) (sym numbers.1 t) b)) (happens (GateActs i (Broadcast b)) w5.rows)) in
                  subst (λ (u : World). is_logged (Hand j) m u.deliveries ≡ true) (sym heard) (frames.2 more),
            ),
      )

pub way_on_bytes : WayOnBytes
way_on_bytes F g s es named u i j li lj lg lh eg eh =
    let r = run F es (start_bytes F g s) (start_inv F g s named) u in
    let w : ByteWorld = after_bytes F es (start_bytes F g s) in
    let l = sized_run r.1.0 (start g s) in
    let gates : length w.rows.gates ≡ g = ap (λ (v : World). length v.gates) r.1.1 ∙ l.0 ∙ length-replicate g (new_gate s) in
    let hands : length w.rows.hands ≡ s = ap (λ (v : World). length v.hands) r.1.1 ∙ l.1 ∙ length-replicate s (new_hand g) in
    way F w r.0 i j (omega arith) (omega arith) lg lh (from_true _ eg) (from_true _ eh)
