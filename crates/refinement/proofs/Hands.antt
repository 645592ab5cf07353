-- What a handheld does with bytes is what it does with a row, and it keeps the key material of its pairs.
use Rattle.std.proofs.Common.{◌≡◌, ℕ, ◌+◌, ◌^◌, ◌<◌, ◌≤◌, min, Bool, true, false, cond, ◌&&◌, ◌||◌, T, eqb, ltb, ◌⊎◌, List, map, length, set, replicate, is_some, Some, None, Ok, Err, Option, Result, sym, refl, ap, ◌∙◌, subst, inl, inr, arith, eqb→eq, ltb→lt, length-set, get_or-set_same}
use lib.ListN.{length-replicate}
use Rattle.frame.specs.declared.message.Node.TheVariants.{Hand}
use Rattle.frame.specs.declared.message.Nonce.{Nonce}
use Rattle.frame.specs.declared.message.Pair.{Pair}
use Rattle.frame.specs.declared.message.Direction.TheVariants.{Up, Down}
use Rattle.frame.specs.declared.message.Message.{Message}
use Rattle.frame.specs.declared.message.Message.TheVariants.{Begin, Reply, Take, Taken, Renew, Load, All}
use Rattle.frame.specs.declared.message.Refusal.{Refusal}
use Rattle.frame.specs.Row.{code, is_message, message_of}
use Rattle.frame.proofs.RoundTrip.{message_of-code}
use Rattle.octets.specs.declared.parts.Cut.{Cut}
use Rattle.octets.specs.Layout.{nonce_of}
use Rattle.octets.specs.Cutting.{cut}
use Rattle.octets.specs.Laws.{blank, parts_of, row_of}
use Rattle.protocol.specs.declared.acts.HandAct.{HandAct}
use Rattle.protocol.specs.declared.acts.HandAct.TheVariants.{SendUp, ForgetHand}
use Rattle.protocol.specs.declared.held.Endpoint.{Endpoint}
use Rattle.protocol.specs.declared.held.GatePeer.{GatePeer}
use Rattle.protocol.specs.Held.{pair_of, is_this, installed, with_round, with_gate_end, new_gate_peer, HandState, nonce_of as nonce_numbers}
use Rattle.protocol.specs.Rules.{Out, quiet, saying, within, limit, has_next, is_body, accepts, end_sends_by, is_news, learns, hand_begin, hand_take, hand_renew, hand_load, hand_all, hand_send, gate_peer, hand_at, hand_hears}
use Rattle.protocol.specs.Calls.{is_for_hand, is_tagged, hand_verdict, unless, hand_hears_row, hand_does}
use Rattle.protocol.specs.World.{Entry, is_sent, may_be_heard, hearer}
use Rattle.protocol.specs.Promise.{Each}
use Rattle.promise.proofs.Base.{and_l, and_r, cond_case, cond_yes, from_true, none_some, this→, each_map, Any, any_this, replicate_at}
use Rattle.promise.proofs.Ends.{end_hears_lem}
use Rattle.sealing.specs.Secrets.{Secrets, group_key, has_entropy, entropy_at}
use Rattle.sealing.specs.Seal.{Sealed, sealed_body, sealed_key, tag_of, tagged_bytes}
use Rattle.sealing.specs.declared.keys.PairKeys.{PairKeys}
use Rattle.link.specs.declared.keys.GateKeys.{GateKeys}
use Rattle.link.specs.declared.keys.TagKey.{TagKey}
use Rattle.link.specs.declared.keys.TagKey.TheVariants.{Missing, Mismatch, Key}
use Rattle.link.specs.Keys.{can_draw, Reception, nothing, held_key, Heard, unopened, tag_right, opened_with, group_with}
use Rattle.link.specs.Hands.{no_gate_keys, gate_keys, with_offered_keys, installed_keys, learns_key, hand_tag_key, hand_seals, took_keys, renewed_keys, hand_keys_after, hand_by_row, hand_nonce, begun_keys, hand_tagged, hand_message, hand_row, hand_cut, hand_hears_bytes, hand_keys_acted}
use Rattle.link.specs.World.{Fleet, gate_secrets, hand_secrets, SealedEntry, Genuine}
use Rattle.link.specs.Theorems.{entries_of, Quiet}
use Rattle.refinement.proofs.Base.{cond_true, set_same, put2, each_mapped, unless_wrong}
use Rattle.refinement.proofs.Idle.{quiet_received, hand_missing}
use Rattle.refinement.proofs.Refused.{verdict_ours, hand_row_is}
use Rattle.refinement.proofs.Written.{pair_key, same_key, GoodPair, GoodAs, Good, sealed_parts, parts_message, opened_is, take_opened, renew_opened}
use Rattle.refinement.proofs.Held.{HeldAs, held_good, key_of, held_is, nonce_is, nonce_length, AllGood, tagged_blank, accepted, begin_cut}

-- ---- what is held for one gate, with its key material

pub record GatePeerB (F : Fleet) (g s : ℕ) (x : GatePeer) (k : GateKeys) : Type 0 where
  pub offered : Any (HeldAs F g s k.offered) x.end.offered
  pub key : Any (HeldAs F g s k.installed) x.end.key
  pub group : 0 < x.group → k.group ≡ group_key (gate_secrets F g) x.group

pub record HandB (F : Fleet) (s : ℕ) (y : HandState) (ks : List GateKeys) : Type 0 where
  pub lens : length ks ≡ length y.peers
  pub peers : (g : ℕ) → GatePeerB F g s (gate_peer g y) (gate_keys g ks)

-- the key of a tag is the key of its message's name
module _ (F : Fleet) (s : ℕ) (y : HandState) (ks : List GateKeys) (hb : HandB F s y ks) (a b k : List ℕ) where
  pair_key_is : (p : Pair) → held_key p a b (gate_peer p.gate y).end (gate_keys p.gate ks).offered (gate_keys p.gate ks).installed ≡ Key k → k ≡ pair_key F p a b
  pair_key_is p e =
      let z : GateKeys = gate_keys p.gate ks in
      let f = hb.peers p.gate in
      held_is F p.gate s p a b k (gate_peer p.gate y).end z.offered z.installed f.offered f.key e

  group_key_is : (g n : ℕ) (t : Bool) → (T t → T (ltb 0 n && eqb n (gate_peer g y).group)) → cond t (Key (gate_keys g ks).group) Missing ≡ Key k →
      k ≡ group_key (gate_secrets F g) n
  group_key_is g n true f e =
      let l = ltb→lt 0 n (and_l (ltb 0 n) (eqb n (gate_peer g y).group) (f tt)) in
      let same = eqb→eq n (gate_peer g y).group (and_r (ltb 0 n) (eqb n (gate_peer g y).group) (f tt)) in
      let here : k ≡ (gate_keys g ks).group = cc in
      here ∙ (hb.peers g).group (omega arith) ∙ ap (group_key (gate_secrets F g)) (sym same)
  group_key_is g n false f e = let none : ◌≡◌ {A = ℕ} 0 1 = cc in absurd (omega arith)

  pub hand_key_is : (m : Message) → hand_tag_key y ks a b m ≡ Key k → k ≡ key_of F m a b
  hand_key_is (Begin g h n) e = let none : ◌≡◌ {A = ℕ} 0 1 = cc in absurd (omega arith)
  hand_key_is (Reply p) e = let none : ◌≡◌ {A = ℕ} 0 1 = cc in absurd (omega arith)
  hand_key_is (Take n c p) e = pair_key_is p e
  hand_key_is (Taken p) e = let none : ◌≡◌ {A = ℕ} 0 1 = cc in absurd (omega arith)
  hand_key_is (Renew r n c p) e = pair_key_is p e
  hand_key_is (Load d c v p) e = pair_key_is p e
  hand_key_is (All g n c v) e = group_key_is g n (ltb 0 n && eqb n (gate_peer g y).group) (λ t. t) e

-- ---- what it says to gate g is sealed as it should be

abbrev GoodAt : Fleet → (g : ℕ) → GateKeys → Message → Type 0
GoodAt F g k (Begin i h n) = ⊥
GoodAt F g k (Reply p) = (p.gate ≡ g) × GoodPair F p k.offered.nonces.anonce k.offered.nonces.snonce k.offered.key
GoodAt F g k (Take n c p) = ⊥
GoodAt F g k (Taken p) = (p.gate ≡ g) × GoodPair F p k.installed.nonces.anonce k.installed.nonces.snonce k.installed.key
GoodAt F g k (Renew r n c p) = ⊥
GoodAt F g k (Load d c z p) = (p.gate ≡ g) × (GoodPair F p k.installed.nonces.anonce k.installed.nonces.snonce k.installed.key × (c < 256 ^ 8) × (z < 256 ^ 8))
GoodAt F g k (All i n c z) = ⊥

seals_good : (F : Fleet) (g : ℕ) (k : GateKeys) (ks : List GateKeys) → gate_keys g ks ≡ k → (m : Message) → GoodAt F g k m → Good F (hand_seals ks m)
seals_good F g k ks e (Begin i h n) f = absurd f
seals_good F g k ks e (Reply p) f = subst (λ (z : GateKeys). GoodPair F p z.offered.nonces.anonce z.offered.nonces.snonce z.offered.key) (sym (ap (λ i. gate_keys i ks) f.0 ∙ e)) f.1
seals_good F g k ks e (Take n c p) f = absurd f
seals_good F g k ks e (Taken p) f = subst (λ (z : GateKeys). GoodPair F p z.installed.nonces.anonce z.installed.nonces.snonce z.installed.key) (sym (ap (λ i. gate_keys i ks) f.0 ∙ e)) f.1
seals_good F g k ks e (Renew r n c p) f = absurd f
seals_good F g k ks e (Load d c z p) f =
    (subst (λ (z : GateKeys). GoodPair F p z.installed.nonces.anonce z.installed.nonces.snonce z.installed.key) (sym (ap (λ i. gate_keys i ks) f.0 ∙ e)) f.1.0, f.1.1, f.1.2)
seals_good F g k ks e (All i n c z) f = absurd f

-- it keeps the key material, and what it says is sealed as it should be
abbrev PeerKeeps : Fleet → (g s : ℕ) → Out GatePeer → GateKeys → Type 0
PeerKeeps F g s o k = GatePeerB F g s o.held k × Each (GoodAt F g k) o.says

abbrev pub HandKeeps : Fleet → (s : ℕ) → Out HandState → List GateKeys → Type 0
HandKeeps F s o ks = HandB F s o.held ks × Each (Good F) (map (hand_seals ks) o.says)

pub hand_quiet : (F : Fleet) (s : ℕ) (y : HandState) (ks : List GateKeys) → HandB F s y ks → HandKeeps F s (quiet y) ks
hand_quiet F s y ks hb = (hb, tt)

lift : (F : Fleet) (s : ℕ) (y : HandState) (ks : List GateKeys) → HandB F s y ks → (d g : ℕ) (rule : GatePeer → Out GatePeer) (k : GateKeys) → T (ltb g (length y.peers)) →
    PeerKeeps F g s (rule (gate_peer g y)) k → HandKeeps F s (hand_at d g rule y) (set ks g k)
lift F s y ks hb d g rule k t f =
    let o : Out GatePeer = rule (gate_peer g y) in
    let l = ltb→lt g (length y.peers) t in
    let lens = hb.lens in
    cond_yes (λ o. HandKeeps F s o (set ks g k)) (ltb g (length y.peers)) _ (quiet y) t (
      record {
        lens = length-set ks g k ∙ hb.lens ∙ sym (length-set y.peers g o.held);
        peers = put2 (λ j x z. GatePeerB F j s x z) y.peers ks g o.held new_gate_peer k no_gate_keys hb.lens f.0 hb.peers;
      },
      each_mapped (Good F) (hand_seals (set ks g k)) o.says
          (each_map (GoodAt F g k) (λ m. Good F (hand_seals (set ks g k) m)) (seals_good F g k (set ks g k) (get_or-set_same ks g k no_gate_keys (omega arith))) o.says f.1),
    )

-- the same where its key material stays
lift_same : (F : Fleet) (s : ℕ) (y : HandState) (ks : List GateKeys) → HandB F s y ks → (d g : ℕ) (rule : GatePeer → Out GatePeer) → T (ltb g (length y.peers)) →
    PeerKeeps F g s (rule (gate_peer g y)) (gate_keys g ks) → HandKeeps F s (hand_at d g rule y) ks
lift_same F s y ks hb d g rule t f = subst (HandKeeps F s (hand_at d g rule y)) (set_same ks g no_gate_keys) (lift F s y ks hb d g rule (gate_keys g ks) t f)

-- ---- the rules, for one gate

learn_group : (F : Fleet) (g n m : ℕ) (q r : List ℕ) → q ≡ group_key (gate_secrets F g) n → (0 < m → r ≡ group_key (gate_secrets F g) m) → (t u : Bool) → (T u → m ≡ n) →
    0 < cond (t || u) n m → cond t q r ≡ group_key (gate_secrets F g) (cond (t || u) n m)
learn_group F g n m q r e f true u same l = e
learn_group F g n m q r e f false true same l = let i = same tt in f (omega arith) ∙ ap (group_key (gate_secrets F g)) i
learn_group F g n m q r e f false false same l = f l

module _ (F : Fleet) (g s : ℕ) (x : GatePeer) (k : GateKeys) (f : GatePeerB F g s x k) where
  -- what a take or a renew says of the group key
  learned : (n c : ℕ) (q : List ℕ) → q ≡ group_key (gate_secrets F g) n → 0 < cond (is_news n c x) n x.group →
      cond (ltb x.group n) q k.group ≡ group_key (gate_secrets F g) (cond (is_news n c x) n x.group)
  learned n c q e l = learn_group F g n x.group q k.group e f.group (ltb x.group n) (ltb 0 n && eqb x.group n && ltb x.floor c)
      (λ t. eqb→eq x.group n (and_r (ltb 0 n) _ (and_l (ltb 0 n && eqb x.group n) _ t))) l

  module _ (lg : g < 256) (ls : s < 65536) where
    take_keeps : (n c : ℕ) (q : List ℕ) (p : Pair) → q ≡ group_key (gate_secrets F g) n → PeerKeeps F g s (hand_take n c p x) (took_keys n q p x k)
    take_keeps n c q p e = go (is_this p x.end.offered) (is_this p x.end.key) (this→ p x.end.offered) (this→ p x.end.key)
      where
        go : (t u : Bool) → (T t → x.end.offered ≡ Some p) → (T u → x.end.key ≡ Some p) →
            PeerKeeps F g s (cond t (saying (learns n c (with_gate_end (installed p) x)) (Taken p)) (cond u (saying x (Taken p)) (quiet x)))
            (cond t (learns_key n q x (installed_keys k)) k)
        go true u fo fk =
            let h = any_this (HeldAs F g s k.offered) x.end.offered p (fo tt) f.offered in
            (record { offered = tt; key = h; group = learned n c q e }, ((h.0, held_good F g s k.offered p lg ls h), tt))
        go false true fo fk =
            let h = any_this (HeldAs F g s k.installed) x.end.key p (fk tt) f.key in
            (f, ((h.0, held_good F g s k.installed p lg ls h), tt))
        go false false fo fk = (f, tt)

    renew_keeps : (r n c : ℕ) (q : List ℕ) (p : Pair) → q ≡ group_key (gate_secrets F g) n → PeerKeeps F g s (hand_renew r n c p x) (renewed_keys r n q p x k)
    renew_keeps r n c q p e = go (is_this p x.end.key && ltb x.end.round r)
      where
        go : (t : Bool) → PeerKeeps F g s (cond t (quiet (learns n c (with_gate_end (with_round r x.end) x))) (quiet x)) (cond t (learns_key n q x k) k)
        go true = (record { offered = f.offered; key = f.key; group = learned n c q e }, tt)
        go false = (f, tt)

    load_keeps : (c b : ℕ) (p : Pair) → PeerKeeps F g s (hand_load c b p x) k
    load_keeps c b p = end_hears_lem (λ o. PeerKeeps F g s (within (λ (e : Endpoint). with_gate_end e x) o) k) Down c b p x.end (f, tt)
        (λ _ _. (record { offered = f.offered; key = f.key; group = f.group }, tt))

    all_keeps : (n c b : ℕ) → PeerKeeps F g s (hand_all g n c b x) k
    all_keeps n c b = cond_case (λ o. PeerKeeps F g s o k) (is_some x.end.key && ltb 0 n && eqb n x.group && accepts x.floor c) _ (quiet x)
        (λ _. (record { offered = f.offered; key = f.key; group = f.group }, tt)) (f, tt)

    send_keeps : (b : ℕ) → PeerKeeps F g s (hand_send b x) k
    send_keeps b = go x.end.key refl
      where
        go : (o : Option Pair) → x.end.key ≡ o → PeerKeeps F g s (within (λ (e : Endpoint). with_gate_end e x) (end_sends_by o Up b x.end)) k
        go None e = (f, tt)
        go (Some p) e = cond_case (λ o. PeerKeeps F g s (within (λ (e : Endpoint). with_gate_end e x) o) k) (is_body b && has_next x.end.send) _ _
            (λ t. let h = any_this (HeldAs F g s k.installed) x.end.key p e f.key in
            let lb = ltb→lt b (2 ^ 49) (and_l (is_body b) (has_next x.end.send) t) in
            let lc = ltb→lt x.end.send limit (and_r (is_body b) (has_next x.end.send) t) in
            (record { offered = f.offered; key = f.key; group = f.group }, ((h.0, (held_good F g s k.installed p lg ls h, omega arith, omega arith)), tt))) (f, tt)

    begin_keeps : (o : PairKeys) (p : Pair) → HeldAs F g s o p → PeerKeeps F g s (hand_begin p x) (with_offered_keys o k)
    begin_keeps o p h = (record { offered = h; key = f.key; group = f.group }, ((h.0, held_good F g s o p lg ls h), tt))

-- ---- the whole handheld

-- a row heard with a right tag
abbrev pub rightly : Message → Heard
rightly m = record { row = code m; genuine = true }

pub for_hand_blank : (g s : ℕ) (m : Message) → is_for_hand g s (blank m) ≡ is_for_hand g s m
for_hand_blank g s (Begin i h n) = refl
for_hand_blank g s (Reply p) = refl
for_hand_blank g s (Take n c p) = refl
for_hand_blank g s (Taken p) = refl
for_hand_blank g s (Renew r n c p) = refl
for_hand_blank g s (Load Up c b p) = refl
for_hand_blank g s (Load Down c b p) = refl
for_hand_blank g s (All i n c b) = refl

pub hand_row_heard : (g s : ℕ) (m : Message) (y : HandState) → hand_verdict g s (code m) true y ≡ None → hand_hears_row g s (code m) true y ≡ hand_hears s m y
unfolding hand_hears_row
hand_row_heard g s m y e = ap (λ o. unless o y (hand_hears s (message_of (code m)) y)) e ∙ ap (λ k. hand_hears s k y) (message_of-code m)

-- nothing is held
pub new_hand_lem : (F : Fleet) (s d n k : ℕ) → k ≡ n → HandB F s (record { draws = d; peers = replicate n new_gate_peer }) (replicate k no_gate_keys)
new_hand_lem F s d n k e = record {
  lens = length-replicate k no_gate_keys ∙ e ∙ sym (length-replicate n new_gate_peer);
  peers = λ g. subst (λ (x : GatePeer). GatePeerB F g s x (gate_keys g (replicate k no_gate_keys))) (sym (replicate_at n g new_gate_peer))
      (subst (λ (z : GateKeys). GatePeerB F g s new_gate_peer z) (sym (replicate_at k g no_gate_keys)) (record { offered = tt; key = tt; group = λ l. absurd (omega arith) }));
}

-- whom a message is for is who hears it
pub hears_hand : (g s : ℕ) (m : Message) → T (is_for_hand g s m) → hearer s m ≡ Hand s
hears_hand g s (Begin i h n) t = ap Hand (eqb→eq h s (and_r (ltb i g) (eqb h s) t))
hears_hand g s (Reply p) t = elim t [ ]
hears_hand g s (Take n c p) t = ap Hand (eqb→eq p.hand s (and_r (ltb p.gate g) (eqb p.hand s) t))
hears_hand g s (Taken p) t = elim t [ ]
hears_hand g s (Renew r n c p) t = ap Hand (eqb→eq p.hand s (and_r (ltb p.gate g) (eqb p.hand s) t))
hears_hand g s (Load Up c b p) t = elim t [ ]
hears_hand g s (Load Down c b p) t = ap Hand (eqb→eq p.hand s (and_r (ltb p.gate g) (eqb p.hand s) t))
hears_hand g s (All i n c b) t = refl

module _ (F : Fleet) (s : ℕ) (y : HandState) (ks : List GateKeys) (hb : HandB F s y ks) (few : length y.peers ≤ 256) (ls : s < 65536) where
  abbrev n : ℕ
  n = length y.peers

  near : (g : ℕ) → T (ltb g n) → g < 256
  near g t = let l = ltb→lt g n t in omega arith

  hand_hears_keeps : (m : Message) (a b k q : List ℕ) → is_tagged m ≡ true → T (is_for_hand n s m) → GoodAs F m a b k q → HandKeeps F s (hand_hears s m y) (hand_keys_after q m y ks)
  hand_hears_keeps (Begin g h z) a b k q e t f = let none : ◌≡◌ {A = ℕ} 0 1 = cc in absurd (omega arith)
  hand_hears_keeps (Reply p) a b k q e t f = elim t [ ]
  hand_hears_keeps (Take i c p) a b k q e t f =
      let u = and_l (ltb p.gate n) (eqb p.hand s) t in
      lift F s y ks hb y.draws p.gate (hand_take i c p) _ u (take_keeps F p.gate s (gate_peer p.gate y) (gate_keys p.gate ks) (hb.peers p.gate) (near p.gate u) ls i c q p f.3)
  hand_hears_keeps (Taken p) a b k q e t f = elim t [ ]
  hand_hears_keeps (Renew r i c p) a b k q e t f =
      let u = and_l (ltb p.gate n) (eqb p.hand s) t in
      lift F s y ks hb y.draws p.gate (hand_renew r i c p) _ u
      (renew_keeps F p.gate s (gate_peer p.gate y) (gate_keys p.gate ks) (hb.peers p.gate) (near p.gate u) ls r i c q p f.4)
  hand_hears_keeps (Load Up c z p) a b k q e t f = elim t [ ]
  hand_hears_keeps (Load Down c z p) a b k q e t f =
      let u = and_l (ltb p.gate n) (eqb p.hand s) t in
      lift_same F s y ks hb y.draws p.gate (hand_load c z p) u
      (load_keeps F p.gate s (gate_peer p.gate y) (gate_keys p.gate ks) (hb.peers p.gate) (near p.gate u) ls c z p)
  hand_hears_keeps (All g i c z) a b k q e t f =
      lift_same F s y ks hb y.draws g (hand_all g i c z) t (all_keeps F g s (gate_peer g y) (gate_keys g ks) (hb.peers g) (near g t) ls i c z)

  -- a begin: its nonce's bytes, and those of the nonce that is drawn
  hand_begins_lem : (g h : ℕ) (z : Nonce) (a : List ℕ) → (nonce_of a ≡ z) × (length a ≡ 32) → T (can_draw (hand_secrets F s) y.draws) → T (ltb g n) →
      HandKeeps F s (hand_hears s (Begin g h z) y) (set ks g (with_offered_keys (begun_keys (hand_secrets F s) s g a y) (gate_keys g ks)))
  hand_begins_lem g h z a named t u =
      let v : Secrets = hand_secrets F s in
      let d = ltb→lt y.draws limit (and_l (has_next y.draws) (has_entropy v y.draws) t) in
      let p : Pair = pair_of g s z (nonce_numbers 1 s y.draws) in
      cond_yes (λ o. HandKeeps F s o (set ks g (with_offered_keys (begun_keys v s g a y) (gate_keys g ks)))) (has_next y.draws) (hand_at (y.draws + 1) g (hand_begin p) y) (quiet y)
      (and_l (has_next y.draws) (has_entropy v y.draws) t)
      (lift F s y ks hb (y.draws + 1) g (hand_begin p) (with_offered_keys (begun_keys v s g a y) (gate_keys g ks)) u
      (begin_keeps F g s (gate_peer g y) (gate_keys g ks) (hb.peers g) (near g u) ls (begun_keys v s g a y) p (
        refl,
        refl,
        (named.0, nonce_is 1 s y.draws (entropy_at v y.draws) (omega arith) ls (omega arith), named.1, nonce_length v 1 s y.draws (and_r (has_next y.draws) _ t)),
        same_key F g s a (hand_nonce v s y),
      )))

  -- only a body can make of a message none, and then no key is taken from it
  keys_kept : (e : Refusal) (q : List ℕ) (m : Message) → hand_verdict n s (code (blank m)) true y ≡ None → hand_verdict n s (code m) true y ≡ Some e → hand_keys_after q m y ks ≡ ks
  keys_kept e q (Begin g h z) fine bad = refl
  keys_kept e q (Reply p) fine bad = refl
  keys_kept e q (Take i c p) fine bad = absurd (none_some e (sym fine ∙ bad))
  keys_kept e q (Taken p) fine bad = refl
  keys_kept e q (Renew r i c p) fine bad = absurd (none_some e (sym fine ∙ bad))
  keys_kept e q (Load d c z p) fine bad = refl
  keys_kept e q (All g i c z) fine bad = refl

  hand_row_keeps : (m : Message) (a b k q : List ℕ) → is_tagged m ≡ true → T (is_for_hand n s m) → hand_verdict n s (code (blank m)) true y ≡ None → GoodAs F m a b k q →
      HandKeeps F s (hand_hears_row n s (code m) true y) (hand_keys_after q m y ks)
  unfolding hand_hears_row
  hand_row_keeps m a b k q e t fine f = go (hand_verdict n s (code m) true y) refl
    where
      go : (o : Option Refusal) → hand_verdict n s (code m) true y ≡ o → HandKeeps F s (unless o y (hand_hears s (message_of (code m)) y)) (hand_keys_after q m y ks)
      go None h = subst (λ z. HandKeeps F s (hand_hears s z y) (hand_keys_after q m y ks)) (sym (message_of-code m)) (hand_hears_keeps m a b k q e t f)
      go (Some r) h = subst (HandKeeps F s (quiet y)) (sym (keys_kept r q m fine h)) (hand_quiet F s y ks hb)

  -- nothing came of it, or it was heard as a message that may be heard
  abbrev pub HandHeard : List Entry → Reception HandState (List GateKeys) → Type 0
  HandHeard es r =
      Quiet y ks r ⊎
      ((m : Message) × (ls : List GateKeys) × T (may_be_heard m es) × (hearer s m ≡ Hand s) × (r ≡ hand_by_row s (rightly m) y ls) × HandKeeps F s (hand_hears_row n s (code m) true y) ls)

  -- what is accepted is heard as it was said
  keys_as : (m : Message) (a b k q t : List ℕ) → let c = parts_of m a b (sealed_body F.hash k m) (sealed_key F.hash k q m) t in
      hand_keys_after (group_with F.hash k c) (message_of (row_of c)) y ks ≡ hand_keys_after q m y ks
  keys_as (Begin g h z) a b k q t = refl
  keys_as (Reply p) a b k q t = refl
  keys_as (Take i c p) a b k q t = ap (λ q. hand_keys_after q (Take i c p) y ks) (take_opened F i c p a b k q t)
  keys_as (Taken p) a b k q t = refl
  keys_as (Renew r i c p) a b k q t = ap (λ q. hand_keys_after q (Renew r i c p) y ks) (renew_opened F r i c p a b k q t)
  keys_as (Load d c z p) a b k q t = refl
  keys_as (All g i c z) a b k q t = refl

  pub hand_accepts : (x : List ℕ) (z : Sealed) → Good F z → T (tag_right F.hash z.key x (sealed_parts F z)) →
      hand_tagged (hand_secrets F s) s x (sealed_parts F z) (Key z.key) y ks ≡ hand_by_row s (rightly z.message) y (hand_keys_after z.group z.message y ks)
  hand_accepts x z f t =
      (λ i. hand_by_row s (cond_true (tag_right F.hash z.key x (sealed_parts F z)) (record { row = code (opened_with F.hash z.key (sealed_parts F z)); genuine = true }) (unopened false (sealed_parts F z)) t i) y
      (cond_true (tag_right F.hash z.key x (sealed_parts F z)) (hand_keys_after (group_with F.hash z.key (sealed_parts F z)) (message_of (row_of (sealed_parts F z))) y ks) ks t i))
      ∙ (λ i. hand_by_row s (rightly (opened_is F z f i)) y (keys_as z.message z.a z.b z.key z.group (tag_of F.hash z.key (tagged_bytes F.hash z)) i))

  wrong_tag : (c : Cut) → is_tagged (message_of (row_of c)) ≡ true → Quiet y ks (hand_by_row s (unopened false c) y ks)
  unfolding hand_hears_row hand_verdict
  wrong_tag c e = quiet_received y ks (hand_verdict n s (row_of c) false y) _ (hand_seals ks)
      (unless_wrong (is_message (row_of c)) (is_for_hand (min n n) s (message_of (row_of c))) (is_tagged (message_of (row_of c))) y _ e)

  module _ (x : List ℕ) (es : List SealedEntry) (ok : AllGood F es)
      (genuine : Genuine F x (λ (c : Cut). hand_tag_key y ks c.nonces.anonce c.nonces.snonce (message_of (row_of c))) es) where
    abbrev v : Secrets
    v = hand_secrets F s

    ours : (c : Cut) → hand_verdict n s (row_of c) true y ≡ None → T (is_for_hand n s (message_of (row_of c)))
    unfolding hand_verdict
    ours c e =
        let same : min n n ≡ n = omega arith in
        from_true _ (ap (λ k. is_for_hand k s (message_of (row_of c))) (sym same) ∙ verdict_ours (is_message (row_of c)) (is_for_hand (min n n) s (message_of (row_of c))) true e)

    heard_key : (c : Cut) (k : List ℕ) → cut x ≡ Ok c → hand_verdict n s (row_of c) true y ≡ None → is_tagged (message_of (row_of c)) ≡ true →
        hand_tag_key y ks c.nonces.anonce c.nonces.snonce (message_of (row_of c)) ≡ Key k → (b : Bool) → tag_right F.hash k x c ≡ b → HandHeard (entries_of es) (hand_tagged v s x c (Key k) y ks)
    heard_key c k ec fine tagged ek false wrong =
        subst (λ b. HandHeard (entries_of es) (hand_by_row s (cond b (record { row = code (opened_with F.hash k c); genuine = true }) (unopened false c)) y
        (cond b (hand_keys_after (group_with F.hash k c) (message_of (row_of c)) y ks) ks))) (sym wrong) (inl (wrong_tag c tagged))
    heard_key c k ec fine tagged ek true right =
        let a = accepted F x c k es ok ec tagged (hand_key_is F s y ks hb c.nonces.anonce c.nonces.snonce k (message_of (row_of c)) ek) (from_true _ (genuine c k ec ek right)) in
        let z : Sealed = a.0 in
        let m : Message = z.message in
        let same : message_of (row_of c) ≡ blank m = ap (λ d. message_of (row_of d)) a.1 ∙ parts_message F m z.a z.b _ _ _ in
        let t : T (tag_right F.hash z.key x (sealed_parts F z)) = from_true _ ((λ i. tag_right F.hash (sym a.2 i) x (sym a.1 i)) ∙ right) in
        let tag : is_tagged m ≡ true = sym (tagged_blank m z.a z.b _ _ _) ∙ sym (ap (λ d. is_tagged (message_of (row_of d))) a.1) ∙ tagged in
        let mine : T (is_for_hand n s m) = subst T (ap (is_for_hand n s) same ∙ for_hand_blank n s m) (ours c fine) in
        inr (
          m,
          hand_keys_after z.group m y ks,
          cond_case T (is_tagged m) (is_sent m (entries_of es)) true (λ _. a.4) tt,
          hears_hand n s m mine,
          (λ i. hand_tagged v s x (a.1 i) (Key (a.2 i)) y ks) ∙ hand_accepts x z a.3 t,
          hand_row_keeps m z.a z.b z.key z.group tag mine (ap (λ l. hand_verdict n s l true y) (sym (ap code same) ∙ hand_row_is n s (row_of c) y fine) ∙ fine) a.3,
        )

    heard_tagged : (c : Cut) → cut x ≡ Ok c → hand_verdict n s (row_of c) true y ≡ None → is_tagged (message_of (row_of c)) ≡ true → (t : TagKey) →
        hand_tag_key y ks c.nonces.anonce c.nonces.snonce (message_of (row_of c)) ≡ t → HandHeard (entries_of es) (hand_tagged v s x c t y ks)
    heard_tagged c ec fine tagged Missing et = inl (hand_missing v s x c y ks tagged et)
    heard_tagged c ec fine tagged Mismatch et = inl (wrong_tag c tagged)
    heard_tagged c ec fine tagged (Key k) et = heard_key c k ec fine tagged et (tag_right F.hash k x c) refl

    by_message : (c : Cut) → cut x ≡ Ok c → hand_verdict n s (row_of c) true y ≡ None → (m : Message) → message_of (row_of c) ≡ m → is_tagged m ≡ true →
        HandHeard (entries_of es) (hand_tagged v s x c (hand_tag_key y ks c.nonces.anonce c.nonces.snonce m) y ks)
    by_message c ec fine m em tagged = heard_tagged c ec fine (ap is_tagged em ∙ tagged) (hand_tag_key y ks c.nonces.anonce c.nonces.snonce m) (ap (hand_tag_key y ks c.nonces.anonce c.nonces.snonce) em)

    heard_begin : (c : Cut) (g h : ℕ) (z : Nonce) → cut x ≡ Ok c → hand_verdict n s (row_of c) true y ≡ None → message_of (row_of c) ≡ Begin g h z →
        HandHeard (entries_of es) (hand_message v s x c (Begin g h z) y ks)
    heard_begin c g h z ec fine em =
        let keys : List GateKeys = set ks g (with_offered_keys (begun_keys v s g c.nonces.anonce y) (gate_keys g ks)) in
        let row : row_of c ≡ code (Begin g h z) = sym (hand_row_is n s (row_of c) y fine) ∙ ap code em in
        let mine : T (is_for_hand n s (Begin g h z)) = subst (λ m. T (is_for_hand n s m)) em (ours c fine) in
        cond_case (HandHeard (entries_of es)) (can_draw v y.draws) (hand_by_row s (unopened true c) y keys) (nothing y ks)
        (λ t. inr (
          Begin g h z,
          keys,
          tt,
          hears_hand n s (Begin g h z) mine,
          (λ i. hand_by_row s (record { row = row i; genuine = true }) y keys),
          subst (λ o. HandKeeps F s o keys) (sym (hand_row_heard n s (Begin g h z) y (ap (λ l. hand_verdict n s l true y) (sym row) ∙ fine)))
              (hand_begins_lem g h z c.nonces.anonce (begin_cut x c ec g h z em) t (and_l (ltb g n) (eqb h s) mine)),
        ))
        (inl (refl, refl, refl, refl))

    heard_message : (c : Cut) → cut x ≡ Ok c → hand_verdict n s (row_of c) true y ≡ None → (m : Message) → message_of (row_of c) ≡ m →
        HandHeard (entries_of es) (hand_message v s x c m y ks)
    heard_message c ec fine (Begin g h z) em = heard_begin c g h z ec fine em
    heard_message c ec fine (Reply p) em = by_message c ec fine (Reply p) em refl
    heard_message c ec fine (Take i d p) em = by_message c ec fine (Take i d p) em refl
    heard_message c ec fine (Taken p) em = by_message c ec fine (Taken p) em refl
    heard_message c ec fine (Renew r i d p) em = by_message c ec fine (Renew r i d p) em refl
    heard_message c ec fine (Load d i b p) em = by_message c ec fine (Load d i b p) em refl
    heard_message c ec fine (All g i d b) em = by_message c ec fine (All g i d b) em refl

    heard_row : (c : Cut) → cut x ≡ Ok c → (o : Option Refusal) → hand_verdict n s (row_of c) true y ≡ o → HandHeard (entries_of es) (hand_row v s x c o y ks)
    heard_row c ec (Some r) e = inl (refl, refl, refl, refl)
    heard_row c ec None e = heard_message c ec e (message_of (row_of c)) refl

    heard_cut : (d : Result Cut Refusal) → cut x ≡ d → HandHeard (entries_of es) (hand_cut v s x d y ks)
    heard_cut (Err r) e = inl (refl, refl, refl, refl)
    heard_cut (Ok c) e = heard_row c e (hand_verdict n s (row_of c) true y) refl

    pub hand_hears_bytes_lem : HandHeard (entries_of es) (hand_hears_bytes v s x y ks)
    unfolding hand_hears_bytes
    hand_hears_bytes_lem = heard_cut (cut x) refl

  -- ---- acting

  pub hand_acts_keep : (act : HandAct) → HandKeeps F s (hand_does n act y) (hand_keys_acted act ks)
  unfolding hand_does
  hand_acts_keep (SendUp g b) = cond_case (λ o. HandKeeps F s o ks) (ltb g n) _ (quiet y)
      (λ t. lift_same F s y ks hb y.draws g (hand_send b) t (send_keeps F g s (gate_peer g y) (gate_keys g ks) (hb.peers g) (near g t) ls b)) (hand_quiet F s y ks hb)
  hand_acts_keep ForgetHand = (new_hand_lem F s y.draws n (length ks) hb.lens, tt)
