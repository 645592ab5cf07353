-- What a gate does with bytes is what it does with a row, and it keeps the key material of its pairs.
use Rattle.std.proofs.Common.{◌≡◌, ℕ, ◌+◌, ◌^◌, ◌<◌, ◌≤◌, min, Bool, true, false, cond, not, ◌&&◌, T, eqb, ltb, ◌⊎◌, List, [], map, length, get_or, replicate, Some, None, Ok, Err, Option, Result, sym, refl, ap, ◌∙◌, subst, inl, inr, arith, eqb→eq, ltb→lt, length-set, get_or-set_same, ltb-false}
use lib.ListN.{length-replicate}
use Rattle.frame.specs.declared.message.Node.TheVariants.{Gate}
use Rattle.frame.specs.declared.message.Nonce.{Nonce}
use Rattle.frame.specs.declared.message.Pair.{Pair}
use Rattle.frame.specs.declared.message.Direction.TheVariants.{Up, Down}
use Rattle.frame.specs.declared.message.Message.{Message}
use Rattle.frame.specs.declared.message.Message.TheVariants.{Begin, Reply, Take, Taken, Renew, Load, All}
use Rattle.frame.specs.declared.message.Refusal.{Refusal}
use Rattle.frame.specs.Row.{code, is_message, message_of}
use Rattle.frame.proofs.RoundTrip.{message_of-code}
use Rattle.octets.specs.declared.parts.Cut.{Cut}
use Rattle.octets.specs.Layout.{nonce_of}
use Rattle.octets.specs.Cutting.{cut}
use Rattle.octets.specs.Laws.{blank, parts_of, row_of}
use Rattle.protocol.specs.declared.acts.GateAct.{GateAct}
use Rattle.protocol.specs.declared.acts.GateAct.TheVariants.{Invite, SendDown, Broadcast, Rotate, Rekey, ForgetGate}
use Rattle.protocol.specs.declared.held.Endpoint.{Endpoint}
use Rattle.protocol.specs.declared.held.HandPeer.{HandPeer}
use Rattle.protocol.specs.Held.{is_this, installed, with_offered, with_hand_end, with_handshake, new_hand_peer, GateState, nonce_of as nonce_numbers}
use Rattle.protocol.specs.Rules.{Out, quiet, saying, within, limit, has_next, is_body, end_sends_by, end_rekeys_by, answers, gate_invite, gate_reply, gate_taken, gate_load, gate_send, gate_rekey, hand_peer, gate_at, gate_hears, gate_acts, gate_forgets}
use Rattle.protocol.specs.Calls.{is_for_gate, is_tagged, gate_verdict, unless, gate_hears_row, gate_does}
use Rattle.protocol.specs.World.{Entry, is_sent, may_be_heard, hearer}
use Rattle.protocol.specs.Promise.{Each}
use Rattle.promise.proofs.Base.{and_l, and_r, cond_case, cond_yes, from_true, none_some, this→, each_map, Any, any_this, replicate_at}
use Rattle.promise.proofs.Ends.{end_hears_lem}
use Rattle.promise.proofs.Gates.{InLimits}
use Rattle.sealing.specs.Secrets.{Secrets, pairwise_key, group_key, has_entropy, entropy_at}
use Rattle.sealing.specs.Seal.{Sealed, same_bytes, sealed_body, sealed_key, tag_of, tagged_bytes}
use Rattle.sealing.specs.declared.keys.PairKeys.{PairKeys}
use Rattle.link.specs.declared.keys.HandKeys.{HandKeys}
use Rattle.link.specs.declared.keys.TagKey.{TagKey}
use Rattle.link.specs.declared.keys.TagKey.TheVariants.{Missing, Mismatch, Key}
use Rattle.link.specs.Keys.{can_draw, Reception, nothing, unopened, tag_right, opened_with}
use Rattle.link.specs.Gates.{GateRing, no_hand_keys, hand_keys, with_hand_keys, invited_keys, replied_keys, confirmed_keys, or_reply_key, gate_held_key, gate_tag_key, gate_seals, replied_with, confirmed_with, gate_keys_after, gate_by_row, gate_tagged, gate_row, gate_cut, gate_hears_bytes, gate_nonce, gate_by_act, regrouped, gate_acts_bytes}
use Rattle.link.specs.World.{Fleet, gate_secrets, SealedEntry, Genuine}
use Rattle.link.specs.Theorems.{entries_of, Quiet}
use Rattle.refinement.proofs.Base.{cond_true, set_same, set_past, put2, each_mapped, unless_wrong}
use Rattle.refinement.proofs.Idle.{quiet_received, gate_missing}
use Rattle.refinement.proofs.Refused.{verdict_ours, gate_row_is}
use Rattle.refinement.proofs.Written.{pair_key, GoodAs, Good, sealed_parts, parts_message, opened_is}
use Rattle.refinement.proofs.Held.{HeldAs, held_good, key_of, held_is, nonce_is, nonce_length, AllGood, accepted}
use Rattle.refinement.proofs.Hands.{rightly}

-- ---- what is held for one handheld, with its key material

pub record HandPeerB (F : Fleet) (g h : ℕ) (x : HandPeer) (k : HandKeys) : Type 0 where
  pub offered : Any (HeldAs F g h k.offered) x.end.offered
  pub key : Any (HeldAs F g h k.installed) x.end.key

pub record GateB (F : Fleet) (g : ℕ) (y : GateState) (r : GateRing) : Type 0 where
  pub group : r.group ≡ group_key (gate_secrets F g) y.group
  pub lens : length r.peers ≡ length y.peers
  pub peers : (h : ℕ) → HandPeerB F g h (hand_peer h y) (hand_keys h r)

-- the key of a tag is the key of its message's name
module _ (F : Fleet) (g : ℕ) (y : GateState) (r : GateRing) (gb : GateB F g y r) (a b k : List ℕ) where
  pair_key_is : (p : Pair) → gate_held_key p a b (hand_peer p.hand y) (hand_keys p.hand r) ≡ Key k → k ≡ pair_key F p a b
  pair_key_is p e =
      let z : HandKeys = hand_keys p.hand r in
      let f = gb.peers p.hand in
      held_is F g p.hand p a b k (hand_peer p.hand y).end z.offered z.installed f.offered f.key e

  reply_key_is : (p : Pair) → p.gate ≡ g → (t : TagKey) → (t ≡ Key k → k ≡ pair_key F p a b) →
      or_reply_key (gate_secrets F g) p a b (hand_peer p.hand y) (hand_keys p.hand r) t ≡ Key k → k ≡ pair_key F p a b
  reply_key_is p eg Missing f e = go (answers p (hand_peer p.hand y).handshake) (same_bytes a (hand_keys p.hand r).anonce) e
    where
      go : (t u : Bool) → cond t (cond u (Key (pairwise_key (gate_secrets F g) p.hand a b)) Mismatch) Missing ≡ Key k → k ≡ pair_key F p a b
      go true true h = let here : k ≡ pairwise_key (gate_secrets F g) p.hand a b = cc in here ∙ ap (λ i. pairwise_key (gate_secrets F i) p.hand a b) (sym eg)
      go true false h = let none : ◌≡◌ {A = ℕ} 0 1 = cc in absurd (omega arith)
      go false u h = let none : ◌≡◌ {A = ℕ} 0 1 = cc in absurd (omega arith)
  reply_key_is p eg Mismatch f e = let none : ◌≡◌ {A = ℕ} 0 1 = cc in absurd (omega arith)
  reply_key_is p eg (Key h) f e = f e

  pub gate_key_is : (n : ℕ) (m : Message) → T (is_for_gate g n m) → gate_tag_key (gate_secrets F g) y r a b m ≡ Key k → k ≡ key_of F m a b
  gate_key_is n (Begin i h z) t e = elim t [ ]
  gate_key_is n (Reply p) t e =
      reply_key_is p (eqb→eq p.gate g (and_l (eqb p.gate g) (ltb p.hand n) t)) (gate_held_key p a b (hand_peer p.hand y) (hand_keys p.hand r)) (pair_key_is p) e
  gate_key_is n (Take i c p) t e = elim t [ ]
  gate_key_is n (Taken p) t e = pair_key_is p e
  gate_key_is n (Renew d i c p) t e = elim t [ ]
  gate_key_is n (Load Up c z p) t e = pair_key_is p e
  gate_key_is n (Load Down c z p) t e = elim t [ ]
  gate_key_is n (All i h c z) t e = elim t [ ]

-- ---- what it says to handheld h is sealed as it should be; q is its group key

abbrev GoodAt : Fleet → (h : ℕ) → (q : List ℕ) → HandKeys → Message → Type 0
GoodAt F h q k (Begin i j z) = (j ≡ h) × GoodAs F (Begin i j z) k.anonce [] [] []
GoodAt F h q k (Reply p) = ⊥
GoodAt F h q k (Take n c p) = (p.hand ≡ h) × GoodAs F (Take n c p) k.offered.nonces.anonce k.offered.nonces.snonce k.offered.key q
GoodAt F h q k (Taken p) = ⊥
GoodAt F h q k (Renew d n c p) = (p.hand ≡ h) × GoodAs F (Renew d n c p) k.installed.nonces.anonce k.installed.nonces.snonce k.installed.key q
GoodAt F h q k (Load d c z p) = (p.hand ≡ h) × GoodAs F (Load d c z p) k.installed.nonces.anonce k.installed.nonces.snonce k.installed.key q
GoodAt F h q k (All i n c z) = ⊥

seals_good : (F : Fleet) (h : ℕ) (k : HandKeys) (r : GateRing) → hand_keys h r ≡ k → (m : Message) → GoodAt F h r.group k m → Good F (gate_seals r m)
seals_good F h k r e (Begin i j z) f = subst (λ (u : HandKeys). GoodAs F (Begin i j z) u.anonce [] [] []) (sym (ap (λ j. hand_keys j r) f.0 ∙ e)) f.1
seals_good F h k r e (Reply p) f = absurd f
seals_good F h k r e (Take n c p) f = subst (λ (u : HandKeys). GoodAs F (Take n c p) u.offered.nonces.anonce u.offered.nonces.snonce u.offered.key r.group) (sym (ap (λ j. hand_keys j r) f.0 ∙ e)) f.1
seals_good F h k r e (Taken p) f = absurd f
seals_good F h k r e (Renew d n c p) f =
    subst (λ (u : HandKeys). GoodAs F (Renew d n c p) u.installed.nonces.anonce u.installed.nonces.snonce u.installed.key r.group) (sym (ap (λ j. hand_keys j r) f.0 ∙ e)) f.1
seals_good F h k r e (Load d c z p) f =
    subst (λ (u : HandKeys). GoodAs F (Load d c z p) u.installed.nonces.anonce u.installed.nonces.snonce u.installed.key r.group) (sym (ap (λ j. hand_keys j r) f.0 ∙ e)) f.1
seals_good F h k r e (All i n c z) f = absurd f

abbrev PeerKeeps : Fleet → (g h : ℕ) → (q : List ℕ) → Out HandPeer → HandKeys → Type 0
PeerKeeps F g h q o k = HandPeerB F g h o.held k × Each (GoodAt F h q k) o.says

abbrev pub GateKeeps : Fleet → (g : ℕ) → Out GateState → GateRing → Type 0
GateKeeps F g o r = GateB F g o.held r × Each (Good F) (map (gate_seals r) o.says)

lift : (F : Fleet) (g : ℕ) (y : GateState) (r : GateRing) → GateB F g y r → (d h : ℕ) (rule : HandPeer → Out HandPeer) (k : HandKeys) → T (ltb h (length y.peers)) →
    PeerKeeps F g h r.group (rule (hand_peer h y)) k → GateKeeps F g (gate_at d h rule y) (with_hand_keys h k r)
lift F g y r gb d h rule k t f =
    let o : Out HandPeer = rule (hand_peer h y) in
    let l = ltb→lt h (length y.peers) t in
    let lens = gb.lens in
    cond_yes (λ o. GateKeeps F g o (with_hand_keys h k r)) (ltb h (length y.peers)) _ (quiet y) t (
      record {
        group = gb.group;
        lens = length-set r.peers h k ∙ gb.lens ∙ sym (length-set y.peers h o.held);
        peers = put2 (λ j x z. HandPeerB F g j x z) y.peers r.peers h o.held new_hand_peer k no_hand_keys gb.lens f.0 gb.peers;
      },
      each_mapped (Good F) (gate_seals (with_hand_keys h k r)) o.says
          (each_map (GoodAt F h r.group k) (λ m. Good F (gate_seals (with_hand_keys h k r) m))
          (seals_good F h k (with_hand_keys h k r) (get_or-set_same r.peers h k no_hand_keys (omega arith))) o.says f.1),
    )

lift_same : (F : Fleet) (g : ℕ) (y : GateState) (r : GateRing) → GateB F g y r → (d h : ℕ) (rule : HandPeer → Out HandPeer) → T (ltb h (length y.peers)) →
    PeerKeeps F g h r.group (rule (hand_peer h y)) (hand_keys h r) → GateKeeps F g (gate_at d h rule y) r
lift_same F g y r gb d h rule t f =
    subst (λ ks. GateKeeps F g (gate_at d h rule y) (record { group = r.group; peers = ks })) (set_same r.peers h no_hand_keys) (lift F g y r gb d h rule (hand_keys h r) t f)

-- ---- the rules, for one handheld

module _ (F : Fleet) (g h : ℕ) (q : List ℕ) (x : HandPeer) (k : HandKeys) (f : HandPeerB F g h x k) (lg : g < 256) (lh : h < 65536) where
  reply_keeps : (n c : ℕ) (o : PairKeys) (p : Pair) → n ≤ limit → c ≤ limit → q ≡ group_key (gate_secrets F g) n → HeldAs F g h o p →
      PeerKeeps F g h q (gate_reply n c p x) (replied_with o p x k)
  reply_keeps n c o p ln lc e held = go (answers p x.handshake && not (is_this p x.end.key))
    where
      go : (t : Bool) → PeerKeeps F g h q (cond t (saying (with_hand_end (with_offered (Some p) x.end) x) (Take n c p)) (quiet x)) (cond t (replied_keys o k) k)
      go true = (
        record { offered = held; key = f.key },
        ((held.1, (held_good F g h o p lg lh held, omega arith, omega arith, e ∙ ap (λ i. group_key (gate_secrets F i) n) (sym held.0))), tt),
      )
      go false = (f, tt)

  taken_keeps : (p : Pair) → PeerKeeps F g h q (gate_taken p x) (confirmed_with p x k)
  taken_keeps p = go (is_this p x.end.offered) (this→ p x.end.offered)
    where
      go : (t : Bool) → (T t → x.end.offered ≡ Some p) →
          PeerKeeps F g h q (cond t (quiet (with_handshake None (with_hand_end (installed p) x))) (quiet x)) (cond t (confirmed_keys k) k)
      go true same = (record { offered = tt; key = any_this (HeldAs F g h k.offered) x.end.offered p (same tt) f.offered }, tt)
      go false same = (f, tt)

  load_keeps : (c b : ℕ) (p : Pair) → PeerKeeps F g h q (gate_load c b p x) k
  load_keeps c b p = end_hears_lem (λ o. PeerKeeps F g h q (within (λ (e : Endpoint). with_hand_end e x) o) k) Up c b p x.end (f, tt)
      (λ _ _. (record { offered = f.offered; key = f.key }, tt))

  invite_keeps : (a : List ℕ) (z : Nonce) → (nonce_of a ≡ z) × (length a ≡ 32) → PeerKeeps F g h q (gate_invite g h z x) (invited_keys a k)
  invite_keeps a z named = (record { offered = tt; key = f.key }, ((refl, (lg, lh, named.0, named.1)), tt))

  send_keeps : (b : ℕ) → PeerKeeps F g h q (gate_send b x) k
  send_keeps b = go x.end.key refl
    where
      go : (o : Option Pair) → x.end.key ≡ o → PeerKeeps F g h q (within (λ (e : Endpoint). with_hand_end e x) (end_sends_by o Down b x.end)) k
      go None e = (f, tt)
      go (Some p) e = cond_case (λ o. PeerKeeps F g h q (within (λ (e : Endpoint). with_hand_end e x) o) k) (is_body b && has_next x.end.send) _ _
          (λ t. let held = any_this (HeldAs F g h k.installed) x.end.key p e f.key in
          let lb = ltb→lt b (2 ^ 49) (and_l (is_body b) (has_next x.end.send) t) in
          let lc = ltb→lt x.end.send limit (and_r (is_body b) (has_next x.end.send) t) in
          (record { offered = f.offered; key = f.key }, ((held.1, (held_good F g h k.installed p lg lh held, omega arith, omega arith)), tt))) (f, tt)

  rekey_keeps : (n c : ℕ) → n ≤ limit → c ≤ limit → q ≡ group_key (gate_secrets F g) n → PeerKeeps F g h q (gate_rekey n c x) k
  rekey_keeps n c ln lc same = go x.end.key refl
    where
      go : (o : Option Pair) → x.end.key ≡ o → PeerKeeps F g h q (within (λ (e : Endpoint). with_hand_end e x) (end_rekeys_by o n c x.end)) k
      go None e = (f, tt)
      go (Some p) e = cond_case (λ o. PeerKeeps F g h q (within (λ (e : Endpoint). with_hand_end e x) o) k) (has_next x.end.round) _ _
          (λ t. let held = any_this (HeldAs F g h k.installed) x.end.key p e f.key in
          let lr = ltb→lt x.end.round limit t in (
            record { offered = f.offered; key = f.key },
            (
              (held.1, (held_good F g h k.installed p lg lh held, omega arith, omega arith, omega arith, same ∙ ap (λ i. group_key (gate_secrets F i) n) (sym held.0))),
              tt,
            ),
          )) (f, tt)

-- ---- the whole gate

-- nothing is held but the group key
pub new_gate_lem : (F : Fleet) (g : ℕ) (q : List ℕ) (y : GateState) (n k : ℕ) → k ≡ n → y.peers ≡ replicate n new_hand_peer → q ≡ group_key (gate_secrets F g) y.group →
    GateB F g y (record { group = q; peers = replicate k no_hand_keys })
new_gate_lem F g q y n k e none same = record {
  group = same;
  lens = length-replicate k no_hand_keys ∙ e ∙ sym (length-replicate n new_hand_peer) ∙ ap length (sym none);
  peers = λ h. subst (λ l. HandPeerB F g h (get_or l h new_hand_peer) (get_or (replicate k no_hand_keys) h no_hand_keys)) (sym none)
      (subst (λ (x : HandPeer). HandPeerB F g h x (get_or (replicate k no_hand_keys) h no_hand_keys)) (sym (replicate_at n h new_hand_peer))
      (subst (λ (z : HandKeys). HandPeerB F g h new_hand_peer z) (sym (replicate_at k h no_hand_keys)) (record { offered = tt; key = tt })));
}

pub for_gate_blank : (g s : ℕ) (m : Message) → is_for_gate g s (blank m) ≡ is_for_gate g s m
for_gate_blank g s (Begin i h n) = refl
for_gate_blank g s (Reply p) = refl
for_gate_blank g s (Take n c p) = refl
for_gate_blank g s (Taken p) = refl
for_gate_blank g s (Renew r n c p) = refl
for_gate_blank g s (Load Up c b p) = refl
for_gate_blank g s (Load Down c b p) = refl
for_gate_blank g s (All i n c b) = refl

pub hears_gate : (k g s : ℕ) (m : Message) → T (is_for_gate g s m) → hearer k m ≡ Gate g
hears_gate k g s (Begin i h n) t = elim t [ ]
hears_gate k g s (Reply p) t = ap Gate (eqb→eq p.gate g (and_l (eqb p.gate g) (ltb p.hand s) t))
hears_gate k g s (Take n c p) t = elim t [ ]
hears_gate k g s (Taken p) t = ap Gate (eqb→eq p.gate g (and_l (eqb p.gate g) (ltb p.hand s) t))
hears_gate k g s (Renew r n c p) t = elim t [ ]
hears_gate k g s (Load Up c b p) t = ap Gate (eqb→eq p.gate g (and_l (eqb p.gate g) (ltb p.hand s) t))
hears_gate k g s (Load Down c b p) t = elim t [ ]
hears_gate k g s (All i n c b) t = elim t [ ]

pub gate_row_heard : (g s : ℕ) (m : Message) (y : GateState) → gate_verdict g s (code m) true y ≡ None → gate_hears_row g s (code m) true y ≡ gate_hears m y
unfolding gate_hears_row
gate_row_heard g s m y e = ap (λ o. unless o y (gate_hears (message_of (code m)) y)) e ∙ ap (λ k. gate_hears k y) (message_of-code m)

module _ (F : Fleet) (g : ℕ) (y : GateState) (r : GateRing) (gb : GateB F g y r) (few : length y.peers ≤ 65536) (lg : g < 256) (limits : InLimits y) where
  abbrev n : ℕ
  n = length y.peers

  abbrev v : Secrets
  v = gate_secrets F g

  near : (h : ℕ) → T (ltb h n) → h < 65536
  near h t = let l = ltb→lt h n t in omega arith

  gate_hears_keeps : (m : Message) (a b k q : List ℕ) → T (is_for_gate g n m) → GoodAs F m a b k q →
      GateKeeps F g (gate_hears m y) (gate_keys_after (record { nonces = record { anonce = a; snonce = b }; key = k }) m y r)
  gate_hears_keeps (Begin i h z) a b k q t f = elim t [ ]
  gate_hears_keeps (Reply p) a b k q t f =
      let u = and_r (eqb p.gate g) (ltb p.hand n) t in
      let same = eqb→eq p.gate g (and_l (eqb p.gate g) (ltb p.hand n) t) in
      lift F g y r gb y.draws p.hand (gate_reply y.group y.counter p) _ u
      (reply_keeps F g p.hand r.group (hand_peer p.hand y) (hand_keys p.hand r) (gb.peers p.hand) lg (near p.hand u) y.group y.counter
      (record { nonces = record { anonce = a; snonce = b }; key = k }) p limits.1 limits.0 gb.group (same, refl, f.2, f.3))
  gate_hears_keeps (Take i c p) a b k q t f = elim t [ ]
  gate_hears_keeps (Taken p) a b k q t f =
      let u = and_r (eqb p.gate g) (ltb p.hand n) t in
      lift F g y r gb y.draws p.hand (gate_taken p) _ u
      (taken_keeps F g p.hand r.group (hand_peer p.hand y) (hand_keys p.hand r) (gb.peers p.hand) lg (near p.hand u) p)
  gate_hears_keeps (Renew d i c p) a b k q t f = elim t [ ]
  gate_hears_keeps (Load Up c z p) a b k q t f =
      let u = and_r (eqb p.gate g) (ltb p.hand n) t in
      lift_same F g y r gb y.draws p.hand (gate_load c z p) u
      (load_keeps F g p.hand r.group (hand_peer p.hand y) (hand_keys p.hand r) (gb.peers p.hand) lg (near p.hand u) c z p)
  gate_hears_keeps (Load Down c z p) a b k q t f = elim t [ ]
  gate_hears_keeps (All i h c z) a b k q t f = elim t [ ]

  keys_kept : (e : Refusal) (o : PairKeys) (m : Message) → gate_verdict g n (code (blank m)) true y ≡ None → gate_verdict g n (code m) true y ≡ Some e → gate_keys_after o m y r ≡ r
  keys_kept e o (Begin i h z) fine bad = refl
  keys_kept e o (Reply p) fine bad = absurd (none_some e (sym fine ∙ bad))
  keys_kept e o (Take i c p) fine bad = refl
  keys_kept e o (Taken p) fine bad = absurd (none_some e (sym fine ∙ bad))
  keys_kept e o (Renew d i c p) fine bad = refl
  keys_kept e o (Load d c z p) fine bad = refl
  keys_kept e o (All i h c z) fine bad = refl

  gate_row_keeps : (m : Message) (a b k q : List ℕ) → T (is_for_gate g n m) → gate_verdict g n (code (blank m)) true y ≡ None → GoodAs F m a b k q →
      GateKeeps F g (gate_hears_row g n (code m) true y) (gate_keys_after (record { nonces = record { anonce = a; snonce = b }; key = k }) m y r)
  unfolding gate_hears_row
  gate_row_keeps m a b k q t fine f = go (gate_verdict g n (code m) true y) refl
    where
      go : (o : Option Refusal) → gate_verdict g n (code m) true y ≡ o → GateKeeps F g (unless o y (gate_hears (message_of (code m)) y)) (gate_keys_after (record { nonces = record { anonce = a; snonce = b }; key = k }) m y r)
      go None h = subst (λ z. GateKeeps F g (gate_hears z y) (gate_keys_after (record { nonces = record { anonce = a; snonce = b }; key = k }) m y r)) (sym (message_of-code m)) (gate_hears_keeps m a b k q t f)
      go (Some e) h = subst (GateKeeps F g (quiet y)) (sym (keys_kept e (record { nonces = record { anonce = a; snonce = b }; key = k }) m fine h)) (gb, tt)

  abbrev pub GateHeard : List Entry → Reception GateState GateRing → Type 0
  GateHeard es z =
      Quiet y r z ⊎
      ((m : Message) × (ring : GateRing) × T (may_be_heard m es) × (hearer 0 m ≡ Gate g) × (z ≡ gate_by_row g (rightly m) y ring) × GateKeeps F g (gate_hears_row g n (code m) true y) ring)

  keys_as : (m : Message) (a b k q t : List ℕ) → let c = parts_of m a b (sealed_body F.hash k m) (sealed_key F.hash k q m) t in
      gate_keys_after (record { nonces = c.nonces; key = k }) (message_of (row_of c)) y r ≡ gate_keys_after (record { nonces = record { anonce = a; snonce = b }; key = k }) m y r
  keys_as (Begin i h z) a b k q t = refl
  keys_as (Reply p) a b k q t = refl
  keys_as (Take i c p) a b k q t = refl
  keys_as (Taken p) a b k q t = refl
  keys_as (Renew d i c p) a b k q t = refl
  keys_as (Load d c z p) a b k q t = refl
  keys_as (All i h c z) a b k q t = refl

  pub gate_accepts : (x : List ℕ) (z : Sealed) → Good F z → T (tag_right F.hash z.key x (sealed_parts F z)) →
      gate_tagged v g x (sealed_parts F z) (Key z.key) y r
      ≡ gate_by_row g (rightly z.message) y (gate_keys_after (record { nonces = record { anonce = z.a; snonce = z.b }; key = z.key }) z.message y r)
  gate_accepts x z f t =
      (λ i. gate_by_row g (cond_true (tag_right F.hash z.key x (sealed_parts F z)) (record { row = code (opened_with F.hash z.key (sealed_parts F z)); genuine = true }) (unopened false (sealed_parts F z)) t i) y
      (cond_true (tag_right F.hash z.key x (sealed_parts F z)) (gate_keys_after (record { nonces = (sealed_parts F z).nonces; key = z.key }) (message_of (row_of (sealed_parts F z))) y r) r t i))
      ∙ (λ i. gate_by_row g (rightly (opened_is F z f i)) y (keys_as z.message z.a z.b z.key z.group (tag_of F.hash z.key (tagged_bytes F.hash z)) i))

  wrong_tag : (c : Cut) → is_tagged (message_of (row_of c)) ≡ true → Quiet y r (gate_by_row g (unopened false c) y r)
  unfolding gate_hears_row gate_verdict
  wrong_tag c e = quiet_received y r (gate_verdict g n (row_of c) false y) _ (gate_seals r)
      (unless_wrong (is_message (row_of c)) (is_for_gate g (min n n) (message_of (row_of c))) (is_tagged (message_of (row_of c))) y _ e)

  module _ (x : List ℕ) (es : List SealedEntry) (ok : AllGood F es)
      (genuine : Genuine F x (λ (c : Cut). gate_tag_key v y r c.nonces.anonce c.nonces.snonce (message_of (row_of c))) es) where
    ours : (c : Cut) → gate_verdict g n (row_of c) true y ≡ None → T (is_for_gate g n (message_of (row_of c)))
    unfolding gate_verdict
    ours c e =
        let same : min n n ≡ n = omega arith in
        from_true _ (ap (λ k. is_for_gate g k (message_of (row_of c))) (sym same) ∙ verdict_ours (is_message (row_of c)) (is_for_gate g (min n n) (message_of (row_of c))) true e)

    heard_key : (c : Cut) (k : List ℕ) → cut x ≡ Ok c → gate_verdict g n (row_of c) true y ≡ None → is_tagged (message_of (row_of c)) ≡ true →
        gate_tag_key v y r c.nonces.anonce c.nonces.snonce (message_of (row_of c)) ≡ Key k → (b : Bool) → tag_right F.hash k x c ≡ b → GateHeard (entries_of es) (gate_tagged v g x c (Key k) y r)
    heard_key c k ec fine tagged ek false wrong =
        subst (λ b. GateHeard (entries_of es) (gate_by_row g (cond b (record { row = code (opened_with F.hash k c); genuine = true }) (unopened false c)) y
        (cond b (gate_keys_after (record { nonces = c.nonces; key = k }) (message_of (row_of c)) y r) r))) (sym wrong) (inl (wrong_tag c tagged))
    heard_key c k ec fine tagged ek true right =
        let a = accepted F x c k es ok ec tagged (gate_key_is F g y r gb c.nonces.anonce c.nonces.snonce k n (message_of (row_of c)) (ours c fine) ek) (from_true _ (genuine c k ec ek right)) in
        let z : Sealed = a.0 in
        let m : Message = z.message in
        let same : message_of (row_of c) ≡ blank m = ap (λ d. message_of (row_of d)) a.1 ∙ parts_message F m z.a z.b _ _ _ in
        let t : T (tag_right F.hash z.key x (sealed_parts F z)) = from_true _ ((λ i. tag_right F.hash (sym a.2 i) x (sym a.1 i)) ∙ right) in
        let mine : T (is_for_gate g n m) = subst T (ap (is_for_gate g n) same ∙ for_gate_blank g n m) (ours c fine) in
        inr (
          m,
          gate_keys_after (record { nonces = record { anonce = z.a; snonce = z.b }; key = z.key }) m y r,
          cond_case T (is_tagged m) (is_sent m (entries_of es)) true (λ _. a.4) tt,
          hears_gate 0 g n m mine,
          (λ i. gate_tagged v g x (a.1 i) (Key (a.2 i)) y r) ∙ gate_accepts x z a.3 t,
          gate_row_keeps m z.a z.b z.key z.group mine (ap (λ l. gate_verdict g n l true y) (sym (ap code same) ∙ gate_row_is g n (row_of c) y fine) ∙ fine) a.3,
        )

    heard_tagged : (c : Cut) → cut x ≡ Ok c → gate_verdict g n (row_of c) true y ≡ None → is_tagged (message_of (row_of c)) ≡ true → (t : TagKey) →
        gate_tag_key v y r c.nonces.anonce c.nonces.snonce (message_of (row_of c)) ≡ t → GateHeard (entries_of es) (gate_tagged v g x c t y r)
    heard_tagged c ec fine tagged Missing et = inl (gate_missing v g x c y r tagged et)
    heard_tagged c ec fine tagged Mismatch et = inl (wrong_tag c tagged)
    heard_tagged c ec fine tagged (Key k) et = heard_key c k ec fine tagged et (tag_right F.hash k x c) refl

    -- what is for a gate has a tag
    tagged_ours : (m : Message) → T (is_for_gate g n m) → is_tagged m ≡ true
    tagged_ours (Begin i h z) t = elim t [ ]
    tagged_ours (Reply p) t = refl
    tagged_ours (Take i c p) t = refl
    tagged_ours (Taken p) t = refl
    tagged_ours (Renew d i c p) t = refl
    tagged_ours (Load d c z p) t = refl
    tagged_ours (All i h c z) t = refl

    heard_row : (c : Cut) → cut x ≡ Ok c → (o : Option Refusal) → gate_verdict g n (row_of c) true y ≡ o → GateHeard (entries_of es) (gate_row v g x c o y r)
    heard_row c ec (Some e) f = inl (refl, refl, refl, refl)
    heard_row c ec None f = heard_tagged c ec f (tagged_ours (message_of (row_of c)) (ours c f)) (gate_tag_key v y r c.nonces.anonce c.nonces.snonce (message_of (row_of c))) refl

    heard_cut : (d : Result Cut Refusal) → cut x ≡ d → GateHeard (entries_of es) (gate_cut v g x d y r)
    heard_cut (Err e) f = inl (refl, refl, refl, refl)
    heard_cut (Ok c) f = heard_row c f (gate_verdict g n (row_of c) true y) refl

    pub gate_hears_bytes_lem : GateHeard (entries_of es) (gate_hears_bytes v g x y r)
    unfolding gate_hears_bytes
    gate_hears_bytes_lem = heard_cut (cut x) refl

  -- ---- acting

  -- nothing came of it, or it did what the rules say
  abbrev pub GateActed : GateAct → Reception GateState GateRing → Type 0
  GateActed act z = Quiet y r z ⊎ ((ring : GateRing) × (z ≡ gate_by_act g act y ring) × GateKeeps F g (gate_does g n act y) ring)

  acts_at : (h : ℕ) (rule : HandPeer → Out HandPeer) → (h < 65536 → PeerKeeps F g h r.group (rule (hand_peer h y)) (hand_keys h r)) →
      GateKeeps F g (cond (ltb h n) (gate_at y.draws h rule y) (quiet y)) r
  acts_at h rule f = cond_case (λ o. GateKeeps F g o r) (ltb h n) (gate_at y.draws h rule y) (quiet y) (λ t. lift_same F g y r gb y.draws h rule t (f (near h t))) (gb, tt)

  invites : (h : ℕ) → T (can_draw v y.draws) → (b : Bool) → ltb h n ≡ b →
      GateKeeps F g (cond b (gate_acts g (Invite h) y) (quiet y)) (with_hand_keys h (invited_keys (gate_nonce v g y) (hand_keys h r)) r)
  invites h t true e =
      let d = ltb→lt y.draws limit (and_l (has_next y.draws) (has_entropy v y.draws) t) in
      let u = from_true _ e in
      cond_yes (λ o. GateKeeps F g o (with_hand_keys h (invited_keys (gate_nonce v g y) (hand_keys h r)) r)) (has_next y.draws) _ (quiet y)
      (and_l (has_next y.draws) (has_entropy v y.draws) t)
      (lift F g y r gb (y.draws + 1) h (gate_invite g h (nonce_numbers 0 g y.draws)) (invited_keys (gate_nonce v g y) (hand_keys h r)) u
      (invite_keeps F g h r.group (hand_peer h y) (hand_keys h r) (gb.peers h) lg (near h u) (gate_nonce v g y) (nonce_numbers 0 g y.draws) (
        nonce_is 0 g y.draws (entropy_at v y.draws) (omega arith) (omega arith) (omega arith),
        nonce_length v 0 g y.draws (and_r (has_next y.draws) _ t),
      )))
  invites h t false e =
      let past = set_past r.peers h (invited_keys (gate_nonce v g y) (hand_keys h r)) (ltb-false h (length r.peers) (ap (ltb h) gb.lens ∙ e)) in
      subst (λ ks. GateKeeps F g (quiet y) (record { group = r.group; peers = ks })) (sym past) (gb, tt)

  broadcasts : (b : ℕ) → GateKeeps F g (gate_acts g (Broadcast b) y) r
  broadcasts b = cond_case (λ o. GateKeeps F g o r) (is_body b && has_next y.counter) _ (quiet y)
      (λ t. let lb = ltb→lt b (2 ^ 49) (and_l (is_body b) (has_next y.counter) t) in
      let ln = limits.1 in
      let lc = limits.0 in
      (record { group = gb.group; lens = gb.lens; peers = gb.peers }, ((lg, omega arith, omega arith, omega arith, gb.group), tt))) (gb, tt)

  rotates : GateKeeps F g (gate_does g n Rotate y) (regrouped v g Rotate y r.peers)
  unfolding gate_does
  rotates = cond_case (λ o. GateKeeps F g o (record { group = group_key v o.held.group; peers = r.peers })) (has_next y.group) _ (quiet y)
      (λ _. (record { group = refl; lens = gb.lens; peers = gb.peers }, tt)) (record { group = refl; lens = gb.lens; peers = gb.peers }, tt)

  forgets : GateKeeps F g (gate_does g n ForgetGate y) (regrouped v g ForgetGate y (replicate (length r.peers) no_hand_keys))
  unfolding gate_does
  forgets = (new_gate_lem F g _ (gate_forgets y).held n (length r.peers) gb.lens refl refl, tt)

  pub gate_acts_bytes_lem : (act : GateAct) → GateActed act (gate_acts_bytes v g act y r)
  unfolding gate_acts_bytes gate_does
  gate_acts_bytes_lem (Invite h) = cond_case (GateActed (Invite h)) (can_draw v y.draws) _ (nothing y r)
      (λ t. inr (with_hand_keys h (invited_keys (gate_nonce v g y) (hand_keys h r)) r, refl, invites h t (ltb h n) refl)) (inl (refl, refl, refl, refl))
  gate_acts_bytes_lem (SendDown h b) =
      inr (r, refl, acts_at h (gate_send b) (λ lh. send_keeps F g h r.group (hand_peer h y) (hand_keys h r) (gb.peers h) lg lh b))
  gate_acts_bytes_lem (Broadcast b) = inr (r, refl, broadcasts b)
  gate_acts_bytes_lem Rotate = inr (regrouped v g Rotate y r.peers, refl, rotates)
  gate_acts_bytes_lem (Rekey h) = inr (
    r,
    refl,
    acts_at h (gate_rekey y.group y.counter)
        (λ lh. rekey_keeps F g h r.group (hand_peer h y) (hand_keys h r) (gb.peers h) lg lh y.group y.counter limits.1 limits.0 gb.group),
  )
  gate_acts_bytes_lem ForgetGate = inr (regrouped v g ForgetGate y (replicate (length r.peers) no_hand_keys), refl, forgets)
