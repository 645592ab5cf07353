-- Without the key of its tag nothing comes of a message.
use Rattle.std.proofs.Common.{◌≡◌, ℕ, Bool, true, false, cond, not, ◌&&◌, eqb, ltb, List, length, is_some, Some, None, Option, sym, refl, ap, ◌∙◌, subst, arith}
use Rattle.frame.specs.declared.message.Pair.{Pair}
use Rattle.frame.specs.declared.message.Direction.{Direction}
use Rattle.frame.specs.declared.message.Direction.TheVariants.{Up, Down}
use Rattle.frame.specs.declared.message.Message.{Message}
use Rattle.frame.specs.declared.message.Message.TheVariants.{Begin, Reply, Take, Taken, Renew, Load, All}
use Rattle.frame.specs.declared.message.Refusal.{Refusal}
use Rattle.frame.specs.Row.{message_of}
use Rattle.octets.specs.declared.parts.Cut.{Cut}
use Rattle.octets.specs.Laws.{row_of}
use Rattle.protocol.specs.declared.held.Endpoint.{Endpoint}
use Rattle.protocol.specs.declared.held.GatePeer.{GatePeer}
use Rattle.protocol.specs.declared.held.HandPeer.{HandPeer}
use Rattle.protocol.specs.Held.{is_this, with_gate_end, HandState, with_hand_end, GateState}
use Rattle.protocol.specs.Rules.{Out, quiet, within, accepts, end_hears, answers, hand_take, hand_renew, hand_load, hand_all, gate_peer, hand_hears, gate_reply, gate_taken, gate_load, hand_peer, gate_hears}
use Rattle.protocol.specs.Calls.{is_tagged, hand_verdict, gate_verdict, hand_hears_row, gate_hears_row}
use Rattle.sealing.specs.Secrets.{Secrets, pairwise_key}
use Rattle.sealing.specs.Seal.{Sealed, same_bytes}
use Rattle.sealing.specs.declared.keys.PairKeys.{PairKeys}
use Rattle.link.specs.declared.keys.GateKeys.{GateKeys}
use Rattle.link.specs.declared.keys.HandKeys.{HandKeys}
use Rattle.link.specs.declared.keys.TagKey.{TagKey}
use Rattle.link.specs.declared.keys.TagKey.TheVariants.{Missing, Mismatch, Key}
use Rattle.link.specs.Keys.{received, held_key}
use Rattle.link.specs.Hands.{gate_keys, hand_tag_key, hand_seals, hand_tagged, hand_message, hand_row, hand_cut, hand_hears_bytes}
use Rattle.link.specs.Gates.{GateRing, hand_keys, or_reply_key, gate_held_key, gate_tag_key, gate_seals, gate_tagged, gate_row, gate_cut, gate_hears_bytes}
use Rattle.link.specs.Theorems.{Quiet, NothingWithoutKey}
use Rattle.refinement.proofs.Base.{cond_false, and_false, hand_stays, gate_stays, unless_quiet}

-- ---- a key that is not held is of no pair that is

not_held : (t u v w : Bool) (k l : List ℕ) → cond t (cond u (Key k) Mismatch) (cond v (cond w (Key l) Mismatch) Missing) ≡ Missing → (t ≡ false) × (v ≡ false)
not_held true true v w k l e = let none : ◌≡◌ {A = ℕ} 0 1 = cc in absurd (omega arith)
not_held true false v w k l e = let none : ◌≡◌ {A = ℕ} 0 1 = cc in absurd (omega arith)
not_held false u true true k l e = let none : ◌≡◌ {A = ℕ} 0 1 = cc in absurd (omega arith)
not_held false u true false k l e = let none : ◌≡◌ {A = ℕ} 0 1 = cc in absurd (omega arith)
not_held false u false w k l e = (refl, refl)

held_none : (p : Pair) (a b : List ℕ) (e : Endpoint) (o k : PairKeys) → held_key p a b e o k ≡ Missing → (is_this p e.offered ≡ false) × (is_this p e.key ≡ false)
held_none p a b e o k h =
    not_held (is_this p e.offered) (same_bytes a o.nonces.anonce && same_bytes b o.nonces.snonce) (is_this p e.key) (same_bytes a k.nonces.anonce && same_bytes b k.nonces.snonce) o.key k.key h

-- a load for a pair that is not in use
end_idle : (d : Direction) (c b : ℕ) (p : Pair) (e : Endpoint) → is_this p e.key ≡ false → end_hears d c b p e ≡ quiet e
end_idle d c b p e h = cond_false (is_this p e.key && accepts e.floor c) _ _ (and_false (is_this p e.key) _ h)

pub quiet_received : {A K : Type 0} (y : A) (ks : K) (v : Option Refusal) (o : Out A) (seal : Message → Sealed) → o ≡ quiet y → Quiet y ks (received v o ks seal)
quiet_received y ks v o seal e = subst (λ o. Quiet y ks (received v o ks seal)) (sym e) (refl, refl, refl, refl)

-- ---- a handheld

all_none : (t u : Bool) (k : List ℕ) (s : Bool) → cond (t && u) (Key k) Missing ≡ Missing → ((s && t) && u) ≡ false
all_none true true k s e = let none : ◌≡◌ {A = ℕ} 0 1 = cc in absurd (omega arith)
all_none true false k true e = refl
all_none true false k false e = refl
all_none false u k true e = refl
all_none false u k false e = refl

hand_idle : (s : ℕ) (y : HandState) (ks : List GateKeys) (a b : List ℕ) (m : Message) → is_tagged m ≡ true → hand_tag_key y ks a b m ≡ Missing → hand_hears s m y ≡ quiet y
hand_idle s y ks a b (Begin g h n) t e = let none : ◌≡◌ {A = ℕ} 0 1 = cc in absurd (omega arith)
hand_idle s y ks a b (Reply p) t e = refl
hand_idle s y ks a b (Take n c p) t e =
    let x : GatePeer = gate_peer p.gate y in
    let k : GateKeys = gate_keys p.gate ks in
    let h = held_none p a b x.end k.offered k.installed e in
    hand_stays y p.gate (hand_take n c p) (cond_false (is_this p x.end.offered) _ _ h.0 ∙ cond_false (is_this p x.end.key) _ _ h.1)
hand_idle s y ks a b (Taken p) t e = refl
hand_idle s y ks a b (Renew r n c p) t e =
    let x : GatePeer = gate_peer p.gate y in
    let k : GateKeys = gate_keys p.gate ks in
    let h = held_none p a b x.end k.offered k.installed e in
    hand_stays y p.gate (hand_renew r n c p) (cond_false (is_this p x.end.key && ltb x.end.round r) _ _ (and_false (is_this p x.end.key) _ h.1))
hand_idle s y ks a b (Load Up c v p) t e = refl
hand_idle s y ks a b (Load Down c v p) t e =
    let x : GatePeer = gate_peer p.gate y in
    let k : GateKeys = gate_keys p.gate ks in
    let h = held_none p a b x.end k.offered k.installed e in
    hand_stays y p.gate (hand_load c v p) (ap (within (λ (e : Endpoint). with_gate_end e x)) (end_idle Down c v p x.end h.1))
hand_idle s y ks a b (All g n c v) t e =
    let x : GatePeer = gate_peer g y in
    hand_stays y g (hand_all g n c v) (cond_false (is_some x.end.key && ltb 0 n && eqb n x.group && accepts x.floor c) _ _
    (and_false (is_some x.end.key && ltb 0 n && eqb n x.group) _ (all_none (ltb 0 n) (eqb n x.group) (gate_keys g ks).group (is_some x.end.key) e)))

pub hand_by_tag : (v : Secrets) (s : ℕ) (x : List ℕ) (c : Cut) (m : Message) (y : HandState) (ks : List GateKeys) → is_tagged m ≡ true →
    hand_message v s x c m y ks ≡ hand_tagged v s x c (hand_tag_key y ks c.nonces.anonce c.nonces.snonce m) y ks
hand_by_tag v s x c (Begin g h n) y ks t = let none : ◌≡◌ {A = ℕ} 0 1 = cc in absurd (omega arith)
hand_by_tag v s x c (Reply p) y ks t = refl
hand_by_tag v s x c (Take n d p) y ks t = refl
hand_by_tag v s x c (Taken p) y ks t = refl
hand_by_tag v s x c (Renew r n d p) y ks t = refl
hand_by_tag v s x c (Load d n b p) y ks t = refl
hand_by_tag v s x c (All g n d b) y ks t = refl

-- hearing the row as if its tag were right
pub hand_missing : (v : Secrets) (s : ℕ) (x : List ℕ) (c : Cut) (y : HandState) (ks : List GateKeys) → is_tagged (message_of (row_of c)) ≡ true →
    hand_tag_key y ks c.nonces.anonce c.nonces.snonce (message_of (row_of c)) ≡ Missing → Quiet y ks (hand_tagged v s x c Missing y ks)
unfolding hand_hears_row
hand_missing v s x c y ks t e =
    let o : Option Refusal = hand_verdict (length y.peers) s (row_of c) true y in
    quiet_received y ks o _ (hand_seals ks) (unless_quiet o y _ (hand_idle s y ks c.nonces.anonce c.nonces.snonce (message_of (row_of c)) t e))

hand_nothing : (v : Secrets) (s : ℕ) (x : List ℕ) (c : Cut) (y : HandState) (ks : List GateKeys) (o : Option Refusal) → is_tagged (message_of (row_of c)) ≡ true →
    hand_tag_key y ks c.nonces.anonce c.nonces.snonce (message_of (row_of c)) ≡ Missing → Quiet y ks (hand_row v s x c o y ks)
hand_nothing v s x c y ks (Some r) t e = (refl, refl, refl, refl)
hand_nothing v s x c y ks None t e =
    let m : Message = message_of (row_of c) in
    subst (Quiet y ks) (sym (hand_by_tag v s x c m y ks t ∙ ap (λ k. hand_tagged v s x c k y ks) e)) (hand_missing v s x c y ks t e)

-- ---- a gate

reply_none : (v : Secrets) (p : Pair) (a b : List ℕ) (x : HandPeer) (k : HandKeys) (t : TagKey) → or_reply_key v p a b x k t ≡ Missing → answers p x.handshake ≡ false
reply_none v p a b x k Missing e = go (answers p x.handshake) (same_bytes a k.anonce) e
  where
    go : (t u : Bool) → cond t (cond u (Key (pairwise_key v p.hand a b)) Mismatch) Missing ≡ Missing → t ≡ false
    go true true h = let none : ◌≡◌ {A = ℕ} 0 1 = cc in absurd (omega arith)
    go true false h = let none : ◌≡◌ {A = ℕ} 0 1 = cc in absurd (omega arith)
    go false u h = refl
reply_none v p a b x k Mismatch e = let none : ◌≡◌ {A = ℕ} 0 1 = cc in absurd (omega arith)
reply_none v p a b x k (Key h) e = let none : ◌≡◌ {A = ℕ} 0 1 = cc in absurd (omega arith)

gate_idle : (v : Secrets) (y : GateState) (r : GateRing) (a b : List ℕ) (m : Message) → is_tagged m ≡ true → gate_tag_key v y r a b m ≡ Missing → gate_hears m y ≡ quiet y
gate_idle v y r a b (Begin g h n) t e = let none : ◌≡◌ {A = ℕ} 0 1 = cc in absurd (omega arith)
gate_idle v y r a b (Reply p) t e =
    let x : HandPeer = hand_peer p.hand y in
    let k : HandKeys = hand_keys p.hand r in
    gate_stays y p.hand (gate_reply y.group y.counter p) (cond_false (answers p x.handshake && not (is_this p x.end.key)) _ _
    (and_false (answers p x.handshake) _ (reply_none v p a b x k (gate_held_key p a b x k) e)))
gate_idle v y r a b (Take n c p) t e = refl
gate_idle v y r a b (Taken p) t e =
    let x : HandPeer = hand_peer p.hand y in
    let k : HandKeys = hand_keys p.hand r in
    let h = held_none p a b x.end k.offered k.installed e in
    gate_stays y p.hand (gate_taken p) (cond_false (is_this p x.end.offered) _ _ h.0)
gate_idle v y r a b (Renew d n c p) t e = refl
gate_idle v y r a b (Load Up c z p) t e =
    let x : HandPeer = hand_peer p.hand y in
    let k : HandKeys = hand_keys p.hand r in
    let h = held_none p a b x.end k.offered k.installed e in
    gate_stays y p.hand (gate_load c z p) (ap (within (λ (e : Endpoint). with_hand_end e x)) (end_idle Up c z p x.end h.1))
gate_idle v y r a b (Load Down c z p) t e = refl
gate_idle v y r a b (All g n c z) t e = refl

pub gate_missing : (v : Secrets) (g : ℕ) (x : List ℕ) (c : Cut) (y : GateState) (r : GateRing) → is_tagged (message_of (row_of c)) ≡ true →
    gate_tag_key v y r c.nonces.anonce c.nonces.snonce (message_of (row_of c)) ≡ Missing → Quiet y r (gate_tagged v g x c Missing y r)
unfolding gate_hears_row
gate_missing v g x c y r t e =
    let o : Option Refusal = gate_verdict g (length y.peers) (row_of c) true y in
    quiet_received y r o _ (gate_seals r) (unless_quiet o y _ (gate_idle v y r c.nonces.anonce c.nonces.snonce (message_of (row_of c)) t e))

gate_nothing : (v : Secrets) (g : ℕ) (x : List ℕ) (c : Cut) (y : GateState) (r : GateRing) (o : Option Refusal) → is_tagged (message_of (row_of c)) ≡ true →
    gate_tag_key v y r c.nonces.anonce c.nonces.snonce (message_of (row_of c)) ≡ Missing → Quiet y r (gate_row v g x c o y r)
gate_nothing v g x c y r (Some d) t e = (refl, refl, refl, refl)
gate_nothing v g x c y r None t e = subst (λ k. Quiet y r (gate_tagged v g x c k y r)) (sym e) (gate_missing v g x c y r t e)

pub nothing_without_key : NothingWithoutKey
unfolding hand_hears_bytes gate_hears_bytes
nothing_without_key v n x c e t = (
  λ y ks h. subst (λ d. Quiet y ks (hand_cut v n x d y ks)) (sym e) (hand_nothing v n x c y ks (hand_verdict (length y.peers) n (row_of c) true y) t h),
  λ y r h. subst (λ d. Quiet y r (gate_cut v n x d y r)) (sym e) (gate_nothing v n x c y r (gate_verdict n (length y.peers) (row_of c) true y) t h),
)
