-- What holds of every world that can be reached, and how a world moves on.
use Rattle.std.proofs.Common.{◌≡◌, ℕ, ◌+◌, ◌<◌, ◌≤◌, T, List, [], ◌∷◌, ◌++◌, length, is_some, Some, None, Option, sym, ap, ◌∙◌, subst, arith}
use Rattle.frame.specs.declared.message.Node.{Node}
use Rattle.frame.specs.declared.message.Node.TheVariants.{Gate, Hand}
use Rattle.frame.specs.declared.message.Nonce.{Nonce}
use Rattle.frame.specs.declared.message.Pair.{Pair}
use Rattle.frame.specs.declared.message.Direction.{Direction}
use Rattle.frame.specs.declared.message.Direction.TheVariants.{Up, Down}
use Rattle.frame.specs.declared.message.Message.{Message}
use Rattle.frame.specs.declared.message.Message.TheVariants.{Begin, Reply, Take, Taken, Renew, Load, All}
use Rattle.protocol.specs.declared.held.GatePeer.{GatePeer}
use Rattle.protocol.specs.declared.held.HandPeer.{HandPeer}
use Rattle.protocol.specs.Held.{nonce_of}
use Rattle.protocol.specs.Rules.{gate_peer, hand_peer}
use Rattle.protocol.specs.World.{Entry, World, gate, hand, logged}
use Rattle.protocol.specs.Promise.{Each, Distinct, draws_of, draws_in, Key, Pairwise, Group, Stream, Frames, Renewals, Seal, seals_of, seals_in, OwnWords, Below, Earlier, Rising}
use Rattle.promise.proofs.Base.{In, Sub, each_app}
use Rattle.promise.proofs.Ends.{Before, UpTo, upto_upto, before_upto, SpentAtGate, SpentAtHand, GateMoves, HandMoves, GateOK, HandOK, Gave, gave_more}
use Rattle.promise.proofs.Gates.{InLimits}
use Rattle.promise.proofs.Hands.{Gone, GoneBy, NotNewer}

-- ---- the invariant

-- what the pair's gate holds for its handheld, and what that holds for it
abbrev pub hand_peer_of : Pair → World → HandPeer
hand_peer_of p w = hand_peer p.hand (gate p.gate w)

abbrev pub gate_peer_of : Pair → World → GatePeer
gate_peer_of p w = gate_peer p.gate (hand p.hand w)

abbrev pub GateSpent : World → Pair → Type 0
GateSpent w p = SpentAtGate (gate p.gate w).draws (hand_peer_of p w) p

abbrev pub HandSpent : World → Pair → Type 0
HandSpent w p = SpentAtHand (hand p.hand w).draws (gate_peer_of p w) p

-- what holds of each message that was sent
abbrev pub Fine : World → Message → Type 0
-- its nonce is one that the gate drew
Fine w (Begin g h a) = (a ≡ nonce_of 0 g a.index) × (a.index < (gate g w).draws)
-- its nonce is one that the handheld drew
Fine w (Reply p) = (p.snonce ≡ nonce_of 1 p.hand p.snonce.index) × (p.snonce.index < (hand p.hand w).draws)
-- it answers a reply to a begin, and the gate's group key and counter have not fallen since
Fine w (Take n c p) = In (Reply p) w.transcript × In (Begin p.gate p.hand p.anonce) w.transcript ×
    UpTo n c (gate p.gate w).group (gate p.gate w).counter × (1 ≤ n)
-- the gate gave the pair, which the handheld does not take again, and what it has in use is not older
Fine w (Taken p) = Gave p w.transcript × HandSpent w p × NotNewer (gate_peer_of p w) p
-- the pair does not come into use again at the gate; while it is in use, the counter is used up
Fine w (Renew r n c p) =
    GateSpent w p × ((hand_peer_of p w).end.key ≡ Some p → r ≤ (hand_peer_of p w).end.round) × UpTo n c (gate p.gate w).group (gate p.gate w).counter
Fine w (Load Up c b p) = HandSpent w p × ((gate_peer_of p w).end.key ≡ Some p → c < (gate_peer_of p w).end.send)
Fine w (Load Down c b p) = GateSpent w p × ((hand_peer_of p w).end.key ≡ Some p → c < (hand_peer_of p w).end.send)
-- the gate's next frame to all comes after it
Fine w (All g n c b) = Before n c (gate g w).group (gate g w).counter

-- what holds of each message that gate i delivered: it was sent, and while its pair is in use it is below the floor
abbrev pub GateGot : World → ℕ → Message → Type 0
GateGot w i (Begin g h a) = ⊥
GateGot w i (Reply p) = ⊥
GateGot w i (Take n c p) = ⊥
GateGot w i (Taken p) = ⊥
GateGot w i (Renew r n c p) = ⊥
GateGot w i (Load Up c b p) = (p.gate ≡ i) × In (Load Up c b p) w.transcript × GateSpent w p × ((hand_peer_of p w).end.key ≡ Some p → c < (hand_peer_of p w).end.floor)
GateGot w i (Load Down c b p) = ⊥
GateGot w i (All g n c b) = ⊥

-- and of each that handheld j delivered
abbrev pub HandGot : World → ℕ → Message → Type 0
HandGot w j (Begin g h a) = ⊥
HandGot w j (Reply p) = ⊥
HandGot w j (Take n c p) = ⊥
HandGot w j (Taken p) = ⊥
HandGot w j (Renew r n c p) = ⊥
HandGot w j (Load Up c b p) = ⊥
HandGot w j (Load Down c b p) = (p.hand ≡ j) × In (Load Down c b p) w.transcript × HandSpent w p ×
    ((gate_peer_of p w).end.key ≡ Some p → c < (gate_peer_of p w).end.floor)
HandGot w j (All g n c b) = In (All g n c b) w.transcript × Gone w.transcript (gate_peer g (hand j w)) n c

abbrev pub Got : World → Node → Message → Type 0
Got w (Gate i) m = GateGot w i m
Got w (Hand j) m = HandGot w j m

pub record Inv (w : World) : Type 0 where
  -- what each gate holds came about by messages that were sent, and pairs that were in use are spent
  pub gates : (i : ℕ) → GateOK i w.transcript (gate i w)
  -- so does what each handheld holds
  pub hands : (j : ℕ) → HandOK j w.transcript (hand j w)
  -- so that what is sent fits a row
  pub limits : (i : ℕ) → InLimits (gate i w)
  -- group key 0 is none, so no gate has it
  pub grouped : (i : ℕ) → i < length w.gates → 1 ≤ (gate i w).group
  -- of each message that was sent: its counter is used up, and its nonce is drawn
  pub sent : Each (λ (e : Entry). Fine w e.message) w.transcript
  -- of each message that was delivered: it was sent, and is not accepted again
  pub got : Each (λ (e : Entry). Got w e.node e.message) w.deliveries
  -- what is promised of the logs themselves, each entry new when it is put down
  pub draws : Distinct (draws_in w.transcript)
  pub seals : Distinct (seals_in w.transcript)
  pub own : OwnWords w
  pub rise : Rising w.deliveries
  -- no handheld is ahead of a gate's frames to all, so that the next one is accepted
  pub ahead : (j g : ℕ) → UpTo (gate_peer g (hand j w)).group (gate_peer g (hand j w)).floor (gate g w).group (gate g w).counter
  -- each end has a place for every other
  pub hand_peers : (i : ℕ) → i < length w.gates → length (gate i w).peers ≡ length w.hands
  pub gate_peers : (j : ℕ) → j < length w.hands → length (hand j w).peers ≡ length w.gates

-- ---- how a world moves on

pub record WorldMoves (w v : World) : Type 0 where
  pub gates : (i : ℕ) → GateMoves (gate i w) (gate i v)
  pub hands : (j : ℕ) → HandMoves (hand j w) (hand j v)
  pub transcript : Sub w.transcript v.transcript
  pub gone : (j g n c b : ℕ) → In (All g n c b) w.transcript → Gone w.transcript (gate_peer g (hand j w)) n c → Gone v.transcript (gate_peer g (hand j v)) n c
  pub newest : (j g : ℕ) (p : Pair) → SpentAtHand (hand j w).draws (gate_peer g (hand j w)) p → NotNewer (gate_peer g (hand j w)) p → NotNewer (gate_peer g (hand j v)) p

pub gate_up : (w v : World) → WorldMoves w v → (g n c : ℕ) → UpTo n c (gate g w).group (gate g w).counter → UpTo n c (gate g v).group (gate g v).counter
gate_up w v mv g n c h = upto_upto n c (gate g w).group (gate g w).counter (gate g v).group (gate g v).counter h (mv.gates g).up

pub fine_moves : (w v : World) → WorldMoves w v → (m : Message) → Fine w m → Fine v m
fine_moves w v mv (Begin g s a) h = let d = (mv.gates g).draws in (h.0, omega arith)
fine_moves w v mv (Reply p) h = let d = (mv.hands p.hand).draws in (h.0, omega arith)
fine_moves w v mv (Take n c p) h = (
  mv.transcript (Reply p) h.0,
  mv.transcript (Begin p.gate p.hand p.anonce) h.1,
  gate_up w v mv p.gate n c h.2,
  h.3,
)
fine_moves w v mv (Taken p) h = (
  gave_more p w.transcript v.transcript mv.transcript h.0,
  ((mv.hands p.hand).peers p.gate).spent p h.1,
  mv.newest p.hand p.gate p h.1 h.2,
)
fine_moves w v mv (Renew r n c p) h =
    let s = (mv.gates p.gate).peers p.hand in
    (s.spent p h.0, λ e. let l = s.used p h.0 e in let k = h.1 l.was in let u = l.round in omega arith, gate_up w v mv p.gate n c h.2)
fine_moves w v mv (Load Up c b p) h =
    let s = (mv.hands p.hand).peers p.gate in
    (s.spent p h.0, λ e. let l = s.used p h.0 e in let k = h.1 l.was in let u = l.send in omega arith)
fine_moves w v mv (Load Down c b p) h =
    let s = (mv.gates p.gate).peers p.hand in
    (s.spent p h.0, λ e. let l = s.used p h.0 e in let k = h.1 l.was in let u = l.send in omega arith)
fine_moves w v mv (All g n c b) h = before_upto n c (gate g w).group (gate g w).counter (gate g v).group (gate g v).counter h (mv.gates g).up

gate_got_moves : (w v : World) → WorldMoves w v → (i : ℕ) (m : Message) → GateGot w i m → GateGot v i m
gate_got_moves w v mv i (Begin g s a) h = h
gate_got_moves w v mv i (Reply p) h = h
gate_got_moves w v mv i (Take n c p) h = h
gate_got_moves w v mv i (Taken p) h = h
gate_got_moves w v mv i (Renew r n c p) h = h
gate_got_moves w v mv i (Load Up c b p) h =
    let s = (mv.gates p.gate).peers p.hand in
    (h.0, mv.transcript (Load Up c b p) h.1, s.spent p h.2, λ e. let l = s.used p h.2 e in let k = h.3 l.was in let u = l.floor in omega arith)
gate_got_moves w v mv i (Load Down c b p) h = h
gate_got_moves w v mv i (All g n c b) h = h

hand_got_moves : (w v : World) → WorldMoves w v → (j : ℕ) (m : Message) → HandGot w j m → HandGot v j m
hand_got_moves w v mv j (Begin g s a) h = h
hand_got_moves w v mv j (Reply p) h = h
hand_got_moves w v mv j (Take n c p) h = h
hand_got_moves w v mv j (Taken p) h = h
hand_got_moves w v mv j (Renew r n c p) h = h
hand_got_moves w v mv j (Load Up c b p) h = h
hand_got_moves w v mv j (Load Down c b p) h =
    let s = (mv.hands p.hand).peers p.gate in
    (h.0, mv.transcript (Load Down c b p) h.1, s.spent p h.2, λ e. let l = s.used p h.2 e in let k = h.3 l.was in let u = l.floor in omega arith)
hand_got_moves w v mv j (All g n c b) h = (mv.transcript (All g n c b) h.0, mv.gone j g n c b h.0 h.1)

pub got_moves : (w v : World) → WorldMoves w v → (n : Node) (m : Message) → Got w n m → Got v n m
got_moves w v mv (Gate i) m h = gate_got_moves w v mv i m h
got_moves w v mv (Hand j) m h = hand_got_moves w v mv j m h

-- ---- no nonce is drawn twice

abbrev pub NewDraw : List Entry → Message → Type 0
NewDraw es m = Each (λ (a : Nonce). Each (λ (b : Nonce). a ≡ b → ⊥) (draws_in es)) (draws_of m)

draws_cons : (m : Message) (xs : List Nonce) → Each (λ (a : Nonce). Each (λ (b : Nonce). a ≡ b → ⊥) xs) (draws_of m) → Distinct xs → Distinct (draws_of m ++ xs)
draws_cons (Begin g s a) xs h d = (h.0, d)
draws_cons (Reply p) xs h d = (h.0, d)
draws_cons (Take n c p) xs h d = d
draws_cons (Taken p) xs h d = d
draws_cons (Renew r n c p) xs h d = d
draws_cons (Load u c b p) xs h d = d
draws_cons (All g n c b) xs h d = d

pub draws_more : (n : Node) (ms : List Message) (es : List Entry) → length ms ≤ 1 → Each (NewDraw es) ms → Distinct (draws_in es) → Distinct (draws_in (logged n ms es))
draws_more n [] es l h d = d
draws_more n (m ∷ []) es l h d = draws_cons m (draws_in es) h.0 d
draws_more n (m ∷ (k ∷ ms)) es l h d = absurd (omega arith)

pub each_draw : (P : Nonce → Type 0) (es : List Entry) → Each (λ (e : Entry). Each P (draws_of e.message)) es → Each P (draws_in es)
each_draw P [] h = tt
each_draw P (e ∷ es) h = each_app P (draws_of e.message) (draws_in es) h.0 (each_draw P es h.1)

-- the next nonce of an end: k, i, d say of which kind it is, which, and how many it drew
abbrev pub NextOf : World → ℕ → ℕ → ℕ → Type 0
NextOf w k i d = (k ≡ 0 → d ≡ (gate i w).draws) × (k ≡ 1 → d ≡ (hand i w).draws)

pub draw_new : (w : World) (k i d : ℕ) → NextOf w k i d → (m : Message) → Fine w m → Each (λ (b : Nonce). nonce_of k i d ≡ b → ⊥) (draws_of m)
draw_new w k i d next (Begin g s a) f = (
  (λ e.
      let k1 : k ≡ a.kind = ap (λ (v : Nonce). v.kind) e in
      let i1 : i ≡ a.node = ap (λ (v : Nonce). v.node) e in
      let d1 : d ≡ a.index = ap (λ (v : Nonce). v.index) e in
      let k2 : a.kind ≡ 0 = ap (λ (v : Nonce). v.kind) f.0 in
      let i2 : a.node ≡ g = ap (λ (v : Nonce). v.node) f.0 in
      let l = subst (λ v. a.index < (gate v w).draws) (sym (i1 ∙ i2)) f.1 in
      let d2 = next.0 (k1 ∙ k2) in omega arith),
  tt,
)
draw_new w k i d next (Reply p) f = (
  (λ e.
      let k1 : k ≡ p.snonce.kind = ap (λ (v : Nonce). v.kind) e in
      let i1 : i ≡ p.snonce.node = ap (λ (v : Nonce). v.node) e in
      let d1 : d ≡ p.snonce.index = ap (λ (v : Nonce). v.index) e in
      let k2 : p.snonce.kind ≡ 1 = ap (λ (v : Nonce). v.kind) f.0 in
      let i2 : p.snonce.node ≡ p.hand = ap (λ (v : Nonce). v.node) f.0 in
      let l = subst (λ v. p.snonce.index < (hand v w).draws) (sym (i1 ∙ i2)) f.1 in
      let d2 = next.1 (k1 ∙ k2) in omega arith),
  tt,
)
draw_new w k i d next (Take n c q) f = tt
draw_new w k i d next (Taken q) f = tt
draw_new w k i d next (Renew r n c q) f = tt
draw_new w k i d next (Load u c b q) f = tt
draw_new w k i d next (All h n c b) f = tt

-- ---- no counter is used twice under one key

abbrev pub seal_of : Key → Stream → ℕ → Seal
seal_of k s c = record { key = k; stream = s; counter = c }

abbrev pub NewSeal : List Entry → Message → Type 0
NewSeal es m = Each (λ (a : Seal). Each (λ (b : Seal). a ≡ b → ⊥) (seals_in es)) (seals_of m)

seals_cons : (m : Message) (xs : List Seal) → Each (λ (a : Seal). Each (λ (b : Seal). a ≡ b → ⊥) xs) (seals_of m) → Distinct xs → Distinct (seals_of m ++ xs)
seals_cons (Begin g s a) xs h d = d
seals_cons (Reply p) xs h d = d
seals_cons (Take n c p) xs h d = d
seals_cons (Taken p) xs h d = d
seals_cons (Renew r n c p) xs h d = (h.0, d)
seals_cons (Load u c b p) xs h d = (h.0, d)
seals_cons (All g n c b) xs h d = (h.0, d)

pub seals_more : (n : Node) (ms : List Message) (es : List Entry) → length ms ≤ 1 → Each (NewSeal es) ms → Distinct (seals_in es) → Distinct (seals_in (logged n ms es))
seals_more n [] es l h d = d
seals_more n (m ∷ []) es l h d = seals_cons m (seals_in es) h.0 d
seals_more n (m ∷ (k ∷ ms)) es l h d = absurd (omega arith)

pub each_seal : (P : Seal → Type 0) (es : List Entry) → Each (λ (e : Entry). Each P (seals_of e.message)) es → Each P (seals_in es)
each_seal P [] h = tt
each_seal P (e ∷ es) h = each_app P (seals_of e.message) (seals_in es) h.0 (each_seal P es h.1)

-- keys and streams tell apart
pub pairwise_inj : (p q : Pair) → Pairwise p ≡ Pairwise q → p ≡ q
pairwise_inj p q e = cc

pub group_inj : (g n h m : ℕ) → Group g n ≡ Group h m → (g ≡ h) × (n ≡ m)
group_inj g n h m e = ((cc), (cc))

pub pairwise_group : (p : Pair) (g n : ℕ) → Pairwise p ≡ Group g n → ⊥
pairwise_group p g n e = let z : ◌≡◌ {A = ℕ} 0 1 = cc in omega arith

up_down : Frames Up ≡ Frames Down → ⊥
up_down e = let z : ◌≡◌ {A = ℕ} 0 1 = cc in omega arith

frames_renewals : (d : Direction) → Frames d ≡ Renewals → ⊥
frames_renewals d e = let z : ◌≡◌ {A = ℕ} 0 1 = cc in omega arith

keys_of : (a b : Seal) → a ≡ b → a.key ≡ b.key
keys_of a b e = ap (λ (s : Seal). s.key) e

streams_of : (a b : Seal) → a ≡ b → a.stream ≡ b.stream
streams_of a b e = ap (λ (s : Seal). s.stream) e

counters_of : (a b : Seal) → a ≡ b → a.counter ≡ b.counter
counters_of a b e = ap (λ (s : Seal). s.counter) e

pub down_new : (w : World) (p : Pair) (c : ℕ) → (hand_peer_of p w).end.key ≡ Some p → c ≡ (hand_peer_of p w).end.send → (m : Message) → Fine w m →
    Each (λ (b : Seal). seal_of (Pairwise p) (Frames Down) c ≡ b → ⊥) (seals_of m)
down_new w p c e x (Begin h t a) f = tt
down_new w p c e x (Reply q) f = tt
down_new w p c e x (Take n k q) f = tt
down_new w p c e x (Taken q) f = tt
down_new w p c e x (Renew r n k q) f = ((λ i. frames_renewals Down (streams_of _ _ i)), tt)
down_new w p c e x (Load Up k d q) f = ((λ i. up_down (sym (streams_of _ _ i))), tt)
down_new w p c e x (Load Down k d q) f = (
  (λ i.
      let j : p ≡ q = pairwise_inj p q (keys_of _ _ i) in
      let l : c ≡ k = counters_of _ _ i in
      let h = subst (λ (v : Pair). (hand_peer_of v w).end.key ≡ Some v → k < (hand_peer_of v w).end.send) (sym j) f.1 e in omega arith),
  tt,
)
down_new w p c e x (All h n k d) f = ((λ i. pairwise_group p h n (keys_of _ _ i)), tt)

pub renew_new : (w : World) (p : Pair) (c : ℕ) → (hand_peer_of p w).end.key ≡ Some p → c ≡ (hand_peer_of p w).end.round + 1 → (m : Message) → Fine w m →
    Each (λ (b : Seal). seal_of (Pairwise p) Renewals c ≡ b → ⊥) (seals_of m)
renew_new w p c e x (Begin h t a) f = tt
renew_new w p c e x (Reply q) f = tt
renew_new w p c e x (Take n k q) f = tt
renew_new w p c e x (Taken q) f = tt
renew_new w p c e x (Renew r n k q) f = (
  (λ i.
      let j : p ≡ q = pairwise_inj p q (keys_of _ _ i) in
      let l : c ≡ r = counters_of _ _ i in
      let h = subst (λ (v : Pair). (hand_peer_of v w).end.key ≡ Some v → r ≤ (hand_peer_of v w).end.round) (sym j) f.1 e in omega arith),
  tt,
)
renew_new w p c e x (Load u k d q) f = ((λ i. frames_renewals u (sym (streams_of _ _ i))), tt)
renew_new w p c e x (All h n k d) f = ((λ i. pairwise_group p h n (keys_of _ _ i)), tt)

pub up_new : (w : World) (p : Pair) (c : ℕ) → (gate_peer_of p w).end.key ≡ Some p → c ≡ (gate_peer_of p w).end.send → (m : Message) → Fine w m →
    Each (λ (b : Seal). seal_of (Pairwise p) (Frames Up) c ≡ b → ⊥) (seals_of m)
up_new w p c e x (Begin h t a) f = tt
up_new w p c e x (Reply q) f = tt
up_new w p c e x (Take n k q) f = tt
up_new w p c e x (Taken q) f = tt
up_new w p c e x (Renew r n k q) f = ((λ i. frames_renewals Up (streams_of _ _ i)), tt)
up_new w p c e x (Load Up k d q) f = (
  (λ i.
      let j : p ≡ q = pairwise_inj p q (keys_of _ _ i) in
      let l : c ≡ k = counters_of _ _ i in
      let h = subst (λ (v : Pair). (gate_peer_of v w).end.key ≡ Some v → k < (gate_peer_of v w).end.send) (sym j) f.1 e in omega arith),
  tt,
)
up_new w p c e x (Load Down k d q) f = ((λ i. up_down (streams_of _ _ i)), tt)
up_new w p c e x (All h n k d) f = ((λ i. pairwise_group p h n (keys_of _ _ i)), tt)

pub all_new : (w : World) (g o c : ℕ) → o ≡ (gate g w).group → c ≡ (gate g w).counter → (m : Message) → Fine w m →
    Each (λ (b : Seal). seal_of (Group g o) (Frames Down) c ≡ b → ⊥) (seals_of m)
all_new w g o c e y (Begin h t a) f = tt
all_new w g o c e y (Reply q) f = tt
all_new w g o c e y (Take n k q) f = tt
all_new w g o c e y (Taken q) f = tt
all_new w g o c e y (Renew r n k q) f = ((λ i. pairwise_group q g o (sym (keys_of _ _ i))), tt)
all_new w g o c e y (Load u k d q) f = ((λ i. pairwise_group q g o (sym (keys_of _ _ i))), tt)
all_new w g o c e y (All h n k d) f = (
  (λ i.
      let a = group_inj g o h n (keys_of _ _ i) in
      let l : c ≡ k = counters_of _ _ i in
      let z = subst (λ v. Before n k (gate v w).group (gate v w).counter) (sym a.0) f in
      let b = a.1 in
      let u = z.1 (omega arith) in omega arith),
  tt,
)

-- ---- under one key the counters of what is delivered rise

abbrev pub Above : Message → Message → Type 0
Above m k = Each (λ (s : Seal). Each (Below s) (seals_of m)) (seals_of k)

-- a load up with a counter that is not below the floor, and what the gate delivered before
pub above_up : (w : World) (c b : ℕ) (p : Pair) → (hand_peer_of p w).end.key ≡ Some p → (hand_peer_of p w).end.floor ≤ c → (i : ℕ) (m : Message) → GateGot w i m →
    Above (Load Up c b p) m
above_up w c b p e le i (Begin g s a) f = absurd f
above_up w c b p e le i (Reply q) f = absurd f
above_up w c b p e le i (Take n k q) f = absurd f
above_up w c b p e le i (Taken q) f = absurd f
above_up w c b p e le i (Renew r n k q) f = absurd f
above_up w c b p e le i (Load Up k d q) f =
    (((λ a t. let h = subst (λ (v : Pair). (hand_peer_of v w).end.key ≡ Some v → k < (hand_peer_of v w).end.floor) (pairwise_inj q p a) f.3 e in omega arith), tt), tt)
above_up w c b p e le i (Load Down k d q) f = absurd f
above_up w c b p e le i (All g n k d) f = absurd f

pub above_down : (w : World) (c b : ℕ) (p : Pair) → (gate_peer_of p w).end.key ≡ Some p → (gate_peer_of p w).end.floor ≤ c → (j : ℕ) (m : Message) → HandGot w j m →
    Above (Load Down c b p) m
above_down w c b p e le j (Begin g s a) f = absurd f
above_down w c b p e le j (Reply q) f = absurd f
above_down w c b p e le j (Take n k q) f = absurd f
above_down w c b p e le j (Taken q) f = absurd f
above_down w c b p e le j (Renew r n k q) f = absurd f
above_down w c b p e le j (Load Up k d q) f = absurd f
above_down w c b p e le j (Load Down k d q) f =
    (((λ a t. let h = subst (λ (v : Pair). (gate_peer_of v w).end.key ≡ Some v → k < (gate_peer_of v w).end.floor) (pairwise_inj q p a) f.3 e in omega arith), tt), tt)
above_down w c b p e le j (All g n k d) f = (((λ a t. absurd (pairwise_group p g n (sym a))), tt), tt)

gone_some : (es : List Entry) (k o : Option Pair) (a l n c : ℕ) → T (is_some k) → GoneBy es k o a l n c → Before n c a l
gone_some es None o a l n c t h = elim t [ ]
gone_some es (Some p) o a l n c t h = h

pub above_all : (w : World) (j g n c b : ℕ) → T (is_some (gate_peer g (hand j w)).end.key) → n ≡ (gate_peer g (hand j w)).group → (gate_peer g (hand j w)).floor ≤ c →
    (m : Message) → HandGot w j m → Above (All g n c b) m
above_all w j g n c b t e le (Begin h s a) f = absurd f
above_all w j g n c b t e le (Reply q) f = absurd f
above_all w j g n c b t e le (Take o k q) f = absurd f
above_all w j g n c b t e le (Taken q) f = absurd f
above_all w j g n c b t e le (Renew r o k q) f = absurd f
above_all w j g n c b t e le (Load Up k d q) f = absurd f
above_all w j g n c b t e le (Load Down k d q) f = (((λ a u. absurd (pairwise_group q g n a)), tt), tt)
above_all w j g n c b t e le (All h m k d) f = (
  (
    (λ a u.
        let i = group_inj h m g n a in
        let x : GatePeer = gate_peer g (hand j w) in
        let q = subst (λ v. Gone w.transcript (gate_peer v (hand j w)) m k) i.0 f.1 in
        let l = gone_some w.transcript x.end.key x.end.offered x.group x.floor m k t q in
        let z = i.1 in
        let y = l.1 (omega arith) in omega arith),
    tt,
  ),
  tt,
)

pub rise_more : (n : Node) (ms : List Message) (ds : List Entry) → length ms ≤ 1 →
    Each (λ m. Each (λ (e : Entry). Earlier e (record { node = n; message = m })) ds) ms → Rising ds → Rising (logged n ms ds)
rise_more n [] ds l h r = r
rise_more n (m ∷ []) ds l h r = (h.0, r)
rise_more n (m ∷ (k ∷ ms)) ds l h r = absurd (omega arith)
