-- What is delivered was sent, to whom it is delivered, once and in order.
use Rattle.std.proofs.Common.{◌≡◌, Bool, true, false, cond, T, List, [], ◌∷◌, ◌++◌, sym, refl, ap, ◌∙◌, subst, arith}
use Rattle.frame.specs.declared.message.Node.{Node}
use Rattle.frame.specs.declared.message.Node.TheVariants.{Gate, Hand}
use Rattle.frame.specs.declared.message.Direction.TheVariants.{Up, Down}
use Rattle.frame.specs.declared.message.Message.{Message}
use Rattle.frame.specs.declared.message.Message.TheVariants.{Begin, Reply, Take, Taken, Renew, Load, All}
use Rattle.protocol.specs.World.{Entry, World, start, after}
use Rattle.protocol.specs.Promise.{Each, Distinct, Always, same_node, is_logged, Group, Frames, Seal, seals_of, sender, is_receiver, Below, Earlier, Rising, Delivered, broadcast_of, broadcasts_to, BroadcastOnce}
use Rattle.promise.proofs.Base.{is_true, eqb←, node→, In, logged_own, each_map, each_app}
use Rattle.promise.proofs.Invariant.{Got, Inv}
use Rattle.promise.proofs.Keeps.{always}

-- ---- sent, and for whom

received : (w : World) (n : Node) (m : Message) → Got w n m → In m w.transcript × T (is_receiver n m)
received w (Gate i) (Begin g h a) f = absurd f
received w (Gate i) (Reply p) f = absurd f
received w (Gate i) (Take k c p) f = absurd f
received w (Gate i) (Taken p) f = absurd f
received w (Gate i) (Renew r k c p) f = absurd f
received w (Gate i) (Load Up c b p) f = (f.1, eqb← i p.gate (sym f.0))
received w (Gate i) (Load Down c b p) f = absurd f
received w (Gate i) (All g k c b) f = absurd f
received w (Hand j) (Begin g h a) f = absurd f
received w (Hand j) (Reply p) f = absurd f
received w (Hand j) (Take k c p) f = absurd f
received w (Hand j) (Taken p) f = absurd f
received w (Hand j) (Renew r k c p) f = absurd f
received w (Hand j) (Load Up c b p) f = absurd f
received w (Hand j) (Load Down c b p) f = (f.1, eqb← j p.hand (sym f.0))
received w (Hand j) (All g k c b) f = (f.0, tt)

pub delivered_of : (w : World) → Inv w → Delivered w
delivered_of w inv = (
  each_map (λ (d : Entry). Got w d.node d.message)
      (λ (d : Entry). (is_logged (sender d.message) d.message w.transcript ≡ true) × (is_receiver d.node d.message ≡ true))
      (λ d f. let r = received w d.node d.message f in (
        is_true (is_logged (sender d.message) d.message w.transcript) (logged_own d.message w.transcript inv.own r.0),
        is_true (is_receiver d.node d.message) r.1,
      ))
      w.deliveries inv.got,
  inv.rise,
)

pub delivered : Always Delivered
delivered g s es = delivered_of (after es (start g s)) (always g s es)

-- ---- frames to all: counters that rise are distinct

each_broadcast : (P : Seal → Type 0) (n : Node) (ds : List Entry) → Each (λ (e : Entry). n ≡ e.node → Each P (broadcast_of e.message)) ds → Each P (broadcasts_to n ds)
each_broadcast P n [] h = tt
each_broadcast P n (e ∷ ds) h =
    each_app P (cond (same_node n e.node) (broadcast_of e.message) []) (broadcasts_to n ds) (go (same_node n e.node) (node→ n e.node))
    (each_broadcast P n ds h.1)
  where
    go : (b : Bool) → (T b → n ≡ e.node) → Each P (cond b (broadcast_of e.message) [])
    go true f = h.0 (f tt)
    go false f = tt

apart : (x : Seal) (m : Message) → Each (λ (s : Seal). Each (Below s) (x ∷ [])) (seals_of m) → Each (λ (y : Seal). x ≡ y → ⊥) (broadcast_of m)
apart x (Begin g h a) k = tt
apart x (Reply p) k = tt
apart x (Take n c p) k = tt
apart x (Taken p) k = tt
apart x (Renew r n c p) k = tt
apart x (Load d c b p) k = tt
apart x (All g n c b) k = (
  (λ e.
      let l = k.0.0 (sym (ap (λ (s : Seal). s.key) e)) (sym (ap (λ (s : Seal). s.stream) e)) in
      let i : x.counter ≡ c = ap (λ (s : Seal). s.counter) e in omega arith),
  tt,
)

broadcasts_cons : (n : Node) (d : Entry) (ds : List Entry) → n ≡ d.node → Each (λ (e : Entry). Earlier e d) ds → (m : Message) → d.message ≡ m →
    Distinct (broadcasts_to n ds) →
    Distinct (broadcast_of m ++ broadcasts_to n ds)
broadcasts_cons n d ds e h (Begin g s a) q k = k
broadcasts_cons n d ds e h (Reply p) q k = k
broadcasts_cons n d ds e h (Take o c p) q k = k
broadcasts_cons n d ds e h (Taken p) q k = k
broadcasts_cons n d ds e h (Renew r o c p) q k = k
broadcasts_cons n d ds e h (Load u c b p) q k = k
broadcasts_cons n d ds e h (All g o c b) q k = (
  each_broadcast (λ (y : Seal). x ≡ y → ⊥) n ds
      (each_map (λ (f : Entry). Earlier f d) (λ (f : Entry). n ≡ f.node → Each (λ (y : Seal). x ≡ y → ⊥) (broadcast_of f.message))
      (λ f u i. apart x f.message (subst (λ (m : Message). Each (λ (s : Seal). Each (Below s) (seals_of m)) (seals_of f.message)) q (u (sym i ∙ e)))) ds h),
  k,
)
  where
    x : Seal
    x = record { key = Group g o; stream = Frames Down; counter = c }

rising_once : (n : Node) (ds : List Entry) → Rising ds → Distinct (broadcasts_to n ds)
rising_once n [] r = tt
rising_once n (d ∷ ds) r = go (same_node n d.node) (node→ n d.node) (rising_once n ds r.1)
  where
    go : (b : Bool) → (T b → n ≡ d.node) → Distinct (broadcasts_to n ds) → Distinct (cond b (broadcast_of d.message) [] ++ broadcasts_to n ds)
    go true f k = broadcasts_cons n d ds (f tt) r.0 d.message refl k
    go false f k = k

pub broadcast_once_of : (w : World) → Inv w → BroadcastOnce w
broadcast_once_of w inv j = rising_once (Hand j) w.deliveries inv.rise

pub broadcast_once : Always BroadcastOnce
broadcast_once g s es = broadcast_once_of (after es (start g s)) (always g s es)
