-- Nothing is drawn, brought into use or sealed twice.
use Rattle.std.proofs.Common.{◌≡◌, ℕ, List, [], ◌∷◌, Some, ap, subst, arith}
use Rattle.frame.specs.declared.message.Node.{Node}
use Rattle.frame.specs.declared.message.Nonce.{Nonce}
use Rattle.frame.specs.declared.message.Pair.{Pair}
use Rattle.frame.specs.declared.message.Message.{Message}
use Rattle.frame.specs.declared.message.Message.TheVariants.{Begin, Reply, Take, Taken, Renew, Load, All}
use Rattle.protocol.specs.declared.held.Endpoint.{Endpoint}
use Rattle.protocol.specs.Rules.{gate_peer, hand_peer}
use Rattle.protocol.specs.World.{Entry, World, start, gate, hand, Event, happens, after}
use Rattle.protocol.specs.Promise.{Each, Always, draws_of, NamesDrawer, DrawnOnce, InstalledOnce, NeverTwice, sender, OwnWords}
use Rattle.promise.proofs.Base.{each_both, any_this}
use Rattle.promise.proofs.Ends.{Later, SpentAtGate, SpentAtHand, KeyAtGate, KeyAtHand}
use Rattle.promise.proofs.Invariant.{Fine, Inv}
use Rattle.promise.proofs.Keeps.{always, inv_run, happens_goes}

-- ---- nonces

names_drawer : (w : World) (n : Node) (m : Message) → Fine w m → sender m ≡ n → Each (NamesDrawer n) (draws_of m)
names_drawer w n (Begin g h a) f e = (subst (λ v. NamesDrawer v a) e (ap (λ (x : Nonce). x.kind) f.0, ap (λ (x : Nonce). x.node) f.0), tt)
names_drawer w n (Reply p) f e = (subst (λ v. NamesDrawer v p.snonce) e (ap (λ (x : Nonce). x.kind) f.0, ap (λ (x : Nonce). x.node) f.0), tt)
names_drawer w n (Take k c p) f e = tt
names_drawer w n (Taken p) f e = tt
names_drawer w n (Renew r k c p) f e = tt
names_drawer w n (Load d c b p) f e = tt
names_drawer w n (All g k c b) f e = tt

pub drawn_once_of : (w : World) → Inv w → DrawnOnce w
drawn_once_of w inv = (
  inv.draws,
  each_both (λ (e : Entry). Fine w e.message) (λ (e : Entry). sender e.message ≡ e.node) (λ (e : Entry). Each (NamesDrawer e.node) (draws_of e.message))
      (λ e f o. names_drawer w e.node e.message f o) w.transcript inv.sent inv.own,
)

pub drawn_once : Always DrawnOnce
drawn_once g s es = drawn_once_of (after es (start g s)) (always g s es)

-- ---- counters, and whose words

pub never_twice : Always NeverTwice
never_twice g s es = (always g s es).seals

pub own_words : Always OwnWords
own_words g s es = (always g s es).own

-- ---- pairs

later_same : (e : Endpoint) (p : Pair) → e.key ≡ Some p → Later e e p
later_same e p k = record { was = k; send = omega arith; floor = omega arith; round = omega arith }

later_on : (e f h : Endpoint) (p : Pair) → Later e f p → Later f h p → Later e h p
later_on e f h p a b =
    let a1 = a.send in let a2 = a.floor in let a3 = a.round in let b1 = b.send in let b2 = b.floor in let b3 = b.round in
    record { was = a.was; send = omega arith; floor = omega arith; round = omega arith }

-- what is spent is so after any events, and if it is in use then, it was in use all along
abbrev GateRun : (i j : ℕ) → Pair → World → World → Type 0
GateRun i j p w v = SpentAtGate (gate i v).draws (hand_peer j (gate i v)) p ×
    ((hand_peer j (gate i v)).end.key ≡ Some p → Later (hand_peer j (gate i w)).end (hand_peer j (gate i v)).end p)

abbrev HandRun : (i j : ℕ) → Pair → World → World → Type 0
HandRun i j p w v = SpentAtHand (hand j v).draws (gate_peer i (hand j v)) p ×
    ((gate_peer i (hand j v)).end.key ≡ Some p → Later (gate_peer i (hand j w)).end (gate_peer i (hand j v)).end p)

gate_run : (fs : List Event) (w : World) → Inv w → (i j : ℕ) (p : Pair) → SpentAtGate (gate i w).draws (hand_peer j (gate i w)) p → GateRun i j p w (after fs w)
unfolding after
gate_run [] w inv i j p sp = (sp, λ e. later_same (hand_peer j (gate i w)).end p e)
gate_run (f ∷ fs) w inv i j p sp =
    let u = happens f w in
    let go = happens_goes w inv f in
    let mv = (go.1.gates i).peers j in
    let r = gate_run fs u go.0 i j p (mv.spent p sp) in
    (r.0, λ e. let l = r.1 e in later_on (hand_peer j (gate i w)).end (hand_peer j (gate i u)).end (hand_peer j (gate i (after fs u))).end p (mv.used p sp l.was) l)

hand_run : (fs : List Event) (w : World) → Inv w → (i j : ℕ) (p : Pair) → SpentAtHand (hand j w).draws (gate_peer i (hand j w)) p → HandRun i j p w (after fs w)
unfolding after
hand_run [] w inv i j p sp = (sp, λ e. later_same (gate_peer i (hand j w)).end p e)
hand_run (f ∷ fs) w inv i j p sp =
    let u = happens f w in
    let go = happens_goes w inv f in
    let mv = (go.1.hands j).peers i in
    let r = hand_run fs u go.0 i j p (mv.spent p sp) in
    (r.0, λ e. let l = r.1 e in later_on (gate_peer i (hand j w)).end (gate_peer i (hand j u)).end (gate_peer i (hand j (after fs u))).end p (mv.used p sp l.was) l)

pub installed_once : InstalledOnce
installed_once g s es fs hs i j p =
    let u = after es (start g s) in let v = after fs u in
    let iu = always g s es in let iv = inv_run fs u iu in (
      (λ k l.
          let x = hand_peer j (gate i u) in
          let sp = (any_this (KeyAtGate i j (gate i u).draws u.transcript x) x.end.key p k (iu.gates i j).key).0 in
          let r = gate_run fs u iu i j p sp in
          let m = (gate_run hs v iv i j p r.0).1 l in
          let a = r.1 m.was in (m.was, (a.send, a.floor, a.round))),
      (λ k l.
          let x = gate_peer i (hand j u) in
          let sp = (any_this (KeyAtHand i j (hand j u).draws u.transcript x) x.end.key p k (iu.hands j i).key).0 in
          let r = hand_run fs u iu i j p sp in
          let m = (hand_run hs v iv i j p r.0).1 l in
          let a = r.1 m.was in (m.was, (a.send, a.floor, a.round))),
    )
