-- Every world that can be reached keeps what is promised of one world.
use Rattle.std.proofs.Common.{◌≡◌, ℕ, Bool, true, cond, List, [], ◌∷◌, ◌++◌, length, sym, refl, ap, ◌∙◌, subst, length-set}
use mathlib.Core.Logic.{∥∥₁_elim, ∥∥₁_map}
use lib.ListN.{length-replicate}
use Rattle.frame.specs.declared.message.Node.{Node}
use Rattle.frame.specs.declared.message.Node.TheVariants.{Gate, Hand}
use Rattle.frame.specs.Row.{code}
use Rattle.protocol.specs.Held.{HandState, new_hand, GateState, new_gate}
use Rattle.protocol.specs.Rules.{Out}
use Rattle.protocol.specs.Calls.{gate_hears_row, hand_hears_row, gate_does, hand_does}
use Rattle.protocol.specs.World.{World, start, gate, hand, put_gate, put_hand, heard_by, may_be_heard, hearer, Event, GateActs, HandActs, Hears, happens, after}
use Rattle.promise.specs.Reach.{Reached, Kept}
use Rattle.promise.proofs.Base.{cond_case}
use Rattle.promise.proofs.Invariant.{Inv}
use Rattle.promise.proofs.Keeps.{always}
use Rattle.promise.proofs.Once.{drawn_once_of}
use Rattle.promise.proofs.Delivery.{delivered_of, broadcast_once_of}
use Rattle.promise.proofs.Keys.{one_key_of}
use Rattle.promise.proofs.Way.{way_on_of, way_open_of}
use Rattle.promise.proofs.Props.{drawn_prop, once_prop, own_prop, delivered_prop, broadcast_prop, key_prop, way_prop, open_prop}

-- ---- the numbers of ends stay

abbrev Sized : World → World → Type 0
Sized w v = (length v.gates ≡ length w.gates) × (length v.hands ≡ length w.hands)

sized_gate : (w : World) (g : ℕ) (o : Out GateState) (b : Bool) → Sized w (cond b (put_gate g o w) w)
sized_gate w g o b = cond_case (λ v. Sized w v) b (put_gate g o w) w (λ _. (length-set w.gates g o.held, refl)) (refl, refl)

sized_hand : (w : World) (s : ℕ) (o : Out HandState) (b : Bool) → Sized w (cond b (put_hand s o w) w)
sized_hand w s o b = cond_case (λ v. Sized w v) b (put_hand s o w) w (λ _. (refl, length-set w.hands s o.held)) (refl, refl)

sized_heard : (w : World) (n : Node) (row : List ℕ) → Sized w (heard_by n row w)
sized_heard w (Gate g) row = sized_gate w g (gate_hears_row g (length w.hands) row true (gate g w)) _
sized_heard w (Hand s) row = sized_hand w s (hand_hears_row (length w.gates) s row true (hand s w)) _

pub sized_happens : (w : World) (e : Event) → Sized w (happens e w)
sized_happens w (GateActs g a) = sized_gate w g (gate_does g (length w.hands) a (gate g w)) _
sized_happens w (HandActs s a) = sized_hand w s (hand_does (length w.gates) a (hand s w)) _
sized_happens w (Hears s m) = cond_case (λ v. Sized w v) (may_be_heard m w.transcript) (heard_by (hearer s m) (code m) w) w
    (λ _. sized_heard w (hearer s m) (code m)) (refl, refl)

-- ---- what can be reached

pub reached_start : (g s : ℕ) → Reached (start g s)
unfolding after
reached_start g s = ∣ ([], λ i. start (sym (length-replicate g (new_gate s)) i) (sym (length-replicate s (new_hand g)) i)) ∣₁

after_one_more : (es : List Event) (e : Event) (w : World) → after (es ++ e ∷ []) w ≡ happens e (after es w)
unfolding after
after_one_more [] e w = refl
after_one_more (d ∷ es) e w = after_one_more es e (happens d w)

pub reached_more : (w : World) (e : Event) → Reached w → Reached (happens e w)
reached_more w e r = ∥∥₁_map r (λ x. (
  x.0 ++ e ∷ [],
  ap (λ (v : World). happens e v) x.1 ∙ sym (after_one_more x.0 e (start (length w.gates) (length w.hands)))
      ∙ (λ i. after (x.0 ++ e ∷ []) (start (sym (sized_happens w e).0 i) (sym (sized_happens w e).1 i))),
))

-- ---- what it keeps

kept_prop : (w : World) → IsProp (Kept w)
kept_prop w a b = λ i. record {
  drawn = drawn_prop w a.drawn b.drawn i;
  once = once_prop w a.once b.once i;
  own = own_prop w a.own b.own i;
  delivered = delivered_prop w a.delivered b.delivered i;
  broadcast = broadcast_prop w a.broadcast b.broadcast i;
  key = key_prop w a.key b.key i;
  way = way_prop w a.way b.way i;
  «open» = open_prop w a.«open» b.«open» i;
}

kept_of : (w : World) → Inv w → Kept w
kept_of w inv = record {
  drawn = drawn_once_of w inv;
  once = inv.seals;
  own = inv.own;
  delivered = delivered_of w inv;
  broadcast = broadcast_once_of w inv;
  key = one_key_of w inv;
  way = way_on_of w inv;
  «open» = way_open_of w inv;
}

pub kept : (w : World) → Reached w → Kept w
kept w r = ∥∥₁_elim r (kept_prop w) (λ x. kept_of w (subst Inv (sym x.1) (always (length w.gates) (length w.hands) x.0)))
