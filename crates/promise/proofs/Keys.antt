-- Who has a key in use has it with the other.
use Rattle.std.proofs.Common.{◌≡◌, ℕ, ◌≤◌, T, Some, refl, subst}
use Rattle.frame.specs.declared.message.Node.TheVariants.{Gate, Hand}
use Rattle.frame.specs.declared.message.Pair.{Pair}
use Rattle.frame.specs.declared.message.Message.TheVariants.{Begin, Reply, Take, Taken}
use Rattle.protocol.specs.Rules.{gate_peer, hand_peer}
use Rattle.protocol.specs.World.{World, start, gate, hand, after}
use Rattle.protocol.specs.Promise.{Always, is_logged, is_given, Agreed, OneKey, gate_side, hand_side}
use Rattle.promise.proofs.Base.{is_true, each_in, logged_own, given_own, any_this}
use Rattle.promise.proofs.Ends.{Gave, KeyAtGate, KeyAtHand}
use Rattle.promise.proofs.Hands.{NotNewer}
use Rattle.promise.proofs.Invariant.{Fine, Inv}
use Rattle.promise.proofs.Keeps.{always}

module _ (w : World) (inv : Inv w) where
  agreed : (p : Pair) → Gave p w.transcript → Agreed p.gate p.hand p w.transcript
  agreed p v =
      let es = w.transcript in
      let t = each_in (Fine w) (Take v.0 v.1 p) es v.2 inv.sent in (
        refl,
        refl,
        is_true (is_logged (Gate p.gate) (Begin p.gate p.hand p.anonce) es) (logged_own (Begin p.gate p.hand p.anonce) es inv.own t.1),
        is_true (is_logged (Hand p.hand) (Reply p) es) (logged_own (Reply p) es inv.own t.0),
        is_true (is_given (Gate p.gate) p es) (given_own v.0 v.1 p es inv.own v.2),
      )

  agreed_at : (i j : ℕ) (p : Pair) → p.gate ≡ i → p.hand ≡ j → Gave p w.transcript → Agreed i j p w.transcript
  agreed_at i j p ei ej v = subst (λ k. Agreed k j p w.transcript) ei (subst (λ k. Agreed p.gate k p w.transcript) ej (agreed p v))

  pub one_key_of : OneKey w
  one_key_of i j p q li lj = (
    (λ e. let k = hand_key_lem e in agreed_at i j q k.1 k.2 k.3),
    (λ e. let k = gate_key_lem e in let t = taken e in (
      agreed_at i j p k.1 k.2 t.0,
      is_true (is_logged (Hand j) (Taken p) w.transcript) (subst (λ n. T (is_logged (Hand n) (Taken p) w.transcript)) k.2
          (logged_own (Taken p) w.transcript inv.own k.3)),
    )),
    (λ e f. let k = gate_key_lem e in
        any_this (λ (r : Pair). (p.snonce.index ≤ r.snonce.index) × (p.snonce.index ≡ r.snonce.index → p ≡ r)) (hand_side i j w).key q f
        (subst (λ n. NotNewer (gate_peer n (hand j w)) p) k.1 (subst (λ n. NotNewer (gate_peer p.gate (hand n w)) p) k.2 (taken e).2))),
  )
    where
      gate_key_lem : (gate_side i j w).key ≡ Some p → KeyAtGate i j (gate i w).draws w.transcript (hand_peer j (gate i w)) p
      gate_key_lem e = any_this (KeyAtGate i j (gate i w).draws w.transcript (hand_peer j (gate i w))) (gate_side i j w).key p e (inv.gates i j).key

      hand_key_lem : (hand_side i j w).key ≡ Some q → KeyAtHand i j (hand j w).draws w.transcript (gate_peer i (hand j w)) q
      hand_key_lem e = any_this (KeyAtHand i j (hand j w).draws w.transcript (gate_peer i (hand j w))) (hand_side i j w).key q e (inv.hands j i).key

      taken : (gate_side i j w).key ≡ Some p → Fine w (Taken p)
      taken e = each_in (Fine w) (Taken p) w.transcript (gate_key_lem e).3 inv.sent

pub one_key : Always OneKey
one_key g s es = one_key_of (after es (start g s)) (always g s es)
