-- A row that is a message's: it is refused, and then nothing happens, or it is heard as the message.
use Rattle.std.proofs.Common.{◌≡◌, ℕ, ◌^◌, ◌<◌, min, Bool, true, false, T, ltb, List, [], ◌∷◌, length, Some, None, Option, sym, refl, subst, arith, lt→ltb}
use Rattle.frame.specs.declared.message.Message.{Message}
use Rattle.frame.specs.declared.message.Refusal.{Refusal}
use Rattle.frame.specs.Row.{code, is_small, is_message, message_of}
use Rattle.frame.proofs.RoundTrip.{message_of-code, code-is_message}
use Rattle.protocol.specs.Held.{HandState, GateState}
use Rattle.protocol.specs.Rules.{Out, quiet, hand_hears, gate_hears}
use Rattle.protocol.specs.Calls.{is_for_hand, is_for_gate, verdict, hand_verdict, gate_verdict, unless, hand_hears_row, gate_hears_row}
use Rattle.protocol.specs.Promise.{Each}
use Rattle.promise.proofs.Base.{and_i, is_true, from_true}

unless_case : {A : Type 0} (R : Out A → Type 0) (v : Option Refusal) (y : A) (o : Out A) → R (quiet y) → R o → R (unless v y o)
unless_case R None y o idle h = h
unless_case R (Some r) y o idle h = idle

no_refusal : (m o : Bool) → T m → T o → verdict m o true ≡ None
no_refusal true true t u = refl
no_refusal true false t u = elim u [ ]
no_refusal false o t u = elim t [ ]

module _ (g s : ℕ) (m : Message) (y : HandState) (R : Out HandState → Type 0) where
  pub hand_row_lem : R (quiet y) → R (hand_hears s m y) → R (hand_hears_row g s (code m) true y)
  unfolding hand_hears_row
  hand_row_lem idle h = unless_case R (hand_verdict g s (code m) true y) y _ idle (subst (λ k. R (hand_hears s k y)) (sym (message_of-code m)) h)

  -- a small row for this handheld is not refused
  pub hand_row_heard : T (is_small (code m)) → T (is_for_hand (min g (length y.peers)) s m) → R (hand_hears s m y) → R (hand_hears_row g s (code m) true y)
  unfolding hand_hears_row hand_verdict
  hand_row_heard small mine h =
      subst (λ v. R (unless v y (hand_hears s (message_of (code m)) y)))
      (sym (no_refusal (is_message (code m)) (is_for_hand (min g (length y.peers)) s (message_of (code m)))
      (from_true _ (code-is_message m (is_true (is_small (code m)) small)))
      (subst (λ k. T (is_for_hand (min g (length y.peers)) s k)) (sym (message_of-code m)) mine)))
      (subst (λ k. R (hand_hears s k y)) (sym (message_of-code m)) h)

module _ (g s : ℕ) (m : Message) (y : GateState) (R : Out GateState → Type 0) where
  pub gate_row_lem : R (quiet y) → R (gate_hears m y) → R (gate_hears_row g s (code m) true y)
  unfolding gate_hears_row
  gate_row_lem idle h = unless_case R (gate_verdict g s (code m) true y) y _ idle (subst (λ k. R (gate_hears k y)) (sym (message_of-code m)) h)

  -- a small row for this gate is not refused
  pub gate_row_heard : T (is_small (code m)) → T (is_for_gate g (min s (length y.peers)) m) → R (gate_hears m y) → R (gate_hears_row g s (code m) true y)
  unfolding gate_hears_row gate_verdict
  gate_row_heard small mine h =
      subst (λ v. R (unless v y (gate_hears (message_of (code m)) y)))
      (sym (no_refusal (is_message (code m)) (is_for_gate g (min s (length y.peers)) (message_of (code m)))
      (from_true _ (code-is_message m (is_true (is_small (code m)) small)))
      (subst (λ k. T (is_for_gate g (min s (length y.peers)) k)) (sym (message_of-code m)) mine)))
      (subst (λ k. R (gate_hears k y)) (sym (message_of-code m)) h)

-- numbers below 2^49 are small
pub small_of : (xs : List ℕ) → Each (λ x. x < 2 ^ 49) xs → T (is_small xs)
unfolding is_small
small_of [] h = tt
small_of (x ∷ xs) h = and_i (ltb x (2 ^ 49)) (is_small xs) (lt→ltb x (2 ^ 49) h.0) (small_of xs h.1)

pub below_min : (i m n : ℕ) → i < m → i < n → T (ltb i (min m n))
below_min i m n a b = lt→ltb i (min m n) (omega arith)
