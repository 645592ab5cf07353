-- No rule changes for how many peers an end holds something.
use Rattle.std.proofs.Common.{◌≡◌, ℕ, ◌+◌, Bool, true, false, cond, ◌&&◌, ltb, List, length, set, Some, None, Option, refl, length-set}
use lib.ListN.{length-replicate}
use Rattle.frame.specs.declared.message.Direction.TheVariants.{Up, Down}
use Rattle.frame.specs.declared.message.Message.{Message}
use Rattle.frame.specs.declared.message.Message.TheVariants.{Begin, Reply, Take, Taken, Renew, Load, All}
use Rattle.frame.specs.declared.message.Refusal.{Refusal}
use Rattle.frame.specs.Row.{message_of}
use Rattle.protocol.specs.declared.acts.HandAct.{HandAct}
use Rattle.protocol.specs.declared.acts.HandAct.TheVariants.{SendUp, ForgetHand}
use Rattle.protocol.specs.declared.acts.GateAct.{GateAct}
use Rattle.protocol.specs.declared.acts.GateAct.TheVariants.{Invite, SendDown, Broadcast, Rotate, Rekey, ForgetGate}
use Rattle.protocol.specs.declared.held.GatePeer.{GatePeer}
use Rattle.protocol.specs.declared.held.HandPeer.{HandPeer}
use Rattle.protocol.specs.Held.{HandState, GateState, new_gate_peer, new_hand_peer, nonce_of, pair_of, with_gate_peers, with_hand_draws, with_hand_peers, with_gate_draws, with_group_key, with_group_counter}
use Rattle.protocol.specs.Rules.{Out, quiet, saying, within, has_next, is_body, hand_at, hand_begin, hand_take, hand_renew, hand_load, hand_all, hand_send, hand_hears, hand_acts, gate_peer, gate_at, gate_invite, gate_reply, gate_taken, gate_load, gate_send, gate_rekey, gate_hears, gate_acts, hand_peer}
use Rattle.protocol.specs.Calls.{unless, hand_verdict, gate_verdict, hand_hears_row, gate_hears_row, hand_may, hand_does, gate_may, gate_does}

-- ---- a handheld

module _ (y : HandState) where
  abbrev HandKept : Out HandState → Type 0
  HandKept o = length o.held.peers ≡ length y.peers

  hand_either : (b : Bool) (o p : Out HandState) → HandKept o → HandKept p → HandKept (cond b o p)
  hand_either true o p h k = h
  hand_either false o p h k = k

  hand_at_lem : (d g : ℕ) (rule : GatePeer → Out GatePeer) → HandKept (hand_at d g rule y)
  hand_at_lem d g rule =
      hand_either (ltb g (length y.peers)) (within (λ (x : GatePeer). with_hand_draws d (with_gate_peers (set y.peers g x) y)) (rule (gate_peer g y))) (quiet y) (length-set y.peers g (rule (gate_peer g y)).held) refl

  hand_hears_lem : (s : ℕ) (m : Message) → HandKept (hand_hears s m y)
  hand_hears_lem s (Begin g h a) =
      let rule = hand_begin (pair_of g s a (nonce_of 1 s y.draws)) in
      hand_either (has_next y.draws) (hand_at (y.draws + 1) g rule y) (quiet y) (hand_at_lem (y.draws + 1) g rule) refl
  hand_hears_lem s (Reply p) = refl
  hand_hears_lem s (Take n c p) = hand_at_lem y.draws p.gate (hand_take n c p)
  hand_hears_lem s (Taken p) = refl
  hand_hears_lem s (Renew r n c p) = hand_at_lem y.draws p.gate (hand_renew r n c p)
  hand_hears_lem s (Load Up c b p) = refl
  hand_hears_lem s (Load Down c b p) = hand_at_lem y.draws p.gate (hand_load c b p)
  hand_hears_lem s (All g n c b) = hand_at_lem y.draws g (hand_all g n c b)

  hand_acts_lem : (a : HandAct) → HandKept (hand_acts a y)
  hand_acts_lem (SendUp g b) = hand_at_lem y.draws g (hand_send b)
  hand_acts_lem ForgetHand = length-replicate (length y.peers) new_gate_peer

  hand_unless : (v : Option Refusal) (o : Out HandState) → HandKept o → HandKept (unless v y o)
  hand_unless None o h = h
  hand_unless (Some r) o h = refl

  pub hand_row_size : (g s : ℕ) (row : List ℕ) (t : Bool) → HandKept (hand_hears_row g s row t y)
  unfolding hand_hears_row
  hand_row_size g s row t = hand_unless (hand_verdict g s row t y) (hand_hears s (message_of row) y) (hand_hears_lem s (message_of row))

  pub hand_does_size : (g : ℕ) (a : HandAct) → HandKept (hand_does g a y)
  unfolding hand_does
  hand_does_size g a = hand_either (hand_may g a) (hand_acts a y) (quiet y) (hand_acts_lem a) refl

-- ---- a gate

module _ (y : GateState) where
  abbrev GateKept : Out GateState → Type 0
  GateKept o = length o.held.peers ≡ length y.peers

  gate_either : (b : Bool) (o p : Out GateState) → GateKept o → GateKept p → GateKept (cond b o p)
  gate_either true o p h k = h
  gate_either false o p h k = k

  gate_at_lem : (d g : ℕ) (rule : HandPeer → Out HandPeer) → GateKept (gate_at d g rule y)
  gate_at_lem d g rule =
      gate_either (ltb g (length y.peers)) (within (λ (x : HandPeer). with_gate_draws d (with_hand_peers (set y.peers g x) y)) (rule (hand_peer g y))) (quiet y) (length-set y.peers g (rule (hand_peer g y)).held) refl

  gate_hears_lem : (m : Message) → GateKept (gate_hears m y)
  gate_hears_lem (Begin g h a) = refl
  gate_hears_lem (Reply p) = gate_at_lem y.draws p.hand (gate_reply y.group y.counter p)
  gate_hears_lem (Take n c p) = refl
  gate_hears_lem (Taken p) = gate_at_lem y.draws p.hand (gate_taken p)
  gate_hears_lem (Renew r n c p) = refl
  gate_hears_lem (Load Up c b p) = gate_at_lem y.draws p.hand (gate_load c b p)
  gate_hears_lem (Load Down c b p) = refl
  gate_hears_lem (All g n c b) = refl

  gate_acts_lem : (g : ℕ) (a : GateAct) → GateKept (gate_acts g a y)
  gate_acts_lem g (Invite h) =
      let rule = gate_invite g h (nonce_of 0 g y.draws) in
      gate_either (has_next y.draws) (gate_at (y.draws + 1) h rule y) (quiet y) (gate_at_lem (y.draws + 1) h rule) refl
  gate_acts_lem g (SendDown h b) = gate_at_lem y.draws h (gate_send b)
  gate_acts_lem g (Broadcast b) =
      gate_either (is_body b && has_next y.counter) (saying (with_group_counter (y.counter + 1) y) (All g y.group y.counter b)) (quiet y) refl refl
  gate_acts_lem g Rotate = gate_either (has_next y.group) (quiet (with_group_key (y.group + 1) (with_group_counter 0 y))) (quiet y) refl refl
  gate_acts_lem g (Rekey h) = gate_at_lem y.draws h (gate_rekey y.group y.counter)
  gate_acts_lem g ForgetGate = length-replicate (length y.peers) new_hand_peer

  gate_unless : (v : Option Refusal) (o : Out GateState) → GateKept o → GateKept (unless v y o)
  gate_unless None o h = h
  gate_unless (Some r) o h = refl

  pub gate_row_size : (g s : ℕ) (row : List ℕ) (t : Bool) → GateKept (gate_hears_row g s row t y)
  unfolding gate_hears_row
  gate_row_size g s row t = gate_unless (gate_verdict g s row t y) (gate_hears (message_of row) y) (gate_hears_lem (message_of row))

  pub gate_does_size : (g s : ℕ) (a : GateAct) → GateKept (gate_does g s a y)
  unfolding gate_does
  gate_does_size g s a = gate_either (gate_may s a) (gate_acts g a y) (quiet y) (gate_acts_lem g a) refl
