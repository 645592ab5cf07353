-- What may say nothing adds no message, so that no more are sent than there is place for.
use Rattle.std.proofs.Common.{◌≡◌, ℕ, ◌+◌, ◌<◌, ◌≤◌, Bool, true, false, cond, ◌&&◌, ltb, leb, List, [], ◌++◌, length, Some, None, Ok, Err, Option, Result, sym, refl, ap, ◌∙◌, subst, arith}
use Rattle.frame.specs.declared.message.Node.{Node}
use Rattle.frame.specs.declared.message.Node.TheVariants.{Gate, Hand}
use Rattle.frame.specs.declared.message.Pair.{Pair}
use Rattle.frame.specs.declared.message.Direction.{Direction}
use Rattle.frame.specs.declared.message.Direction.TheVariants.{Up, Down}
use Rattle.frame.specs.declared.message.Message.{Message}
use Rattle.frame.specs.declared.message.Message.TheVariants.{Begin, Reply, Take, Taken, Renew, Load, All}
use Rattle.frame.specs.declared.message.Refusal.{Refusal}
use Rattle.frame.specs.Row.{code, message_of}
use Rattle.frame.proofs.RoundTrip.{message_of-code}
use Rattle.protocol.specs.declared.held.Endpoint.{Endpoint}
use Rattle.protocol.specs.declared.held.GatePeer.{GatePeer}
use Rattle.protocol.specs.declared.held.HandPeer.{HandPeer}
use Rattle.protocol.specs.declared.acts.HandAct.TheVariants.{ForgetHand}
use Rattle.protocol.specs.declared.acts.GateAct.TheVariants.{Rotate, ForgetGate}
use Rattle.protocol.specs.Held.{HandState, GateState}
use Rattle.protocol.specs.Rules.{Out, quiet, end_hears, gate_peer, hand_at, hand_renew, hand_load, hand_all, hand_hears, hand_peer, gate_at, gate_taken, gate_load, gate_hears}
use Rattle.protocol.specs.Calls.{unless, hand_verdict, gate_verdict, hand_hears_row, gate_hears_row, hand_does, gate_does}
use Rattle.protocol.specs.World.{Entry, World, logged, gate, hand, put_gate, put_hand, heard_by, may_be_heard, hearer, Hears, happens}
use Rattle.script.specs.declared.command.Command.{Command}
use Rattle.script.specs.declared.command.Command.TheVariants as command
use Rattle.simulator.specs.declared.log.Line.{Line}
use Rattle.simulator.specs.declared.log.Played.{Played}
use Rattle.simulator.specs.declared.log.Unplayed.{Unplayed}
use Rattle.simulator.specs.declared.log.Unplayed.TheVariants.{Absent, Full, NoMemory}
use Rattle.simulator.specs.Model.{added}
use Rattle.simulator.specs.Play.{sent_at, goes_on, is_answered, may_say, plays, Plays}

-- ---- an end

one_of : {A : Type 0} (b : Bool) (x y : Out A) → x.says ≡ [] → y.says ≡ [] → (cond b x y).says ≡ []
one_of true x y p q = p
one_of false x y p q = q

end_hears_lem : (d : Direction) (c b : ℕ) (p : Pair) (e : Endpoint) → (end_hears d c b p e).says ≡ []
end_hears_lem d c b p e = one_of _ _ (quiet e) refl refl

module _ (y : HandState) where
  hand_at_lem : (d g : ℕ) (rule : GatePeer → Out GatePeer) → (rule (gate_peer g y)).says ≡ [] → (hand_at d g rule y).says ≡ []
  hand_at_lem d g rule r = one_of (ltb g (length y.peers)) _ (quiet y) r refl

  hand_mute : (s : ℕ) (m : Message) → is_answered m ≡ false → (hand_hears s m y).says ≡ []
  hand_mute s (Begin g h a) e = grind arith
  hand_mute s (Reply p) e = refl
  hand_mute s (Take n c p) e = grind arith
  hand_mute s (Taken p) e = refl
  hand_mute s (Renew r n c p) e = hand_at_lem y.draws p.gate (hand_renew r n c p) (one_of _ _ (quiet (gate_peer p.gate y)) refl refl)
  hand_mute s (Load Up c b p) e = refl
  hand_mute s (Load Down c b p) e = hand_at_lem y.draws p.gate (hand_load c b p) (end_hears_lem Down c b p (gate_peer p.gate y).end)
  hand_mute s (All g n c b) e = hand_at_lem y.draws g (hand_all g n c b) (one_of _ _ (quiet (gate_peer g y)) refl refl)

  hand_unless : (v : Option Refusal) (o : Out HandState) → o.says ≡ [] → (unless v y o).says ≡ []
  hand_unless None o e = e
  hand_unless (Some r) o e = refl

  hand_row_mute : (g s : ℕ) (m : Message) → is_answered m ≡ false → (hand_hears_row g s (code m) true y).says ≡ []
  unfolding hand_hears_row
  hand_row_mute g s m e =
      hand_unless (hand_verdict g s (code m) true y) (hand_hears s (message_of (code m)) y)
      (subst (λ (x : Message). (hand_hears s x y).says ≡ []) (sym (message_of-code m)) (hand_mute s m e))

  hand_forgets_mute : (g : ℕ) → (hand_does g ForgetHand y).says ≡ []
  unfolding hand_does
  hand_forgets_mute g = refl

module _ (y : GateState) where
  gate_at_lem : (d h : ℕ) (rule : HandPeer → Out HandPeer) → (rule (hand_peer h y)).says ≡ [] → (gate_at d h rule y).says ≡ []
  gate_at_lem d h rule r = one_of (ltb h (length y.peers)) _ (quiet y) r refl

  gate_mute : (m : Message) → is_answered m ≡ false → (gate_hears m y).says ≡ []
  gate_mute (Begin g h a) e = refl
  gate_mute (Reply p) e = grind arith
  gate_mute (Take n c p) e = refl
  gate_mute (Taken p) e = gate_at_lem y.draws p.hand (gate_taken p) (one_of _ _ (quiet (hand_peer p.hand y)) refl refl)
  gate_mute (Renew r n c p) e = refl
  gate_mute (Load Up c b p) e = gate_at_lem y.draws p.hand (gate_load c b p) (end_hears_lem Up c b p (hand_peer p.hand y).end)
  gate_mute (Load Down c b p) e = refl
  gate_mute (All g n c b) e = refl

  gate_unless : (v : Option Refusal) (o : Out GateState) → o.says ≡ [] → (unless v y o).says ≡ []
  gate_unless None o e = e
  gate_unless (Some r) o e = refl

  gate_row_mute : (g s : ℕ) (m : Message) → is_answered m ≡ false → (gate_hears_row g s (code m) true y).says ≡ []
  unfolding gate_hears_row
  gate_row_mute g s m e =
      gate_unless (gate_verdict g s (code m) true y) (gate_hears (message_of (code m)) y)
      (subst (λ (x : Message). (gate_hears x y).says ≡ []) (sym (message_of-code m)) (gate_mute m e))

  gate_rotates_mute : (g s : ℕ) → (gate_does g s Rotate y).says ≡ []
  unfolding gate_does
  gate_rotates_mute g s = one_of _ _ (quiet y) refl refl

  gate_forgets_mute : (g s : ℕ) → (gate_does g s ForgetGate y).says ≡ []
  unfolding gate_does
  gate_forgets_mute g s = refl

-- ---- the world

module _ (w : World) where
  gate_adds_none : (b : Bool) (g : ℕ) (o : Out GateState) → o.says ≡ [] → (cond b (put_gate g o w) w).transcript ≡ w.transcript
  gate_adds_none true g o e = ap (λ (ms : List Message). logged (Gate g) ms w.transcript) e
  gate_adds_none false g o e = refl

  hand_adds_none : (b : Bool) (h : ℕ) (o : Out HandState) → o.says ≡ [] → (cond b (put_hand h o w) w).transcript ≡ w.transcript
  hand_adds_none true h o e = ap (λ (ms : List Message). logged (Hand h) ms w.transcript) e
  hand_adds_none false h o e = refl

  heard_adds_none : (k : Node) (m : Message) → is_answered m ≡ false → (heard_by k (code m) w).transcript ≡ w.transcript
  heard_adds_none (Gate g) m e = gate_adds_none (ltb g (length w.gates)) g (gate_hears_row g (length w.hands) (code m) true (gate g w)) (gate_row_mute (gate g w) g (length w.hands) m e)
  heard_adds_none (Hand h) m e = hand_adds_none (ltb h (length w.hands)) h (hand_hears_row (length w.gates) h (code m) true (hand h w)) (hand_row_mute (hand h w) (length w.gates) h m e)

  hears_adds_none : (s : ℕ) (m : Message) → is_answered m ≡ false → (happens (Hears s m) w).transcript ≡ w.transcript
  hears_adds_none s m e = either (may_be_heard m w.transcript)
    where
      either : (b : Bool) → (cond b (heard_by (hearer s m) (code m) w) w).transcript ≡ w.transcript
      either true = heard_adds_none (hearer s m) m e
      either false = refl

  adds_none : (c : Command) → may_say c w ≡ false → (plays c w).transcript ≡ w.transcript
  adds_none (command.Invite g h) e = grind arith
  adds_none (command.Send g h b) e = grind arith
  adds_none (command.Broadcast g b) e = grind arith
  adds_none (command.Rotate g) e = gate_adds_none (ltb g (length w.gates)) g (gate_does g (length w.hands) Rotate (gate g w)) (gate_rotates_mute (gate g w) g (length w.hands))
  adds_none (command.Rekey g h) e = grind arith
  adds_none (command.ForgetGate g) e = gate_adds_none (ltb g (length w.gates)) g (gate_does g (length w.hands) ForgetGate (gate g w)) (gate_forgets_mute (gate g w) g (length w.hands))
  adds_none (command.SendUp h g b) e = grind arith
  adds_none (command.ForgetHand h) e = hand_adds_none (ltb h (length w.hands)) h (hand_does (length w.gates) ForgetHand (hand h w)) (hand_forgets_mute (hand h w) (length w.gates))
  adds_none (command.Hear h n) e = either (ltb n (length w.transcript)) e
    where
      either : (b : Bool) → (b && is_answered (sent_at n w)) ≡ false → (goes_on (cond b (Some (Hears h (sent_at n w))) None) w).transcript ≡ w.transcript
      either true e = hears_adds_none h (sent_at n w) e
      either false e = refl
  adds_none (command.Begin g h a) e = grind arith

-- ---- at most 10,000

adds_one : (o : Option Line) (es : List Entry) → length (added o ++ es) ≤ length es + 1
adds_one None es = omega arith
adds_one (Some l) es = omega arith

pub few_played : (w v : World) (c : Command) (r : Result Played Unplayed) → Plays r c w v → length w.transcript ≤ 10000 → length v.transcript ≤ 10000
few_played w v c (Ok p) h few = either (leb 10000 (length w.transcript)) refl h.0
  where
    same : v.transcript ≡ added p.sent ++ w.transcript
    same = h.3.1

    either : (b : Bool) → leb 10000 (length w.transcript) ≡ b → (b && may_say c w) ≡ false → length v.transcript ≤ 10000
    either true e m = subst (λ (es : List Entry). length es ≤ 10000) (sym (ap (λ (x : World). x.transcript) h.2 ∙ adds_none w c m)) few
    either false e m =
        let one = adds_one p.sent w.transcript in
        let long = ap (λ (es : List Entry). length es) same in
        let below : length w.transcript < 10000 = grind arith in
        omega arith
few_played w v c (Err Absent) h few = subst (λ (x : World). length x.transcript ≤ 10000) (sym h.2) few
few_played w v c (Err Full) h few = subst (λ (x : World). length x.transcript ≤ 10000) (sym h.1) few
few_played w v c (Err NoMemory) h few = subst (λ (x : World). length x.transcript ≤ 10000) (sym h) few
