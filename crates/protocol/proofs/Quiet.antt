-- What an end does of itself delivers nothing.
use Rattle.std.proofs.Common.{◌≡◌, ℕ, Bool, true, false, cond, ltb, [], length, Some, None, Option, refl}
use Rattle.frame.specs.declared.message.Pair.{Pair}
use Rattle.frame.specs.declared.message.Direction.{Direction}
use Rattle.protocol.specs.declared.held.Endpoint.{Endpoint}
use Rattle.protocol.specs.Held.{HandState, GateState}
use Rattle.protocol.specs.declared.acts.HandAct.{HandAct}
use Rattle.protocol.specs.declared.acts.HandAct.TheVariants.{SendUp, ForgetHand}
use Rattle.protocol.specs.declared.acts.GateAct.{GateAct}
use Rattle.protocol.specs.declared.acts.GateAct.TheVariants.{Invite, SendDown, Broadcast, Rotate, Rekey, ForgetGate}
use Rattle.protocol.specs.Rules.{Out, quiet, end_sends_by, end_rekeys_by, gate_peer, hand_acts, hand_peer, gate_acts}
use Rattle.protocol.specs.Calls.{hand_may, hand_does, gate_may, gate_does}

-- either way
one_of : {A : Type 0} (b : Bool) (x y : Out A) → x.delivers ≡ [] → y.delivers ≡ [] → (cond b x y).delivers ≡ []
one_of true x y p q = p
one_of false x y p q = q

sends : (k : Option Pair) (d : Direction) (b : ℕ) (e : Endpoint) → (end_sends_by k d b e).delivers ≡ []
sends None d b e = refl
sends (Some p) d b e = one_of _ _ (quiet e) refl refl

rekeys : (k : Option Pair) (n c : ℕ) (e : Endpoint) → (end_rekeys_by k n c e).delivers ≡ []
rekeys None n c e = refl
rekeys (Some p) n c e = one_of _ _ (quiet e) refl refl

hand_acts_lem : (a : HandAct) (y : HandState) → (hand_acts a y).delivers ≡ []
hand_acts_lem (SendUp g b) y = one_of (ltb g (length y.peers)) _ (quiet y) (sends (gate_peer g y).end.key _ b (gate_peer g y).end) refl
hand_acts_lem ForgetHand y = refl

gate_acts_lem : (g : ℕ) (a : GateAct) (y : GateState) → (gate_acts g a y).delivers ≡ []
gate_acts_lem g (Invite h) y = one_of _ _ (quiet y) (one_of (ltb h (length y.peers)) _ (quiet y) refl refl) refl
gate_acts_lem g (SendDown h b) y = one_of (ltb h (length y.peers)) _ (quiet y) (sends (hand_peer h y).end.key _ b (hand_peer h y).end) refl
gate_acts_lem g (Broadcast b) y = one_of _ _ (quiet y) refl refl
gate_acts_lem g Rotate y = one_of _ _ (quiet y) refl refl
gate_acts_lem g (Rekey h) y = one_of (ltb h (length y.peers)) _ (quiet y) (rekeys (hand_peer h y).end.key _ _ (hand_peer h y).end) refl
gate_acts_lem g ForgetGate y = refl

pub hand_delivers_nothing : (g : ℕ) (a : HandAct) (y : HandState) → (hand_does g a y).delivers ≡ []
unfolding hand_does
hand_delivers_nothing g a y = one_of (hand_may g a) (hand_acts a y) (quiet y) (hand_acts_lem a y) refl

pub gate_delivers_nothing : (g s : ℕ) (a : GateAct) (y : GateState) → (gate_does g s a y).delivers ≡ []
unfolding gate_does
gate_delivers_nothing g s a y = one_of (gate_may s a) (gate_acts g a y) (quiet y) (gate_acts_lem g a y) refl
