-- What one end does with a row of numbers that it hears, and with an act that is asked of it by its number.
use Rattle.std.specs.Prelude.{◌≡◌, ℕ, min, Bool, true, false, cond, not, ◌&&◌, ◌||◌, List, [], ◌∷◌, length, Some, None, Option, ◌==◌, nat_lt}
use Rattle.frame.specs.declared.message.Pair.{Pair}
use Rattle.frame.specs.declared.message.Direction.TheVariants.{Up, Down}
use Rattle.frame.specs.declared.message.Message.{Message}
use Rattle.frame.specs.declared.message.Message.TheVariants.{Begin, Reply, Take, Taken, Renew, Load, All}
use Rattle.frame.specs.declared.message.Refusal.{Refusal}
use Rattle.frame.specs.declared.message.Refusal.TheVariants.{NoMessage, NotForThisEnd, WrongTag}
use Rattle.frame.specs.Row.{code, padded, is_message, message_of}
use Rattle.frame.specs.Refusals.{refusal_number}
use Rattle.protocol.specs.Held.{HandState, GateState}
use Rattle.protocol.specs.declared.acts.HandAct.{HandAct}
use Rattle.protocol.specs.declared.acts.HandAct.TheVariants.{SendUp, ForgetHand}
use Rattle.protocol.specs.declared.acts.GateAct.{GateAct}
use Rattle.protocol.specs.declared.acts.GateAct.TheVariants.{Invite, SendDown, Broadcast, Rotate, Rekey, ForgetGate}
use Rattle.protocol.specs.Rules.{Out, quiet, hand_hears, hand_acts, gate_hears, gate_acts}

-- ---- whom a message is for

-- handheld s, where there are g gates
abbrev pub pair_for_hand : (g s : ℕ) → Pair → Bool
pair_for_hand g s p = nat_lt p.gate g && p.hand == s

abbrev pub is_for_hand : (g s : ℕ) → Message → Bool
is_for_hand g s (Begin i h a) = nat_lt i g && h == s
is_for_hand g s (Reply p) = false
is_for_hand g s (Take n c p) = pair_for_hand g s p
is_for_hand g s (Taken p) = false
is_for_hand g s (Renew r n c p) = pair_for_hand g s p
is_for_hand g s (Load Up c b p) = false
is_for_hand g s (Load Down c b p) = pair_for_hand g s p
is_for_hand g s (All i n c b) = nat_lt i g

-- gate g, where there are s handhelds
abbrev pub pair_for_gate : (g s : ℕ) → Pair → Bool
pair_for_gate g s p = p.gate == g && nat_lt p.hand s

abbrev pub is_for_gate : (g s : ℕ) → Message → Bool
is_for_gate g s (Begin i h a) = false
is_for_gate g s (Reply p) = pair_for_gate g s p
is_for_gate g s (Take n c p) = false
is_for_gate g s (Taken p) = pair_for_gate g s p
is_for_gate g s (Renew r n c p) = false
is_for_gate g s (Load Up c b p) = pair_for_gate g s p
is_for_gate g s (Load Down c b p) = false
is_for_gate g s (All i n c b) = false

-- a begin has no tag, so that anybody may say one
abbrev pub is_tagged : Message → Bool
is_tagged (Begin g h a) = false
is_tagged (Reply p) = true
is_tagged (Take n c p) = true
is_tagged (Taken p) = true
is_tagged (Renew r n c p) = true
is_tagged (Load d c b p) = true
is_tagged (All g n c b) = true

-- ---- the verdict on a row: the first refusal that applies, or none

abbrev pub verdict : (message ours authentic : Bool) → Option Refusal
verdict m o a = cond (not m) (Some NoMessage) (cond (not o) (Some NotForThisEnd) (cond (not a) (Some WrongTag) None))

-- by whom a message is for, and whether its tag was right
abbrev pub verdict_on : (is_for : Message → Bool) → (row : List ℕ) → (genuine : Bool) → Option Refusal
verdict_on is_for row genuine = verdict (is_message row) (is_for (message_of row)) (genuine || not (is_tagged (message_of row)))

-- the code that a call answers: 0, or the refusal's number
abbrev pub code_of : Option Refusal → ℕ
code_of None = 0
code_of (Some r) = refusal_number r

-- what handheld s makes of a row, where the caller counts g gates; gates beyond those that it holds do not count
unfoldable pub hand_verdict : (g s : ℕ) → (row : List ℕ) → (genuine : Bool) → HandState → Option Refusal
hand_verdict g s row genuine y = verdict_on (is_for_hand (min g (length y.peers)) s) row genuine

-- and gate g, where the caller counts s handhelds
unfoldable pub gate_verdict : (g s : ℕ) → (row : List ℕ) → (genuine : Bool) → GateState → Option Refusal
gate_verdict g s row genuine y = verdict_on (is_for_gate g (min s (length y.peers))) row genuine

-- ---- hearing a row

abbrev pub unless : {A : Type 0} → Option Refusal → A → Out A → Out A
unless None y o = o
unless (Some r) y o = quiet y

unfoldable pub hand_hears_row : (g s : ℕ) → (row : List ℕ) → (genuine : Bool) → HandState → Out HandState
hand_hears_row g s row genuine y = unless (hand_verdict g s row genuine y) y (hand_hears s (message_of row) y)

unfoldable pub gate_hears_row : (g s : ℕ) → (row : List ℕ) → (genuine : Bool) → GateState → Out GateState
gate_hears_row g s row genuine y = unless (gate_verdict g s row genuine y) y (gate_hears (message_of row) y)

-- A refused row changes nothing, says nothing and delivers nothing.
abbrev pub RefusedIsQuiet : Type 0
RefusedIsQuiet =
    (g s : ℕ) (row : List ℕ) (genuine : Bool) (r : Refusal) →
    ((y : HandState) → hand_verdict g s row genuine y ≡ Some r → hand_hears_row g s row genuine y ≡ quiet y)
    × ((y : GateState) → gate_verdict g s row genuine y ≡ Some r → gate_hears_row g s row genuine y ≡ quiet y)

-- ---- acts: by number, and only towards peers that the caller counts

abbrev pub hand_act_of : (kind gate body : ℕ) → HandAct
hand_act_of k g b = cond (k == 0) (SendUp g b) ForgetHand

abbrev pub gate_act_of : (kind hand body : ℕ) → GateAct
gate_act_of k h b =
    cond (k == 0) (Invite h) (cond (k == 1) (SendDown h b) (cond (k == 2) (Broadcast b) (cond (k == 3) Rotate (cond (k == 4) (Rekey h) ForgetGate))))

-- where there are g gates
abbrev pub hand_may : (g : ℕ) → HandAct → Bool
hand_may g (SendUp i b) = nat_lt i g
hand_may g ForgetHand = true

-- where there are s handhelds
abbrev pub gate_may : (s : ℕ) → GateAct → Bool
gate_may s (Invite h) = nat_lt h s
gate_may s (SendDown h b) = nat_lt h s
gate_may s (Broadcast b) = true
gate_may s Rotate = true
gate_may s (Rekey h) = nat_lt h s
gate_may s ForgetGate = true

unfoldable pub hand_does : (g : ℕ) → HandAct → HandState → Out HandState
hand_does g a y = cond (hand_may g a) (hand_acts a y) (quiet y)

unfoldable pub gate_does : (self s : ℕ) → GateAct → GateState → Out GateState
gate_does g s a y = cond (gate_may s a) (gate_acts g a y) (quiet y)

-- ---- a call as a whole: what is held afterwards, the code, and the rows said and delivered, in twelve places each

-- the row of what is said or delivered, none if nothing is
abbrev pub row_of : List Message → List ℕ
row_of [] = []
row_of (m ∷ ms) = code m

pub record Call (A : Type 0) : Type 0 where
  pub held : A
  pub code : ℕ
  pub said : ℕ
  pub delivered : ℕ
  pub says : List ℕ
  pub delivers : List ℕ

abbrev pub call_of : {A : Type 0} → ℕ → Out A → Call A
call_of k o =
    record { held = o.held; code = k; said = length (row_of o.says); delivered = length (row_of o.delivers); says = padded 12 (row_of o.says); delivers = padded 12 (row_of o.delivers) }

unfoldable pub hand_hearing : (g s : ℕ) → (row : List ℕ) → (genuine : Bool) → HandState → Call HandState
hand_hearing g s row genuine y = call_of (code_of (hand_verdict g s row genuine y)) (hand_hears_row g s row genuine y)

unfoldable pub gate_hearing : (g s : ℕ) → (row : List ℕ) → (genuine : Bool) → GateState → Call GateState
gate_hearing g s row genuine y = call_of (code_of (gate_verdict g s row genuine y)) (gate_hears_row g s row genuine y)

-- an act is never refused, and delivers nothing
unfoldable pub hand_acting : (g kind gate body : ℕ) → HandState → Call HandState
hand_acting g k i b y = call_of 0 (hand_does g (hand_act_of k i b) y)

unfoldable pub gate_acting : (self s kind hand body : ℕ) → GateState → Call GateState
gate_acting g s k h b y = call_of 0 (gate_does g s (gate_act_of k h b) y)
