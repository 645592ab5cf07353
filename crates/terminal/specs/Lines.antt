-- What a line of the programs `hand` and `gate` comes to: which command it is, what the end does for it, and what is
-- printed.
use Rattle.std.specs.Prelude.{◌≡◌, ℕ, ◌+◌, List, [], ◌∷◌, ◌++◌, Some, None, Ok, Err, codes, decimal, Option, Result}
use Rattle.frame.specs.declared.message.Message.{Message}
use Rattle.frame.specs.declared.message.Refusal.{Refusal}
use Rattle.frame.specs.declared.message.Refusal.TheVariants.{NoRow}
use Rattle.frame.specs.Refusals.{refusal_number}
use Rattle.protocol.specs.Held.{HandState, GateState}
use Rattle.protocol.specs.Calls.{hand_act_of, gate_act_of}
use Rattle.protocol.specs.declared.acts.NumberedAct.{NumberedAct}
use Rattle.sealing.specs.Secrets.{Secrets}
use Rattle.endpoint.specs.Effects.{listed}
use Rattle.link.specs.declared.keys.GateKeys.{GateKeys}
use Rattle.link.specs.declared.effect.SealedEffect.{SealedEffect}
use Rattle.link.specs.Answers.{answered, texts}
use Rattle.link.specs.Keys.{Answer, answer_of}
use Rattle.link.specs.Hands.{hand_hears_bytes, hand_acts_bytes}
use Rattle.link.specs.Gates.{GateRing, gate_hears_bytes, gate_acts_bytes}
use Rattle.script.specs.declared.fault.Malformed.{Malformed}
use Rattle.script.specs.Line.{words}
use Rattle.console.specs.declared.command.Command.{Command}
use Rattle.console.specs.declared.command.Command.TheVariants as command
use Rattle.console.specs.declared.command.Form.{Form}
use Rattle.console.specs.declared.delivery.Delivery.{Delivery}
use Rattle.console.specs.declared.answer.Answer.{Answer as Printed}
use Rattle.console.specs.declared.answer.Answer.TheVariants as printed
use Rattle.console.specs.Commands.{Reads}
use Rattle.console.specs.Hex.{hex_text}
use Rattle.console.specs.Text.{delivered_text, answer_text}

-- ---- what is printed of what an end does

abbrev pub say_line : List ℕ → List ℕ
say_line x = codes "say " ++ (hex_text x ++ codes "\n")

-- a line for each message said
abbrev pub say_lines : List (List ℕ) → List ℕ
say_lines [] = codes ""
say_lines (x ∷ []) = say_line x
say_lines (x ∷ y ∷ xs) = say_line x ++ say_lines (y ∷ xs)

-- and for each that is delivered, with whom it is from
abbrev pub hand_on_lines : (Message → Option Delivery) → List Message → List ℕ
hand_on_lines from [] = codes ""
hand_on_lines from (m ∷ []) = delivered_text (from m)
hand_on_lines from (m ∷ n ∷ ms) = delivered_text (from m) ++ hand_on_lines from (n ∷ ms)

-- a refusal, or what is said and then what is handed on
abbrev pub outcome_text : (Message → Option Delivery) → Option Refusal → (says : List (List ℕ)) → (delivers : List Message) → List ℕ
outcome_text from (Some e) says delivers = codes "refused " ++ (decimal (refusal_number e) ++ codes "\n")
outcome_text from None says delivers = say_lines says ++ hand_on_lines from delivers

-- the text for an effect or a refusal
abbrev pub effect_text : (Message → Option Delivery) → Result SealedEffect Refusal → List ℕ
effect_text from (Ok e) = outcome_text from None (texts e.says) (listed e.delivers)
effect_text from (Err r) = outcome_text from (Some r) [] []

-- the text is that of what the end does, and so is what it holds afterwards, z and ks
pub record Comes {A K : Type 0} (from : Message → Option Delivery) (o : Answer A K) (a : Printed) (z : A) (ks : K) : Type 0 where
  pub text : answer_text a ≡ outcome_text from o.refusal o.says o.delivers
  pub held : z ≡ o.held
  pub keys : ks ≡ o.keys

-- this is answered, and nothing has moved
pub record Stays {A K : Type 0} (answer : Printed) (y : A) (js : K) (a : Printed) (z : A) (ks : K) : Type 0 where
  pub said : a ≡ answer
  pub held : z ≡ y
  pub keys : ks ≡ js

-- ---- what an end does for a line, as it reads; `hears` and `acts` say what it does with bytes and with an act

abbrev pub complaint : (number : ℕ) → Malformed Form → Printed
complaint n e = printed.Complaint (record { line = n; fault = e })

-- what can be no row is refused as such
abbrev pub does : {A K : Type 0} → (hears : List ℕ → A → K → Answer A K) → (acts : NumberedAct → A → K → Answer A K) → Command → A → K → Answer A K
does hears acts (command.Hear (Some x)) y ks = hears x y ks
does hears acts (command.Hear None) y ks = answered (Err NoRow) y ks
does hears acts (command.Act a) y ks = acts a y ks

abbrev pub Does : {A K : Type 0} → (hears : List ℕ → A → K → Answer A K) → (acts : NumberedAct → A → K → Answer A K) → (from : Message → Option Delivery) → (number : ℕ) → Result (Option Command) (Malformed Form) → A → K → Printed → A → K → Type 0
Does hears acts from n (Ok None) y ks = Stays printed.Nothing y ks
Does hears acts from n (Ok (Some c)) y ks = Comes from (does hears acts c y ks)
Does hears acts from n (Err e) y ks = Stays (complaint n e) y ks

-- a line with this number
abbrev pub Plays : {A K : Type 0} → (hears : List ℕ → A → K → Answer A K) → (acts : NumberedAct → A → K → Answer A K) → (from : Message → Option Delivery) → (number : ℕ) → (line : List ℕ) → A → K → Printed → A → K → Type 0
Plays hears acts from n line y ks a z js = (x : Result (Option Command) (Malformed Form)) × Reads (words line) x × Does hears acts from n x y ks a z js

-- lines one after the other, the first of them with the number n
abbrev pub PlaysAll : {A K : Type 0} → (plays : ℕ → List ℕ → A → K → Printed → A → K → Type 0) → (n : ℕ) → (lines : List (List ℕ)) → A → K → A → K → Type 0
PlaysAll plays n [] y ks z js = (z ≡ y) × (js ≡ ks)
PlaysAll {A} {K} plays n (l ∷ ls) y ks z js = (a : Printed) × (x : A) × (hs : K) × plays n l y ks a x hs × PlaysAll plays (n + 1) ls x hs z js

-- ---- the two ends

-- handheld s
abbrev pub hand_hears : Secrets → (s : ℕ) → List ℕ → HandState → List GateKeys → Answer HandState (List GateKeys)
hand_hears v s x y ks = answer_of v.hash (hand_hears_bytes v s x y ks)

abbrev pub hand_acts : Secrets → (s : ℕ) → NumberedAct → HandState → List GateKeys → Answer HandState (List GateKeys)
hand_acts v s a y ks = answer_of v.hash (hand_acts_bytes (hand_act_of a.kind a.peer a.body) y ks)

-- gate g
abbrev pub gate_hears : Secrets → (g : ℕ) → List ℕ → GateState → GateRing → Answer GateState GateRing
gate_hears v g x y r = answer_of v.hash (gate_hears_bytes v g x y r)

abbrev pub gate_acts : Secrets → (g : ℕ) → NumberedAct → GateState → GateRing → Answer GateState GateRing
gate_acts v g a y r = answer_of v.hash (gate_acts_bytes v g (gate_act_of a.kind a.peer a.body) y r)
