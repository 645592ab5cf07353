-- What a program prints.
use Rattle.std.specs.Prelude.{ℕ, List, ◌++◌, Some, None, codes, decimal, Option}
use Rattle.std.specs.Fmt.{with_newline}
use Rattle.frame.specs.Refusals.{refusal_number}
use Rattle.octets.specs.declared.buffer.Octets.{Octets}
use Rattle.script.specs.Faults.{complaint_text, fault_text}
use Rattle.console.specs.declared.answer.Answer.{Answer}
use Rattle.console.specs.declared.answer.Answer.TheVariants as answer
use Rattle.console.specs.declared.command.Form.{Form}
use Rattle.console.specs.declared.command.Form.TheVariants as form
use Rattle.console.specs.declared.delivery.Delivery.{Delivery}
use Rattle.console.specs.Hex.{hex_text}

-- how a line of each form is written: a word in capitals stands for what differs
abbrev pub usage_of : Form → List ℕ
usage_of form.Hear = codes "hear HEX"
usage_of form.Act = codes "act K N BODY"

abbrev pub say_text : Octets → List ℕ
say_text o = codes "say " ++ hex_text o

abbrev pub said_text : Option Octets → List ℕ
said_text None = codes ""
said_text (Some o) = say_text o ++ codes "\n"

abbrev pub hand_on_text : Delivery → List ℕ
hand_on_text d = codes "hand on " ++ (decimal d.peer ++ (codes " " ++ decimal d.body))

abbrev pub delivered_text : Option Delivery → List ℕ
delivered_text None = codes ""
delivered_text (Some d) = hand_on_text d ++ codes "\n"

-- the line of a text that is shown so, if there is one
abbrev pub line_of : {T : Type 0} → (T → Option (List ℕ)) → Option T → Option (List ℕ)
line_of shown None = Some (codes "")
line_of shown (Some x) = with_newline (shown x)

-- what is said comes before what is handed on
abbrev pub answer_text : Answer → List ℕ
answer_text answer.Nothing = codes ""
answer_text (answer.Refused e) = codes "refused " ++ (decimal (refusal_number e) ++ codes "\n")
answer_text (answer.Done said delivered) = said_text said ++ delivered_text delivered
answer_text (answer.Complaint c) = complaint_text c.line (fault_text usage_of c.fault) ++ codes "\n"
