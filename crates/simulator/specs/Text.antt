-- What is printed of an answer.
use Rattle.std.specs.Prelude.{ℕ, List, ◌++◌, Some, None, codes, decimal, Option}
use Rattle.frame.specs.Row.{code}
use Rattle.script.specs.Faults.{complaint_text, fault_text}
use Rattle.script.specs.Text.{handed_on_text, sent_text, usage_of}
use Rattle.simulator.specs.declared.log.Line.{Line}
use Rattle.simulator.specs.declared.log.Played.{Played}
use Rattle.simulator.specs.declared.answer.Answer.{Answer}
use Rattle.simulator.specs.declared.answer.Answer.TheVariants as answer

abbrev pub sent_line : (place : ℕ) → Option Line → List ℕ
sent_line place None = codes ""
sent_line place (Some l) = sent_text place (code l.message) ++ codes "\n"

abbrev pub delivered_line : Option Line → List ℕ
delivered_line None = codes ""
delivered_line (Some l) = handed_on_text l.node (code l.message) ++ codes "\n"

-- the message that was sent, then the one that was delivered
abbrev pub played_text : Played → List ℕ
played_text p = sent_line p.place p.sent ++ delivered_line p.delivered

abbrev pub answer_text : Answer → List ℕ
answer_text answer.Nothing = codes ""
answer_text (answer.Played p) = played_text p
answer_text (answer.Complaint c) = complaint_text c.line (fault_text usage_of c.fault) ++ codes "\n"
answer_text (answer.Absent n) = codes "line " ++ (decimal n ++ codes ": no such gate or handheld\n")
answer_text answer.Full = codes "full\n"
answer_text answer.NoMemory = codes "out of memory\n"
