-- What is printed. Assumes nothing.
use Rattle.std.specs.Prelude.{ℕ, List, ◌++◌, codes, decimal}
use Rattle.std.specs.List.{flat_map}
use Rattle.script.specs.declared.command.Form.{Form}
use Rattle.script.specs.declared.command.Form.TheVariants as form
use Rattle.frame.specs.declared.message.Node.{Node}
use Rattle.frame.specs.declared.message.Node.TheVariants.{Gate, Hand}

-- an end as the lines of a script name it
abbrev pub name_of : Node → List ℕ
name_of (Gate gate) = decimal gate
name_of (Hand hand) = codes "hand " ++ decimal hand

-- each number after one space
abbrev pub row_text : List ℕ → List ℕ
row_text row = flat_map (λ n. codes " " ++ decimal n) row

-- how a line of each form is written: a word in capitals stands for a number
abbrev pub usage_of : Form → List ℕ
usage_of form.Invite = codes "GATE invites HAND"
usage_of form.Send = codes "GATE sends HAND BODY"
usage_of form.Broadcast = codes "GATE all BODY"
usage_of form.Rotate = codes "GATE turns"
usage_of form.Rekey = codes "GATE words HAND"
usage_of form.ForgetGate = codes "GATE forgets"
usage_of form.SendUp = codes "hand HAND sends GATE BODY"
usage_of form.ForgetHand = codes "hand HAND forgets"
usage_of form.Hear = codes "hears HAND PLACE"
usage_of form.Begin = codes "begins GATE HAND KIND NODE INDEX"

-- ---- the lines that are printed

abbrev pub sent_text : (place : ℕ) → (row : List ℕ) → List ℕ
sent_text place row = codes "sent " ++ (decimal place ++ row_text row)

abbrev pub handed_on_text : Node → (row : List ℕ) → List ℕ
handed_on_text node row = name_of node ++ (codes " hands on" ++ row_text row)
