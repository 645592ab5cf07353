-- The commands of a program, as its lines have them.
use Rattle.std.specs.Prelude.{◌≡◌, ℕ, ◌≤◌, List, [], ◌∷◌, map, length, None, Ok, Err, codes, Option, Result}
use Rattle.script.specs.declared.fault.Malformed.{Malformed}
use Rattle.script.specs.declared.fault.Malformed.TheVariants.{Expected}
use Rattle.script.specs.Commands.{quiet}
use Rattle.script.specs.Line.{Number, number_of, part_by}
use Rattle.script.specs.Reading.{ReadsBy}
use Rattle.console.specs.declared.command.Command.{Command}
use Rattle.console.specs.declared.command.Command.TheVariants as command
use Rattle.console.specs.declared.command.Form.{Form}
use Rattle.console.specs.declared.command.Form.TheVariants as form
use Rattle.console.specs.Hex.{message_bytes}

-- a line's first word
abbrev pub spelling : Form → List ℕ
spelling form.Hear = codes "hear"
spelling form.Act = codes "act"

abbrev pub form_of : Command → Form
form_of (command.Hear heard) = form.Hear
form_of (command.Act a) = form.Act

-- the bytes behind `hear`, if the words there write any
abbrev pub heard_bytes : List (List ℕ) → Option (List ℕ)
heard_bytes [] = None
heard_bytes (w ∷ ws) = message_bytes w

-- the words behind the first, for each command
abbrev pub Follows : List (List ℕ) → Command → Type 0
Follows ws (command.Hear heard) = (length ws ≤ 1) × (heard_bytes ws ≡ heard)
Follows ws (command.Act a) = map (λ w. part_by w (number_of w)) ws ≡ Number a.kind ∷ Number a.peer ∷ Number a.body ∷ []

-- the words of each command
abbrev pub Says : List (List ℕ) → Command → Type 0
Says ws c = (rest : List (List ℕ)) × (ws ≡ spelling (form_of c) ∷ rest) × Follows rest c

abbrev pub Begins : List (List ℕ) → Form → Type 0
Begins ws f = (rest : List (List ℕ)) × (ws ≡ spelling f ∷ rest)

-- what a line of these words is read as; one of no words, or a comment, says nothing
abbrev pub Reads : List (List ℕ) → Result (Option Command) (Malformed Form) → Type 0
Reads ws = ReadsBy (quiet ws) (Says ws) (Begins ws)

-- what a line of this form is read as, with these words behind the first
abbrev pub Completed : Form → List (List ℕ) → Result Command (Malformed Form) → Type 0
Completed f ws (Ok c) = (form_of c ≡ f) × Follows ws c
Completed f ws (Err e) = (e ≡ Expected f) × ((c : Command) → form_of c ≡ f → Follows ws c → ⊥)
