-- The commands of a script, as they are written. Assumes nothing.
use Rattle.std.specs.Prelude.{◌≡◌, ℕ, Bool, true, List, [], ◌∷◌, ◌++◌, codes, Option, Result, ◌==◌, slice_index}
use Rattle.script.specs.declared.command.Command.{Command}
use Rattle.script.specs.declared.command.Command.TheVariants as command
use Rattle.script.specs.declared.command.Form.{Form}
use Rattle.script.specs.declared.command.Form.TheVariants as form
use Rattle.script.specs.declared.command.Keyword.{Keyword}
use Rattle.script.specs.declared.command.Keyword.TheVariants as keyword
use Rattle.script.specs.declared.fault.Malformed.{Malformed}
use Rattle.script.specs.Line.{Part, Number, Word, parts, words}
use Rattle.script.specs.Reading.{NamesBy, AnsweredBy, ReadsBy}

abbrev pub spelling : Keyword → List ℕ
spelling keyword.Hand = codes "hand"
spelling keyword.Hears = codes "hears"
spelling keyword.Begins = codes "begins"
spelling keyword.Invites = codes "invites"
spelling keyword.Sends = codes "sends"
spelling keyword.All = codes "all"
spelling keyword.Turns = codes "turns"
spelling keyword.Words = codes "words"
spelling keyword.Forgets = codes "forgets"

-- the words of each command
abbrev pub written : Command → List Part
written (command.Invite gate hand) = Number gate ∷ Word (codes "invites") ∷ Number hand ∷ []
written (command.Send gate hand body) = Number gate ∷ Word (codes "sends") ∷ Number hand ∷ Number body ∷ []
written (command.Broadcast gate body) = Number gate ∷ Word (codes "all") ∷ Number body ∷ []
written (command.Rotate gate) = Number gate ∷ Word (codes "turns") ∷ []
written (command.Rekey gate hand) = Number gate ∷ Word (codes "words") ∷ Number hand ∷ []
written (command.ForgetGate gate) = Number gate ∷ Word (codes "forgets") ∷ []
written (command.SendUp hand gate body) = Word (codes "hand") ∷ Number hand ∷ Word (codes "sends") ∷ Number gate ∷ Number body ∷ []
written (command.ForgetHand hand) = Word (codes "hand") ∷ Number hand ∷ Word (codes "forgets") ∷ []
written (command.Hear hand place) = Word (codes "hears") ∷ Number hand ∷ Number place ∷ []
written (command.Begin gate hand anonce) = Word (codes "begins") ∷ Number gate ∷ Number hand ∷ Number anonce.kind ∷ Number anonce.node ∷ Number anonce.index ∷ []

-- the words by which a line of each form is known; n is the number of the end that acts
abbrev pub opening : Form → ℕ → List Part
opening form.Invite n = Number n ∷ Word (codes "invites") ∷ []
opening form.Send n = Number n ∷ Word (codes "sends") ∷ []
opening form.Broadcast n = Number n ∷ Word (codes "all") ∷ []
opening form.Rotate n = Number n ∷ Word (codes "turns") ∷ []
opening form.Rekey n = Number n ∷ Word (codes "words") ∷ []
opening form.ForgetGate n = Number n ∷ Word (codes "forgets") ∷ []
opening form.SendUp n = Word (codes "hand") ∷ Number n ∷ Word (codes "sends") ∷ []
opening form.ForgetHand n = Word (codes "hand") ∷ Number n ∷ Word (codes "forgets") ∷ []
opening form.Hear n = Word (codes "hears") ∷ []
opening form.Begin n = Word (codes "begins") ∷ []

abbrev pub Begins : List Part → Form → Type 0
Begins ps f = (n : ℕ) × (qs : List Part) × (ps ≡ opening f n ++ qs)

-- what is wrong with a line that begins so
abbrev pub Names : List Part → Malformed Form → Type 0
Names ps = NamesBy (Begins ps)

-- r is the command that has just these words, or says that there is none
abbrev pub Answered : List Part → Result Command (Malformed Form) → Type 0
Answered ps = AnsweredBy (λ c. ps ≡ written c) (Begins ps)

-- a line of no words, or a comment, says nothing
abbrev pub quiet : List (List ℕ) → Bool
quiet [] = true
quiet (w ∷ ws) = slice_index w 0 == 35

-- what a line is read as
abbrev pub Reads : List ℕ → Result (Option Command) (Malformed Form) → Type 0
Reads line = ReadsBy (quiet (words line)) (λ c. parts line ≡ written c) (Begins (parts line))
