-- What is answered to a line of the script.
use Rattle.std.specs.Prelude.{◌≡◌, ℕ, List, Some, None, Ok, Err, Option, Result}
use Rattle.protocol.specs.World.{World}
use Rattle.script.specs.declared.command.Command.{Command}
use Rattle.script.specs.declared.command.Form.{Form}
use Rattle.script.specs.declared.fault.Malformed.{Malformed}
use Rattle.script.specs.Commands.{Reads}
use Rattle.simulator.specs.declared.log.Played.{Played}
use Rattle.simulator.specs.declared.log.Unplayed.{Unplayed}
use Rattle.simulator.specs.declared.log.Unplayed.TheVariants.{Absent, Full, NoMemory}
use Rattle.simulator.specs.declared.answer.Answer.{Answer}
use Rattle.simulator.specs.declared.answer.Answer.TheVariants as answer
use Rattle.simulator.specs.Play.{Plays}

abbrev pub answer_of : (line : ℕ) → Result Played Unplayed → Answer
answer_of n (Ok p) = answer.Played p
answer_of n (Err Absent) = answer.Absent n
answer_of n (Err Full) = answer.Full
answer_of n (Err NoMemory) = answer.NoMemory

-- the world moves by the line's command, as it is answered, or not at all
abbrev pub Answers : (line : ℕ) → Result (Option Command) (Malformed Form) → Answer → (before after : World) → Type 0
Answers n (Ok None) a w v = (a ≡ answer.Nothing) × (v ≡ w)
Answers n (Ok (Some c)) a w v = (r : Result Played Unplayed) × (a ≡ answer_of n r) × Plays r c w v
Answers n (Err e) a w v = (a ≡ answer.Complaint (record { line = n; fault = e })) × (v ≡ w)

-- the line, as it reads
abbrev pub PlaysLine : (number : ℕ) → (line : List ℕ) → Answer → (before after : World) → Type 0
PlaysLine n line a w v = (x : Result (Option Command) (Malformed Form)) × Reads line x × Answers n x a w v
