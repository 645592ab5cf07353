-- The closed list of refusals.
use Rattle.std.specs.Prelude.{ℕ}
use Rattle.frame.specs.declared.message.Refusal.{Refusal}
use Rattle.frame.specs.declared.message.Refusal.TheVariants.{NoMessage, NotForThisEnd, WrongTag, NoRow}

abbrev pub refusal_number : Refusal → ℕ
refusal_number NoMessage = 1
refusal_number NotForThisEnd = 2
refusal_number WrongTag = 3
refusal_number NoRow = 4
