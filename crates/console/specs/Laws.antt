-- Laws of lines and of hex digits.
use Rattle.std.specs.Prelude.{◌≡◌, ℕ, ◌^◌, ◌<◌, ◌≤◌, List, [], ◌∷◌, length, Some, None, Ok, Err, codes, decimal, Option, Result, slice_index}
use Rattle.frame.specs.declared.message.Refusal.TheVariants.{NoRow}
use Rattle.octets.specs.Cutting.{cut}
use Rattle.script.specs.declared.fault.Malformed.{Malformed}
use Rattle.script.specs.Line.{spaced, words}
use Rattle.console.specs.declared.command.Command.{Command}
use Rattle.console.specs.declared.command.Command.TheVariants as command
use Rattle.console.specs.declared.command.Form.{Form}
use Rattle.console.specs.Commands.{Reads}
use Rattle.console.specs.Hex.{hex_bytes, hex_text, message_bytes}

abbrev pub Bytes : List ℕ → Type 0
Bytes bs = (i : ℕ) → slice_index bs i < 256

-- digits that are written for bytes read back as these
abbrev pub DigitsRead : Type 0
DigitsRead = (bs : List ℕ) → Bytes bs → hex_bytes (hex_text bs) ≡ Some bs

-- ---- what is no row

abbrev pub LongIsNoRow : Type 0
LongIsNoRow = (bs : List ℕ) → 140 < length bs → cut bs ≡ Err NoRow

-- digits that write bytes, but not those of a message, write no row
abbrev pub OthersAreNoRow : Type 0
OthersAreNoRow = (digits bs : List ℕ) → hex_bytes digits ≡ Some bs → message_bytes digits ≡ None → cut bs ≡ Err NoRow

-- ---- lines

abbrev pub written : Command → List (List ℕ)
written (command.Hear (Some x)) = codes "hear" ∷ hex_text x ∷ []
written (command.Hear None) = codes "hear" ∷ []
written (command.Act a) = codes "act" ∷ decimal a.kind ∷ decimal a.peer ∷ decimal a.body ∷ []

-- there are bytes, no more than a message has, and each number fits its type
abbrev pub Writable : Command → Type 0
Writable (command.Hear (Some x)) = (0 < length x) × (length x ≤ 140) × Bytes x
Writable (command.Hear None) = Unit {0}
Writable (command.Act a) = (a.kind < 2 ^ 64) × (a.peer < 2 ^ 64) × (a.body < 2 ^ 64)

-- what is written for a command reads as that command
abbrev pub CommandsRead : Type 0
CommandsRead = (c : Command) → Writable c → Reads (words (spaced (written c))) (Ok (Some c))

-- and no line reads in two ways
abbrev pub OneReading : Type 0
OneReading = (ws : List (List ℕ)) (r s : Result (Option Command) (Malformed Form)) → Reads ws r → Reads ws s → r ≡ s
