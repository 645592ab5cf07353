-- Laws of reading, whatever the line. Assumes nothing.
use Rattle.std.specs.Prelude.{◌≡◌, ℕ, ◌^◌, ◌<◌, List, [], ◌∷◌, map, Some, Ok, decimal, Option, Result}
use Rattle.script.specs.declared.command.Command.{Command}
use Rattle.script.specs.declared.command.Form.{Form}
use Rattle.script.specs.declared.fault.Malformed.{Malformed}
use Rattle.script.specs.Line.{Part, Number, Word, number_of, spaced}
use Rattle.script.specs.Commands.{Reads, written}

-- a number reads back as itself
abbrev pub NumbersRead : Type 0
NumbersRead = (n : ℕ) → n < 2 ^ 64 → number_of (decimal n) ≡ Some n

abbrev pub word_text : Part → List ℕ
word_text (Number n) = decimal n
word_text (Word w) = w

-- the words with one space between two
abbrev pub line_text : List Part → List ℕ
line_text ps = spaced (map word_text ps)

-- each number fits 64 bits
abbrev pub Small : List Part → Type 0
Small [] = Unit {0}
Small (Number n ∷ ps) = (n < 2 ^ 64) × Small ps
Small (Word w ∷ ps) = Small ps

-- what is written for a command reads as that command
abbrev pub CommandsRead : Type 0
CommandsRead = (c : Command) → Small (written c) → Reads (line_text (written c)) (Ok (Some c))

-- and no line reads in two ways
abbrev pub OneReading : Type 0
OneReading = (line : List ℕ) (r s : Result (Option Command) (Malformed Form)) → Reads line r → Reads line s → r ≡ s
