-- What is told of a line that is no command. Assumes nothing.
use Rattle.std.specs.Prelude.{ℕ, List, ◌++◌, codes, decimal}
use Rattle.script.specs.declared.fault.Malformed.{Malformed}
use Rattle.script.specs.declared.fault.Malformed.TheVariants.{NotACommand, Expected}

-- of a form it is told how its lines are written
abbrev pub fault_text : {F : Type 0} → (usage : F → List ℕ) → Malformed F → List ℕ
fault_text usage NotACommand = codes "not a command"
fault_text usage (Expected f) = codes "expected " ++ usage f

-- a complaint names the line
abbrev pub complaint_text : (line : ℕ) → List ℕ → List ℕ
complaint_text line text = codes "line " ++ (decimal line ++ (codes ": " ++ text))
