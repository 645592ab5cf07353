-- The words behind a program's name.
use Rattle.std.specs.Prelude.{◌≡◌, ℕ, cond, ◌⊎◌, List, [], ◌∷◌, ◌++◌, length, Some, None, Ok, Err, codes, decimal, Option, Result, ◌≢◌, nat_le}
use Rattle.script.specs.Line.{number_of}
use Rattle.usage.specs.declared.arguments.Argument.{Argument}
use Rattle.usage.specs.declared.arguments.Argument.TheVariants.{Index, Peers}
use Rattle.usage.specs.declared.arguments.Arguments.{Arguments}
use Rattle.usage.specs.declared.arguments.Fault.{Fault}
use Rattle.usage.specs.declared.arguments.Fault.TheVariants.{NotThree, NotANumber, TooLarge}
use Rattle.usage.specs.declared.arguments.Misuse.{Misuse}
use Rattle.usage.specs.declared.arguments.Program.{Program}
use Rattle.usage.specs.declared.arguments.Program.TheVariants.{Hand, Gate}
use Rattle.usage.specs.declared.arguments.Request.{Request}
use Rattle.usage.specs.declared.arguments.Request.TheVariants.{Help, Version, Run}

-- at most 512 handhelds and 255 gates, counted from 0
abbrev pub limit_of : Program → Argument → ℕ
limit_of Hand Index = 511
limit_of Hand Peers = 255
limit_of Gate Index = 254
limit_of Gate Peers = 512

abbrev pub misuse_of : Program → Fault → Misuse
misuse_of p f = record { program = p; fault = f }

-- a word's number, as an argument
abbrev pub number_for : Program → Argument → Option ℕ → Result ℕ Misuse
number_for p a None = Err (misuse_of p (NotANumber a))
number_for p a (Some n) = cond (nat_le n (limit_of p a)) (Ok n) (Err (misuse_of p (TooLarge a)))

-- three words as arguments; the first that is wrong is told
abbrev pub Runs : Program → (index peers path : List ℕ) → Result Arguments Misuse → Type 0
Runs p i n path (Ok a) = (number_for p Index (number_of i) ≡ Ok a.index) × (number_for p Peers (number_of n) ≡ Ok a.peers) × (a.path.now ≡ path)
Runs p i n path (Err e) =
    (number_for p Index (number_of i) ≡ Err e) ⊎ ((k : ℕ) × (number_for p Index (number_of i) ≡ Ok k) × (number_for p Peers (number_of n) ≡ Err e))

abbrev pub BeginsWith : (words : List (List ℕ)) → List ℕ → Type 0
BeginsWith ws w = (rest : List (List ℕ)) × (ws ≡ w ∷ rest)

-- not a run, but a word about the program
abbrev pub About : (words : List (List ℕ)) → Type 0
About ws = BeginsWith ws (codes "--help") ⊎ BeginsWith ws (codes "--version")

abbrev pub RunsOn : Program → (words : List (List ℕ)) → Result Arguments Misuse → Type 0
RunsOn p ws r = (i : List ℕ) × (n : List ℕ) × (path : List ℕ) × (ws ≡ i ∷ n ∷ path ∷ []) × Runs p i n path r

-- what the words ask for
abbrev pub Asks : Program → (words : List (List ℕ)) → Result Request Misuse → Type 0
Asks p ws (Ok Help) = BeginsWith ws (codes "--help")
Asks p ws (Ok Version) = BeginsWith ws (codes "--version")
Asks p ws (Ok (Run r)) = (About ws → ⊥) × RunsOn p ws (Ok r)
Asks p ws (Err e) = (About ws → ⊥) × (((e ≡ misuse_of p NotThree) × (length ws ≢ 3)) ⊎ RunsOn p ws (Err e))

-- ---- what is told of a misuse

abbrev pub argument_name : Program → Argument → List ℕ
argument_name Hand Index = codes "S"
argument_name Hand Peers = codes "G"
argument_name Gate Index = codes "N"
argument_name Gate Peers = codes "S"

abbrev pub usage_text : Program → List ℕ
usage_text Hand = codes "hand S G FILE"
usage_text Gate = codes "gate N S FILE"

abbrev pub cause_text : Program → Fault → List ℕ
cause_text p NotThree = codes "three words are wanted"
cause_text p (NotANumber a) = argument_name p a ++ codes " is not a number"
cause_text p (TooLarge a) = argument_name p a ++ (codes " is more than " ++ decimal (limit_of p a))

abbrev pub misuse_text : Misuse → List ℕ
misuse_text m = cause_text m.program m.fault ++ (codes "; usage: " ++ usage_text m.program)
