-- What a line is read as, whatever its commands C are and the forms F that their lines have. Assumes nothing.
use Rattle.std.specs.Prelude.{◌≡◌, ℕ, Bool, true, false, List, Some, None, Ok, Err, Option, Result, ◌≢◌}
use Rattle.script.specs.declared.fault.Malformed.{Malformed}
use Rattle.script.specs.declared.fault.Malformed.TheVariants.{NotACommand, Expected}

-- a word that is spelled as one of K; one that is none begins no command
abbrev pub Spells : {K F : Type 0} → (spelling : K → List ℕ) → List ℕ → Result K (Malformed F) → Type 0
Spells spelling w (Ok k) = w ≡ spelling k
Spells {K} spelling w (Err e) = (e ≡ NotACommand) × ((k : K) → w ≢ spelling k)

-- what is wrong with a line of which Begins says with which forms it begins
abbrev pub NamesBy : {F : Type 0} → (Begins : F → Type 0) → Malformed F → Type 0
NamesBy {F} Begins NotACommand = (f : F) → Begins f → ⊥
NamesBy Begins (Expected f) = Begins f

-- the command that a line says, or what is wrong with a line that says none
abbrev pub AnsweredBy : {C F : Type 0} → (Says : C → Type 0) → (Begins : F → Type 0) → Result C (Malformed F) → Type 0
AnsweredBy Says Begins (Ok c) = Says c
AnsweredBy {C} Says Begins (Err e) = ((c : C) → Says c → ⊥) × NamesBy Begins e

-- the same, of a line that may be quiet
abbrev pub ReadsBy : {C F : Type 0} → (quiet : Bool) → (Says : C → Type 0) → (Begins : F → Type 0) → Result (Option C) (Malformed F) → Type 0
ReadsBy quiet Says Begins (Ok None) = quiet ≡ true
ReadsBy quiet Says Begins (Ok (Some c)) = (quiet ≡ false) × AnsweredBy Says Begins (Ok c)
ReadsBy quiet Says Begins (Err e) = (quiet ≡ false) × AnsweredBy Says Begins (Err e)
