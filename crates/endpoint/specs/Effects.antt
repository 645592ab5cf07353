-- What the code answers of a rule and of a call, as the rules have it.
use Rattle.std.specs.Prelude.{◌≡◌, ℕ, true, List, [], ◌∷◌, length, replicate, Some, None, Ok, Err, Option, Result}
use Rattle.frame.specs.declared.message.Message.{Message}
use Rattle.frame.specs.declared.message.Refusal.{Refusal}
use Rattle.frame.specs.Row.{code, padded, is_small, message_of}
use Rattle.frame.specs.Refusals.{refusal_number}
use Rattle.protocol.specs.Rules.{Out, quiet}
use Rattle.protocol.specs.Calls.{Call, row_of}
use Rattle.endpoint.specs.declared.effect.Effect.{Effect}
use Rattle.endpoint.specs.declared.call.Heard.{Heard}

abbrev pub listed : Option Message → List Message
listed None = []
listed (Some m) = m ∷ []

abbrev pub out_of : {A : Type 0} → Effect → A → Out A
out_of e x = record { held = x; says = listed e.says; delivers = listed e.delivers }

-- the answer to a row, what is held then, and the two rows that are written
abbrev pub hearing_of : {A : Type 0} → Heard → A → (says takes : List ℕ) → Call A
hearing_of r y s t = record { held = y; code = r.code; said = r.says; delivered = r.takes; says = s; delivers = t }

-- the answer to an act, which delivers nothing and is not refused
abbrev pub acting_of : {A : Type 0} → ℕ → A → (says : List ℕ) → Call A
acting_of n y s = record { held = y; code = 0; said = n; delivered = 0; says = s; delivers = replicate 12 0 }

-- the code of an answer to a row: 0, or the refusal's number
abbrev pub code_answered : Result Effect Refusal → ℕ
code_answered (Ok e) = 0
code_answered (Err r) = refusal_number r

-- what comes of a row by its answer: of a refused one nothing
abbrev pub effect_answered : Result Effect Refusal → Effect
effect_answered (Ok e) = e
effect_answered (Err r) = record { says = None; delivers = None }

-- the row of what is said or delivered was written, noughts behind it, and this is its length
abbrev pub Writes : Option Message → (row : List ℕ) → (len : ℕ) → Type 0
Writes o row n = (row ≡ padded 12 (row_of (listed o))) × (n ≡ length (row_of (listed o)))

-- the message of a row, or the refusal, as the verdict has it
abbrev pub Judges : Option Refusal → (row : List ℕ) → Result Message Refusal → Type 0
Judges v row (Ok m) = (v ≡ None) × (m ≡ message_of row) × (is_small (code m) ≡ true)
Judges v row (Err e) = v ≡ Some e

-- a row was heard and this came of it, or it was refused and nothing did; o is what the rules say of it
abbrev pub HearsRow : {A : Type 0} → Option Refusal → Out A → Result Effect Refusal → (held : A) → Type 0
HearsRow v o (Ok e) x = (v ≡ None) × (out_of e x ≡ o)
HearsRow v o (Err e) x = (v ≡ Some e) × (quiet x ≡ o)
