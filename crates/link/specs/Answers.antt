-- What the code of an end over bytes answers, as the definitions have it.
use Rattle.std.specs.Prelude.{ℕ, List, [], ◌∷◌, Some, None, Option, Ok, Err, Result}
use Rattle.frame.specs.declared.message.Refusal.{Refusal}
use Rattle.octets.specs.declared.buffer.Octets.{Octets}
use Rattle.endpoint.specs.Effects.{listed}
use Rattle.link.specs.declared.effect.SealedEffect.{SealedEffect}
use Rattle.link.specs.Keys.{Answer}

abbrev pub texts : Option Octets → List (List ℕ)
texts None = []
texts (Some o) = o ∷ []

-- with what is held afterwards; refused, it neither says nor delivers anything
abbrev pub answered : {A K : Type 0} → Result SealedEffect Refusal → A → K → Answer A K
answered (Ok r) y ks = record { refusal = None; held = y; keys = ks; says = texts r.says; delivers = listed r.delivers }
answered (Err e) y ks = record { refusal = Some e; held = y; keys = ks; says = []; delivers = [] }
