-- No line reads in two ways, where its words say no two commands and begin no two forms.
use Rattle.std.proofs.Common.{◌≡◌, Bool, Some, None, Ok, Err, Option, Result, refl, ap}
use Rattle.std.proofs.lemmas.Bool.{both_ways}
use Rattle.script.specs.declared.fault.Malformed.{Malformed}
use Rattle.script.specs.declared.fault.Malformed.TheVariants.{NotACommand, Expected}
use Rattle.script.specs.Reading.{NamesBy, ReadsBy}

module _ {C F : Type 0} (Says : C → Type 0) (Begins : F → Type 0) (one_command : (c d : C) → Says c → Says d → c ≡ d) (one_form : (f g : F) → Begins f → Begins g → f ≡ g) where
  same_fault : (d e : Malformed F) → NamesBy Begins d → NamesBy Begins e → d ≡ e
  same_fault NotACommand NotACommand x y = refl
  same_fault NotACommand (Expected g) x y = absurd (x g y)
  same_fault (Expected f) NotACommand x y = absurd (y f x)
  same_fault (Expected f) (Expected g) x y = ap Expected (one_form f g x y)

  pub reads_once : (quiet : Bool) (r s : Result (Option C) (Malformed F)) → ReadsBy quiet Says Begins r → ReadsBy quiet Says Begins s → r ≡ s
  reads_once quiet (Ok None) (Ok None) x y = refl
  reads_once quiet (Ok None) (Ok (Some d)) x y = absurd (both_ways _ y.0 x)
  reads_once quiet (Ok None) (Err e) x y = absurd (both_ways _ y.0 x)
  reads_once quiet (Ok (Some c)) (Ok None) x y = absurd (both_ways _ x.0 y)
  reads_once quiet (Ok (Some c)) (Ok (Some d)) x y = ap (λ b. Ok (Some b)) (one_command c d x.1 y.1)
  reads_once quiet (Ok (Some c)) (Err e) x y = absurd (y.1.0 c x.1)
  reads_once quiet (Err e) (Ok None) x y = absurd (both_ways _ x.0 y)
  reads_once quiet (Err e) (Ok (Some d)) x y = absurd (x.1.0 d y.1)
  reads_once quiet (Err d) (Err e) x y = ap Err (same_fault d e x.1.1 y.1.1)
