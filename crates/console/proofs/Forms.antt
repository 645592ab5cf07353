-- Lines that are no command.
use Rattle.std.proofs.Common.{◌≡◌, ℕ, List, [], ◌∷◌, map, length, Some, None, Err, Option, Result, MatchOption, IsErrAnd, refl, arith}
use Rattle.std.specs.Option.{ok_or}
use Rattle.std.proofs.lemmas.Result.{err_from_is_err_and}
use Rattle.script.specs.declared.fault.Malformed.{Malformed}
use Rattle.script.specs.declared.fault.Malformed.TheVariants.{Expected}
use Rattle.script.specs.Line.{Number, number_of, numbers_from, part_by}
use Rattle.console.specs.declared.command.Command.{Command}
use Rattle.console.specs.declared.command.Command.TheVariants as command
use Rattle.console.specs.declared.command.Form.{Form}
use Rattle.console.specs.declared.command.Form.TheVariants as form
use Rattle.console.specs.Commands.{Completed, Follows, form_of}

-- words that are not three numbers follow no `act`
no_act : (ws : List (List ℕ)) → ((ns : List ℕ) → length ns ≡ 3 → map (λ w. part_by w (number_of w)) ws ≡ map Number ns → ⊥) → (c : Command) → form_of c ≡ form.Act → Follows ws c → ⊥
no_act ws never (command.Hear heard) is f = let z : ◌≡◌ {A = ℕ} 0 1 = cc in omega arith
no_act ws never (command.Act a) is f = never (a.kind ∷ a.peer ∷ a.body ∷ []) refl f

pub no_numbers : (ws : List (List ℕ)) (o : Option (List ℕ)) (e : Malformed Form) (r : Result Command (Malformed Form)) → MatchOption o ((ns : List ℕ) → length ns ≡ 3 → map (λ w. part_by w (number_of w)) ws ≡ map Number ns → ⊥) (λ ns. map (λ w. part_by w (number_of w)) ws ≡ numbers_from 0 3 ns) → Err e ≡ ok_or o (Expected form.Act) → IsErrAnd r (λ y. y ≡ e) → Completed form.Act ws r
no_numbers ws None e r never is by = let p = err_from_is_err_and r by in let told : e ≡ Expected form.Act = cc in rw (p.1, p.2, told) (refl, no_act ws never)
no_numbers ws (Some ns) e r all is by = absurd (cc)
