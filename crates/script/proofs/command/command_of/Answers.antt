use Rattle.std.proofs.Common.{◌≡◌, [], ◌∷◌, codes, refl, ap, ◌∙◌, rules}
use Rattle.script.specs.declared.command.Keyword.{Keyword}
use Rattle.script.specs.Line.{Number, Word, parts}
use Rattle.script.specs.Commands.{spelling}
use Rattle.script.specs.declared.command.Form.TheVariants as form
use Rattle.script.proofs.Forms.{no_opening, refuses}
use Rattle.script.proofs.command.command_of.Goals as goal

pub returns-in_err-keyword : goal.returns-in_err-keyword
returns-in_err-keyword c = no_opening _ c.in_default.ensures _ _ c.from_residual.ensures.1 c.in_err-keyword.ensures

pub returns-in_err-hand-in-Hears : goal.returns-in_err-hand-in-Hears
returns-in_err-hand-in-Hears c = refuses ([]) _ _ _ c.in_ok-keyword.ensures form.Hear 0 _ c.in-Hears.is refl _ _ c.from_residual-in_err-hand-in-Hears.ensures.1 c.in_err-hand-in-Hears.ensures

pub returns-in_err-gate-in-Begins : goal.returns-in_err-gate-in-Begins
returns-in_err-gate-in-Begins c = refuses ([]) _ _ _ c.in_ok-keyword.ensures form.Begin 0 _ c.in-Begins.is refl _ _ c.from_residual-in_err-gate-in-Begins.ensures.1 c.in_err-gate-in-Begins.ensures

pub returns-in-Some : goal.returns-in-Some
returns-in-Some c = rw c.in-Some.ensures c.of_gate.ensures

pub returns-in_ok-hand-in-Hand : goal.returns-in_ok-hand-in-Hand
returns-in_ok-hand-in-Hand c =
    let named : parts c.args.line.now ≡ Word (codes "hand") ∷ parts c.in_ok-keyword.rest.now = c.in_ok-keyword.ensures ∙ ap (λ (k : Keyword). Word (spelling k) ∷ parts c.in_ok-keyword.rest.now) c.in-Hand.is in
    let number : parts c.in_ok-keyword.rest.now ≡ Number c.in_ok-hand-in-Hand.hand ∷ parts c.in_ok-hand-in-Hand.rest.now = search rules in
    rw (named, number) c.of_hand.ensures
