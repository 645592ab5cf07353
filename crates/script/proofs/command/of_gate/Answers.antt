use Rattle.std.proofs.Common.{[], ◌∷◌, refl}
use Rattle.script.specs.declared.command.Form.TheVariants as form
use Rattle.script.specs.Line.{Number}
use Rattle.script.proofs.Forms.{no_gate_verb, refuses}
use Rattle.script.proofs.command.of_gate.Goals as goal

pub returns-in_err-keyword : goal.returns-in_err-keyword
returns-in_err-keyword c = no_gate_verb c.args.gate _ _ _ c.from_residual.ensures.1 c.in_err-keyword.ensures

pub returns-in_err-hand-in-Invites : goal.returns-in_err-hand-in-Invites
returns-in_err-hand-in-Invites c = refuses (Number c.args.gate ∷ []) _ _ _ c.in_ok-keyword.ensures form.Invite c.args.gate _ c.in-Invites.is refl _ _ c.from_residual-in_err-hand-in-Invites.ensures.1 c.in_err-hand-in-Invites.ensures

pub returns-in_err-hand-in-Sends : goal.returns-in_err-hand-in-Sends
returns-in_err-hand-in-Sends c = refuses (Number c.args.gate ∷ []) _ _ _ c.in_ok-keyword.ensures form.Send c.args.gate _ c.in-Sends.is refl _ _ c.from_residual-in_err-hand-in-Sends.ensures.1 c.in_err-hand-in-Sends.ensures

pub returns-in_err-body-in-All : goal.returns-in_err-body-in-All
returns-in_err-body-in-All c = refuses (Number c.args.gate ∷ []) _ _ _ c.in_ok-keyword.ensures form.Broadcast c.args.gate _ c.in-All.is refl _ _ c.from_residual-in_err-body-in-All.ensures.1 c.in_err-body-in-All.ensures

pub returns-in_err-numbers-in-Turns : goal.returns-in_err-numbers-in-Turns
returns-in_err-numbers-in-Turns c = refuses (Number c.args.gate ∷ []) _ _ _ c.in_ok-keyword.ensures form.Rotate c.args.gate _ c.in-Turns.is refl _ _ c.from_residual-in_err-numbers-in-Turns.ensures.1 c.in_err-numbers-in-Turns.ensures

pub returns-in_err-hand-in-Words : goal.returns-in_err-hand-in-Words
returns-in_err-hand-in-Words c = refuses (Number c.args.gate ∷ []) _ _ _ c.in_ok-keyword.ensures form.Rekey c.args.gate _ c.in-Words.is refl _ _ c.from_residual-in_err-hand-in-Words.ensures.1 c.in_err-hand-in-Words.ensures

pub returns-in_err-numbers-in-Forgets : goal.returns-in_err-numbers-in-Forgets
returns-in_err-numbers-in-Forgets c = refuses (Number c.args.gate ∷ []) _ _ _ c.in_ok-keyword.ensures form.ForgetGate c.args.gate _ c.in-Forgets.is refl _ _ c.from_residual-in_err-numbers-in-Forgets.ensures.1 c.in_err-numbers-in-Forgets.ensures
