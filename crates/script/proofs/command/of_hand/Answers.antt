use Rattle.std.proofs.Common.{[], ◌∷◌, codes, refl}
use Rattle.script.specs.declared.command.Form.TheVariants as form
use Rattle.script.specs.Line.{Number, Word}
use Rattle.script.proofs.Forms.{no_hand_verb, refuses}
use Rattle.script.proofs.command.of_hand.Goals as goal

pub returns-in_err-keyword : goal.returns-in_err-keyword
returns-in_err-keyword c = no_hand_verb c.args.hand _ _ _ c.from_residual.ensures.1 c.in_err-keyword.ensures

pub returns-in_err-gate-in-Sends : goal.returns-in_err-gate-in-Sends
returns-in_err-gate-in-Sends c = refuses (Word (codes "hand") ∷ Number c.args.hand ∷ []) _ _ _ c.in_ok-keyword.ensures form.SendUp c.args.hand _ c.in-Sends.is refl _ _ c.from_residual-in_err-gate-in-Sends.ensures.1 c.in_err-gate-in-Sends.ensures

pub returns-in_err-numbers-in-Forgets : goal.returns-in_err-numbers-in-Forgets
returns-in_err-numbers-in-Forgets c = refuses (Word (codes "hand") ∷ Number c.args.hand ∷ []) _ _ _ c.in_ok-keyword.ensures form.ForgetHand c.args.hand _ c.in-Forgets.is refl _ _ c.from_residual-in_err-numbers-in-Forgets.ensures.1 c.in_err-numbers-in-Forgets.ensures
