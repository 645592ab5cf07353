use Rattle.console.proofs.Forms.{no_numbers}
use Rattle.console.proofs.command.act.Goals as goal

pub returns-in_err-kind : goal.returns-in_err-kind
returns-in_err-kind c = no_numbers _ c.numbers.result c.in_err-kind.field-0.0 _ c.numbers.ensures c.in_err-kind.ensures.value c.from_residual.ensures.1
