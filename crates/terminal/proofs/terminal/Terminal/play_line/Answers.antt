use Rattle.std.proofs.Common.{None, Some, Ok, refl}
use Rattle.terminal.proofs.Coming.{comes}
use Rattle.terminal.proofs.terminal.Terminal.play_line.Goals as goal

pub returns-in-Ok-None-clause-plays : goal.returns-in-Ok-None-clause-plays
returns-in-Ok-None-clause-plays g c = (Ok None, rw c.in-Ok-None.field-0-is at c.in-Ok-None.ensures, record { said = refl; held = refl; keys = refl })

pub returns-in-Ok-Some-clause-plays : goal.returns-in-Ok-Some-clause-plays
returns-in-Ok-Some-clause-plays g c =
    (Ok (Some c.in-Ok-Some.command), rw c.in-Ok-Some.field-0-is at c.in-Ok-Some.ensures, comes g.E.End.delivered c.obey.result c.answer.result _ _ _ c.answer.ensures c.obey.ensures.told)
