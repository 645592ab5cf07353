use Rattle.std.proofs.Common.{arith}
use Rattle.std.proofs.lemmas.Bool.Decides.{nat_tests}
use Rattle.script.proofs.Cuts.{blank_here}
use Rattle.script.proofs.line.blank_at.Goals as goal

pub returns-in-32 : goal.returns-in-32
returns-in-32 c = grind (arith, nat_tests, blank_here c.args.line.now c.args.i c.requires)

pub returns-in-13 : goal.returns-in-13
returns-in-13 c = grind (arith, nat_tests, blank_here c.args.line.now c.args.i c.requires)

pub returns-in_default : goal.returns-in_default
returns-in_default c = grind (arith, nat_tests, blank_here c.args.line.now c.args.i c.requires)
