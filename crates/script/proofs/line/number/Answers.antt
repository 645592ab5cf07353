use Rattle.script.proofs.Digits.{one_more}
use Rattle.script.proofs.line.number.Goals as goal

pub loop-b-preserved : goal.loop-b-preserved
loop-b-preserved c = let digit = c.in_ok-n.ensures in one_more c.loop-b.invariant _ c.loop-b-test.true digit.0 digit.1
