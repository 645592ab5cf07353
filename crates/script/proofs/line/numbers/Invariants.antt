use Rattle.script.proofs.Numbers.{Sofar}
use Rattle.script.proofs.line.numbers.Given as goal

abbrev pub invariant-loop-n : goal.invariant-loop-n
invariant-loop-n g l = Sofar g.row.N l.line l.rest l.n-items l.n-index
