use Rattle.script.proofs.Digits.{Sofar}
use Rattle.script.proofs.line.number.Given as goal

abbrev pub invariant-loop-b : goal.invariant-loop-b
invariant-loop-b l = Sofar l.word l.b-index l.n
