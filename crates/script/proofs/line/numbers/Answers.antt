use Rattle.script.proofs.Numbers.{too_few, whole_line}
use Rattle.script.proofs.line.numbers.Goals as goal

pub returns-in_err-next : goal.returns-in_err-next
returns-in_err-next g c = rw c.from_residual.ensures (too_few c.loop-n.invariant c.loop-n-test.true c.in_err-next.ensures)

pub returns : goal.returns
returns g c = rw c.then_some.ensures (whole_line c.loop-n.invariant c.loop-n.auto.n-index-end c.loop-n-test.false c.next_word.result c.next_word.ensures c.is_none.result c.is_none.ensures)
