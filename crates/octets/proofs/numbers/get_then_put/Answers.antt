use Rattle.std.proofs.Common.{ap, ◌∙◌, arith, take_all}
use Rattle.octets.specs.Low.{from_low, low_first}
use Rattle.octets.proofs.Low.{back}
use Rattle.octets.proofs.numbers.get_then_put.Goals as goal

pub returns : goal.returns
returns c = λ few long.
    let bs = c.args.bytes.now in
    let read = c.get.ensures ∙ ap from_low (take_all 8 bs few) in
    c.put.ensures ∙ (λ i. low_first (long i) (read i)) ∙ back bs (λ k. omega (arith, c.type_inv.bytes k))
