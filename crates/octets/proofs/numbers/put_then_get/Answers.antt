use Rattle.std.proofs.Common.{◌≤◌, length, ap, ◌∙◌, arith, take_all}
use Rattle.octets.specs.Low.{from_low, low_first}
use Rattle.octets.proofs.Low.{there, length_low}
use Rattle.octets.proofs.numbers.put_then_get.Goals as goal

pub returns : goal.returns
returns c = λ few fits.
    let n = c.args.n in
    let w = length c.args.out.now in
    let l = length_low w n in
    let short : length (low_first w n) ≤ 8 = omega arith in
    c.get.ensures ∙ ap (λ l. from_low (lib.ListN.take 8 l)) c.put.ensures ∙ ap from_low (take_all 8 (low_first w n) short) ∙ there w n fits
