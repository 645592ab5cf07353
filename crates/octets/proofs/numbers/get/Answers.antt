use Rattle.std.proofs.Common.{◌≡◌, ◌≤◌, ℕ, List, fold, reverse, take, length, rules, arith, ◌∙◌, length-take}
use Rattle.octets.proofs.Low.{with_byte, from_low-fold, bytes_taken}
use Rattle.octets.proofs.numbers.get.Goals as goal

pub returns : goal.returns
returns c =
    let bs : List ℕ = take 8 c.args.bytes.now in
    let folded : c.fold.result ≡ fold with_byte 0 (reverse bs) = search rules in
    let few : length bs ≤ 8 = omega (arith, length-take 8 c.args.bytes.now) in
    folded ∙ from_low-fold bs few (bytes_taken 8 c.args.bytes.now (λ k. omega (arith, c.type_inv.bytes k)))
