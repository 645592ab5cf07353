use Rattle.std.proofs.Common.{◌≡◌, ℕ, List, sym, ap, ◌∙◌, arith}
use Rattle.frame.specs.Row.{code}
use Rattle.frame.proofs.RoundTrip.{code-message_of}
use Rattle.octets.specs.Layout.{octets_of_row}
use Rattle.octets.proofs.RoundTrip.{cut_is_written}
use Rattle.octets.proofs.laws.parse_then_write.Goals as goal

pub returns : goal.returns
returns c =
    let cut = c.in_ok-cut.cut in
    let read = c.in_ok-message.ensures in
    let same : code c.in_ok-message.message ≡ cut.row = ap code read.1 ∙ code-message_of c.as_slice.result.now read.0 ∙ c.as_slice.ensures in
    c.write_tagged.ensures
    ∙ ap (λ (row : List ℕ). octets_of_row row cut.nonces.anonce cut.nonces.snonce cut.body cut.key cut.tag) same
    ∙ cut_is_written c.args.bytes.now cut (λ i. omega (arith, c.type_inv.bytes i)) (sym c.in_ok-cut.ensures.parts)
