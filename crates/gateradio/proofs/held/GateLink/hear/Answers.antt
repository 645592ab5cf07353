use Rattle.std.proofs.Common.{ap, ◌∙◌}
use Rattle.protocol.specs.Held.{GateState}
use Rattle.link.specs.Keys.{Reception, answer_of}
use Rattle.link.specs.Gates.{GateRing}
use Rattle.gateradio.specs.State.{held_in, ring_of}
use Rattle.gateradio.proofs.Counts.{many_of}
use Rattle.gateradio.proofs.Ways.{by_tag}
use Rattle.gateradio.proofs.held.GateLink.hear.Goals as goal

pub returns : goal.returns
returns g c =
    let l = c.args.self.now in
    let v = g.V.Vault.holds c.args.vault.now in
    c.hear_tagged.ensures
    ∙ ap (λ (r : Reception GateState GateRing). answer_of v.hash r)
    (by_tag v c.args.g c.args.bytes.now (held_in l) (ring_of l) c.in_ok-cut.cut c.tag_key-key.result c.in_ok-message.message c.as_slice.result.now l.end.many
    c.in_ok-cut.ensures.parts c.as_slice.ensures (many_of l.end) c.in_ok-message.ensures.0 c.in_ok-message.ensures.1 c.tag_key-key.ensures)
