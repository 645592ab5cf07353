use Rattle.std.proofs.Common.{List, sym, ap, ◌∙◌}
use Rattle.protocol.specs.Held.{HandState}
use Rattle.link.specs.declared.keys.GateKeys.{GateKeys}
use Rattle.link.specs.Keys.{Reception, answer_of}
use Rattle.handradio.specs.State.{held_in, ring_of}
use Rattle.handradio.proofs.Counts.{many_of}
use Rattle.handradio.proofs.Ways.{by_tag}
use Rattle.handradio.proofs.held.HandLink.hear.Goals as goal

pub returns-in_default : goal.returns-in_default
returns-in_default g c =
    let l = c.args.self.now in
    let v = g.V.Vault.holds c.args.vault.now in
    let k = c.in_ok-cut.cut in
    c.hear_tagged.ensures
    ∙ ap (λ (r : Reception HandState (List GateKeys)). answer_of v.hash r)
    (by_tag v c.args.s c.args.bytes.now (held_in l) (ring_of l) k c.tag_key-key.result c.in_ok-message.message l.end.many _
    c.in_ok-cut.ensures.parts (sym (many_of l.end)) c.as_slice.ensures c.in_ok-message.ensures.0 c.in_ok-message.ensures.1 c.in_default.not-Begin c.tag_key-key.ensures)
