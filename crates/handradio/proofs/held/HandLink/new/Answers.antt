use Rattle.std.proofs.Common.{◌≡◌, ℕ, length, replicate, ap, ◌∙◌, arith}
use lib.ListN.{length-replicate}
use Rattle.protocol.specs.Held.{HandState, new_gate_peer}
use Rattle.link.specs.Hands.{no_gate_keys}
use Rattle.link.proofs.Tables.{take_new}
use Rattle.handradio.proofs.Counts.{many_of}
use Rattle.handradio.proofs.held.HandLink.new.Goals as goal

pub returns : goal.returns
returns c =
    let many : c.new.result.many ≡ c.args.gates =
    mathlib.Core.Path.sym (many_of c.new.result) ∙ ap (λ (y : HandState). length y.peers) c.new.ensures ∙ length-replicate c.args.gates new_gate_peer in
    record {
      held = c.new.ensures;
      keys = take_new c.new.result.many 255 no_gate_keys (omega arith) ∙ ap (λ (n : ℕ). replicate n no_gate_keys) many;
    }
