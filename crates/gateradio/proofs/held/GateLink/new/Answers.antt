use Rattle.std.proofs.Common.{◌≡◌, ℕ, List, length, replicate, sym, ap, ◌∙◌, arith}
use lib.ListN.{length-replicate}
use Rattle.protocol.specs.Held.{GateState, new_hand_peer}
use Rattle.link.specs.declared.keys.HandKeys.{HandKeys}
use Rattle.link.specs.Gates.{GateRing, no_hand_keys}
use Rattle.link.proofs.Tables.{take_new}
use Rattle.gateradio.proofs.Counts.{many_of}
use Rattle.gateradio.proofs.held.GateLink.new.Goals as goal

pub returns : goal.returns
returns g c =
    let v = g.V.Vault.holds c.args.vault.now in
    let few = c.if-hands-gt-HANDS.false in
    let many : c.new.result.many ≡ c.args.hands =
    sym (many_of c.new.result) ∙ ap (λ (y : GateState). length y.peers) c.new.ensures ∙ length-replicate c.args.hands new_hand_peer in
    let keys = take_new c.new.result.many 512 no_hand_keys (omega arith) ∙ ap (λ (n : ℕ). replicate n no_hand_keys) many in
    let Ring : List ℕ → List HandKeys → GateRing = λ q ks. record { group = q; peers = ks } in
    (few, c.new.ensures, ap (λ (ks : List HandKeys). Ring c.group_key.result ks) keys ∙ ap (λ (q : List ℕ). Ring q (replicate c.args.hands no_hand_keys)) c.group_key.ensures)
