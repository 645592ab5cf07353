use Rattle.std.proofs.Common.{◌≡◌, ℕ, length, None, sym, refl, ap, ◌∙◌}
use Rattle.protocol.specs.Calls.{gate_does}
use Rattle.endpoint.specs.Effects.{out_of}
use Rattle.gateway.specs.State.{state_of}
use Rattle.link.proofs.Sizes.{gate_does_size}
use Rattle.gateradio.specs.State.{held_in, ring_of}
use Rattle.gateradio.proofs.Counts.{many_of}
use Rattle.gateradio.proofs.Sealed.{sealed_by}
use Rattle.gateradio.proofs.held.GateLink.do_act.Goals as goal

pub returns : goal.returns
returns g c =
    let l = c.args.self.now in
    let y = held_in l in
    let after = c.do_act-effect.new.self in
    let does = gate_does c.args.g (length y.peers) c.args.act y in
    let out : out_of c.do_act-effect.result (state_of after) ≡ does = c.do_act-effect.ensures ∙ ap (λ (n : ℕ). gate_does c.args.g n c.args.act y) (sym (many_of l.end)) in
    sealed_by (g.V.Vault.holds c.args.vault.now).hash l after l.group None c.do_act-effect.result does (ring_of l) c.sealed.result
    refl out (gate_does_size y c.args.g (length y.peers) c.args.act) refl c.sealed.ensures.says c.sealed.ensures.delivers
