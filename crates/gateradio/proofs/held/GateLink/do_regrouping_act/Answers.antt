use Rattle.std.proofs.Common.{◌≡◌, ℕ, List, length, None, sym, refl, ap, ◌∙◌}
use Rattle.protocol.specs.Held.{GateState}
use Rattle.protocol.specs.Rules.{Out}
use Rattle.protocol.specs.Calls.{gate_does}
use Rattle.endpoint.specs.Effects.{out_of}
use Rattle.gateway.specs.State.{state_of}
use Rattle.sealing.specs.Secrets.{group_key}
use Rattle.link.specs.Gates.{regrouped}
use Rattle.link.proofs.Sizes.{gate_does_size}
use Rattle.gateradio.specs.State.{held_in, ring_of}
use Rattle.gateradio.proofs.Counts.{many_of, ring_at}
use Rattle.gateradio.proofs.Sealed.{sealed_by}
use Rattle.gateradio.proofs.held.GateLink.do_regrouping_act.Goals as goal

pub returns : goal.returns
returns g c =
    let l = c.args.self.now in
    let y = held_in l in
    let v = g.V.Vault.holds c.args.vault.now in
    let after = c.do_act-effect.new.self in
    let does = gate_does c.args.g (length y.peers) c.args.act y in
    let out : out_of c.do_act-effect.result (state_of after) ≡ does = c.do_act-effect.ensures ∙ ap (λ (n : ℕ). gate_does c.args.g n c.args.act y) (sym (many_of l.end)) in
    let group = c.group_key-self.ensures ∙ ap (λ (o : Out GateState). group_key v o.held.group) out in
    sealed_by v.hash l after c.group_key-self.result None c.do_act-effect.result does (regrouped v c.args.g c.args.act y (ring_of l).peers) c.sealed.result
    refl out (gate_does_size y c.args.g (length y.peers) c.args.act) (ap (λ (q : List ℕ). ring_at q l.keys l.end.many) group) c.sealed.ensures.says c.sealed.ensures.delivers
