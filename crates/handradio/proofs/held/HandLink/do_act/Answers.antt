use Rattle.std.proofs.Common.{◌≡◌, ℕ, length, take, None, sym, refl, ap, ◌∙◌}
use Rattle.protocol.specs.Held.{HandState}
use Rattle.protocol.specs.Rules.{Out}
use Rattle.protocol.specs.Calls.{hand_does}
use Rattle.endpoint.specs.Effects.{out_of}
use Rattle.handset.specs.State.{state_of}
use Rattle.link.specs.Hands.{hand_seals}
use Rattle.link.proofs.Sizes.{hand_does_size}
use Rattle.link.proofs.Outcomes.{heard_by_lem}
use Rattle.handradio.specs.State.{held_in, ring_of}
use Rattle.handradio.proofs.Counts.{many_of, many_kept}
use Rattle.handradio.proofs.held.HandLink.do_act.Goals as goal

pub returns : goal.returns
returns g c =
    let l = c.args.self.now in
    let y = held_in l in
    let after = c.do_act-effect.new.self in
    let out : out_of c.do_act-effect.result (state_of after) ≡ hand_does (length y.peers) c.args.act y =
    c.do_act-effect.ensures ∙ ap (λ (n : ℕ). hand_does n c.args.act y) (sym (many_of l.end)) in
    let many = many_kept l.end after (ap (λ (o : Out HandState). length o.held.peers) out ∙ hand_does_size y (length y.peers) c.args.act) in
    heard_by_lem (g.V.Vault.holds c.args.vault.now).hash hand_seals None c.do_act-effect.result (hand_does (length y.peers) c.args.act y) (state_of after) (ring_of l) (take after.many l.keys) c.sealed.result
    refl out c.sealed.ensures.says c.sealed.ensures.delivers (ap (λ (n : ℕ). take n l.keys) many)
