use Rattle.std.proofs.Common.{◌≡◌, true, List, take, set, get_or, refl, ap, ◌∙◌, arith, length-set, rules}
use lib.Seq.{take-set-lt}
use Rattle.protocol.specs.declared.held.GatePeer.{GatePeer}
use Rattle.protocol.specs.Held.{HandState, new_gate_peer}
use Rattle.endpoint.specs.Effects.{out_of}
use Rattle.endpoint.proofs.Tables.{all_set, all_at, applied}
use Rattle.handset.specs.Peers.{is_bounded_peer}
use Rattle.handset.specs.State.{state_of}
use Rattle.handset.proofs.handset.Handset.at.Goals as goal

pub step-requires : goal.step-requires
step-requires g c =
    let xs = c.args.self.now.peers in
    let bounded : is_bounded_peer (get_or xs c.args.gate new_gate_peer) ≡ true = all_at is_bounded_peer xs c.args.gate _ c.args.self.now.bounded (omega arith) in
    search rules

pub invariant_of-self : goal.invariant_of-self
invariant_of-self g c =
    let xs = c.args.self.now.peers in
    let bounded = all_at is_bounded_peer xs c.args.gate _ c.args.self.now.bounded (omega arith) in
    record { fits = rw length-set c.args.self.now.fits; bounded = all_set is_bounded_peer xs c.args.gate c.step.new.arg2 c.args.self.now.bounded (c.requires.bounded _ _ _ bounded (record { shown = _; shows = refl; left = _; met = c.step.ensures; leaves = refl })) }

pub returns : goal.returns
returns g c rule follows =
    let n = c.args.self.now.many in
    let xs = c.args.self.now.peers in
    let i = c.args.gate in
    let z = c.step.new.arg2 in
    let bounded = all_at is_bounded_peer xs i _ c.args.self.now.bounded (omega arith) in
    let State : List GatePeer → HandState = λ ys. record { draws = c.args.draws; peers = ys } in
    ap (λ (ys : List GatePeer). out_of c.step.result (State ys)) (take-set-lt n xs i z c.if-gate-self.false)
    ∙ applied n xs c.args.self.now.fits rule (λ (x : GatePeer). State (set (take n xs) i x)) (state_of c.args.self.now) i _ new_gate_peer z c.step.result c.if-gate-self.false (follows _ _ _ bounded (record { shown = _; shows = refl; left = _; met = c.step.ensures; leaves = refl }))
