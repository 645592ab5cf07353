use Rattle.std.proofs.Common.{◌≡◌, true, List, take, set, get_or, refl, ap, ◌∙◌, arith, length-set, rules}
use lib.Seq.{take-set-lt}
use Rattle.protocol.specs.declared.held.HandPeer.{HandPeer}
use Rattle.protocol.specs.Held.{GateState, new_hand_peer}
use Rattle.endpoint.specs.Effects.{out_of}
use Rattle.endpoint.proofs.Tables.{all_set, all_at, applied}
use Rattle.gateway.specs.Peers.{is_bounded_peer}
use Rattle.gateway.specs.State.{state_of}
use Rattle.gateway.proofs.gateway.Gateway.at.Goals as goal

pub step-requires : goal.step-requires
step-requires g c =
    let xs = c.args.self.now.peers in
    let bounded : is_bounded_peer (get_or xs c.args.hand new_hand_peer) ≡ true = all_at is_bounded_peer xs c.args.hand _ c.args.self.now.bounded (omega arith) in
    search rules

pub invariant_of-self : goal.invariant_of-self
invariant_of-self g c =
    let xs = c.args.self.now.peers in
    let bounded = all_at is_bounded_peer xs c.args.hand _ c.args.self.now.bounded (omega arith) in
    record {
      few = c.args.self.now.few;
      whole = rw length-set c.args.self.now.whole;
      bounded = all_set is_bounded_peer xs c.args.hand c.step.new.arg2 c.args.self.now.bounded (c.requires.bounded _ _ _ bounded (record { shown = _; shows = refl; left = _; met = c.step.ensures; leaves = refl }));
    }

pub returns : goal.returns
returns g c rule follows =
    let n = c.args.self.now.many in
    let xs = c.args.self.now.peers in
    let i = c.args.hand in
    let z = c.step.new.arg2 in
    let bounded = all_at is_bounded_peer xs i _ c.args.self.now.bounded (omega arith) in
    let State : List HandPeer → GateState = λ ys. record { draws = c.args.draws; group = c.args.self.now.group; counter = c.args.self.now.counter; peers = ys } in
    ap (λ (ys : List HandPeer). out_of c.step.result (State ys)) (take-set-lt n xs i z c.if-hand-self.false)
    ∙ applied n xs (omega arith) rule (λ (x : HandPeer). State (set (take n xs) i x)) (state_of c.args.self.now) i _ new_hand_peer z c.step.result c.if-hand-self.false (follows _ _ _ bounded (record { shown = _; shows = refl; left = _; met = c.step.ensures; leaves = refl }))
