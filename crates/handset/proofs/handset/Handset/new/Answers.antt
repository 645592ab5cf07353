use Rattle.std.proofs.Common.{◌≤◌, List, refl, ap, arith}
use lib.ListN.{length-replicate}
use Rattle.std.proofs.lemmas.List.{take-replicate}
use Rattle.protocol.specs.declared.held.GatePeer.{GatePeer}
use Rattle.protocol.specs.Held.{HandState}
use Rattle.endpoint.proofs.Tables.{all_new}
use Rattle.handset.specs.Peers.{is_bounded_peer}
use Rattle.handset.proofs.handset.Handset.new.Goals as goal

pub invariant_of-result : goal.invariant_of-result
invariant_of-result c =
    let few : c.args.gates ≤ 255 = omega arith in
    record { fits = rw length-replicate few; bounded = all_new is_bounded_peer 255 _ refl }

pub returns : goal.returns
returns c =
    let few : c.args.gates ≤ 255 = omega arith in
    let State : List GatePeer → HandState = λ xs. record { draws = 0; peers = xs } in
    ap State (take-replicate c.args.gates 255 _ few)
