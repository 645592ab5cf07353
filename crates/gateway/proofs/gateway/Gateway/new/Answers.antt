use Rattle.std.proofs.Common.{List, refl, ap}
use lib.ListN.{length-replicate}
use Rattle.std.proofs.lemmas.List.{take-replicate}
use Rattle.protocol.specs.declared.held.HandPeer.{HandPeer}
use Rattle.protocol.specs.Held.{GateState}
use Rattle.endpoint.proofs.Tables.{all_new}
use Rattle.gateway.specs.Peers.{is_bounded_peer}
use Rattle.gateway.proofs.gateway.Gateway.new.Goals as goal

pub invariant_of-result : goal.invariant_of-result
invariant_of-result c = record { few = c.requires; whole = rw length-replicate refl; bounded = all_new is_bounded_peer 512 _ refl }

pub returns : goal.returns
returns c =
    let State : List HandPeer → GateState = λ xs. record { draws = 0; group = 1; counter = 0; peers = xs } in
    ap State (take-replicate c.args.hands 512 _ c.requires)
