use Rattle.std.proofs.Common.{vec_items, sym, ◌∙◌, rules}
use Rattle.protocol.specs.Held.{new_gate, new_hand}
use Rattle.gateway.specs.State.{state_of as gate_state}
use Rattle.handset.specs.State.{state_of as hand_state}
use Rattle.simulator.proofs.Made.{made}
use Rattle.simulator.proofs.network.Network.new.Goals as goal

pub returns : goal.returns
returns c =
    let gates = c.in_ok-many.field-0 in
    let hands = c.in_ok-many-2.field-0 in
    let gates_made =
    made gate_state (new_gate c.args.hands) (vec_items gates) c.args.gates (sym gates.ok.0 ∙ c.in_ok-many.ensures.0)
    (λ k d lt. let call = c.in_ok-many.ensures.1 k d lt in search rules) in
    let hands_made =
    made hand_state (new_hand c.args.gates) (vec_items hands) c.args.hands (sym hands.ok.0 ∙ c.in_ok-many-2.ensures.0)
    (λ k d lt. let call = c.in_ok-many-2.ensures.1 k d lt in search rules) in
    search rules
