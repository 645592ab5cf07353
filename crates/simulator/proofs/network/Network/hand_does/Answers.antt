use Rattle.std.proofs.Common.{vec_items, sym, refl, ◌∙◌, arith}
use Rattle.std.proofs.lemmas.List.{length-map}
use Rattle.gateway.specs.State.{state_of as gate_state}
use Rattle.handset.specs.State.{state_of as hand_state}
use Rattle.simulator.specs.Model.{world_of}
use Rattle.simulator.proofs.Happens.{no_hand_acts, hand_may_not}
use Rattle.simulator.proofs.network.Network.hand_does.Goals as goal
use Rattle.simulator.proofs.network.Network.hand_does.Goals.{else-hand-len-via-then-hand-len+else-hand_may, else-hand-len-via-else-hand-len}

pub returns-else-hand-len : goal.returns-else-hand-len
returns-else-hand-len c =
    let d = c.args.self.now in
    elim c.else-hand-len.branch [
      | else-hand-len-via-then-hand-len+else-hand_may w ↦
          let others = w.len-then-hand-len.ensures ∙ d.gates.ok.0 ∙ sym (length-map (vec_items d.gates) gate_state) in
          let p = hand_may_not (world_of d) c.args.hand c.args.act w.len-then-hand-len.result others (sym w.hand_may.ensures ∙ w.if-hand_may.false) in
          (p.0, refl, p.1)
      | else-hand-len-via-else-hand-len w ↦
          let size = d.hands.ok.0 in
          let long = length-map (vec_items d.hands) hand_state in
          let t = w.if-hand-len.false in
          let u = c.len.ensures in
          let p = no_hand_acts (world_of d) c.args.hand c.args.act (omega arith) in
          (p.0, refl, p.1)
    ]
