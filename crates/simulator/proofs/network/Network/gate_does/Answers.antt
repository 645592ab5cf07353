use Rattle.std.proofs.Common.{vec_items, sym, refl, ◌∙◌, arith}
use Rattle.std.proofs.lemmas.List.{length-map}
use Rattle.gateway.specs.State.{state_of as gate_state}
use Rattle.handset.specs.State.{state_of as hand_state}
use Rattle.simulator.specs.Model.{world_of}
use Rattle.simulator.proofs.Happens.{no_gate_acts, gate_may_not}
use Rattle.simulator.proofs.network.Network.gate_does.Goals as goal
use Rattle.simulator.proofs.network.Network.gate_does.Goals.{else-gate-len-via-then-gate-len+else-gate_may, else-gate-len-via-else-gate-len}

pub returns-else-gate-len : goal.returns-else-gate-len
returns-else-gate-len c =
    let d = c.args.self.now in
    elim c.else-gate-len.branch [
      | else-gate-len-via-then-gate-len+else-gate_may w ↦
          let others = w.len-then-gate-len.ensures ∙ d.hands.ok.0 ∙ sym (length-map (vec_items d.hands) hand_state) in
          let p = gate_may_not (world_of d) c.args.gate c.args.act w.len-then-gate-len.result others (sym w.gate_may.ensures ∙ w.if-gate_may.false) in
          (p.0, refl, p.1)
      | else-gate-len-via-else-gate-len w ↦
          let size = d.gates.ok.0 in
          let long = length-map (vec_items d.gates) gate_state in
          let t = w.if-gate-len.false in
          let u = c.len.ensures in
          let p = no_gate_acts (world_of d) c.args.gate c.args.act (omega arith) in
          (p.0, refl, p.1)
    ]
