use Rattle.std.proofs.Common.{ℕ, take, replicate, sym, refl, ap, ◌∙◌}
use Rattle.link.specs.Hands.{no_gate_keys}
use Rattle.link.proofs.Tables.{take_anew}
use Rattle.handradio.proofs.held.HandLink.wipe.Goals as goal

pub returns : goal.returns
returns c =
    let l = c.args.self.now in
    record { keys = ap (λ (n : ℕ). take l.end.many (replicate n no_gate_keys)) (sym l.whole) ∙ take_anew l.end.many l.keys no_gate_keys; same = refl }
