use Rattle.std.proofs.Common.{ℕ, List, take, replicate, sym, ap, ◌∙◌}
use Rattle.link.specs.declared.keys.HandKeys.{HandKeys}
use Rattle.link.specs.Gates.{GateRing, no_hand_keys}
use Rattle.link.proofs.Tables.{take_anew}
use Rattle.gateradio.proofs.held.GateLink.wipe.Goals as goal

pub returns-clause-keys : goal.returns-clause-keys
returns-clause-keys c =
    let l = c.args.self.now in
    let Ring : List HandKeys → GateRing = λ ks. record { group = l.group; peers = ks } in
    ap Ring (ap (λ (n : ℕ). take l.end.many (replicate n no_hand_keys)) (sym l.whole) ∙ take_anew l.end.many l.keys no_hand_keys)
