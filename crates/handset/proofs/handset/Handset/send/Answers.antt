use Rattle.std.proofs.Common.{rules}
use Rattle.protocol.specs.Rules.{hand_send}
use Rattle.handset.proofs.handset.Handset.send.Goals as goal

pub returns : goal.returns
returns c = c.at.ensures (hand_send c.args.body) (λ x y e bounded step. search rules)
