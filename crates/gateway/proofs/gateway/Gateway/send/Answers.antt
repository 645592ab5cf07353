use Rattle.std.proofs.Common.{rules}
use Rattle.protocol.specs.Rules.{gate_send}
use Rattle.gateway.proofs.gateway.Gateway.send.Goals as goal

pub returns : goal.returns
returns c = c.at.ensures (gate_send c.args.body) (λ x y e bounded step. search rules)
