use Rattle.std.proofs.Common.{rules}
use Rattle.protocol.specs.Rules.{gate_rekey}
use Rattle.gateway.proofs.gateway.Gateway.rekey.Goals as goal

pub returns : goal.returns
returns c = c.at.ensures (gate_rekey c.args.self.now.group c.args.self.now.counter) (λ x y e bounded step. search rules)
