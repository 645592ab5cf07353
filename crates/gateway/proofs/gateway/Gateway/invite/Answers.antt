use Rattle.std.proofs.Common.{rules}
use Rattle.protocol.specs.Held.{nonce_of}
use Rattle.protocol.specs.Rules.{gate_invite}
use Rattle.gateway.proofs.gateway.Gateway.invite.Goals as goal

pub returns : goal.returns
returns c =
    let anonce = nonce_of 0 c.args.g c.args.self.now.draws in
    let invited = c.at.ensures (gate_invite c.args.g c.args.hand anonce) (λ x y e bounded step. search rules) in
    search rules
