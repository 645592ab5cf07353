use Rattle.std.proofs.Common.{rules}
use Rattle.protocol.specs.Rules.{gate_reply, gate_taken, gate_load}
use Rattle.endpoint.proofs.Reading.{small_load}
use Rattle.gateway.proofs.gateway.Gateway.hear_message.Goals as goal

pub at-requires-in-Load-Up-default-default-default-clause-callable : goal.at-requires-in-Load-Up-default-default-default-clause-callable
at-requires-in-Load-Up-default-default-default-clause-callable c =
    let small = small_load c.args.message c.requires _ _ _ _ c.in-Load-Up-default-default-default.is in
    λ x bounded. search rules

pub returns-in-Reply : goal.returns-in-Reply
returns-in-Reply c =
    let y = c.args.self.now in
    let replied = c.at.ensures (gate_reply y.group y.counter c.in-Reply.pair) (λ x y e bounded step. search rules) in
    search rules

pub returns-in-Taken : goal.returns-in-Taken
returns-in-Taken c =
    let taken = c.at-in-Taken.ensures (gate_taken c.in-Taken.pair) (λ x y e bounded step. search rules) in
    search rules

pub returns-in-Load-Up-default-default-default : goal.returns-in-Load-Up-default-default-default
returns-in-Load-Up-default-default-default c =
    let m = c.in-Load-Up-default-default-default in
    let loaded = c.at-in-Load-Up-default-default-default.ensures (gate_load m.counter m.body m.pair) (λ x y e bounded step. search rules) in
    search rules
