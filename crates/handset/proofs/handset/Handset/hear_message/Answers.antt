use Rattle.std.proofs.Common.{rules}
use Rattle.protocol.specs.Rules.{hand_take, hand_renew, hand_load, hand_all}
use Rattle.endpoint.proofs.Reading.{small_round, small_load, small_all}
use Rattle.handset.proofs.handset.Handset.hear_message.Goals as goal

pub at-requires-in-Renew-clause-callable : goal.at-requires-in-Renew-clause-callable
at-requires-in-Renew-clause-callable c =
    let small = small_round c.args.message c.requires _ _ _ _ c.in-Renew.is in
    λ x bounded. search rules

pub at-requires-in-Load-Down-default-default-default-clause-callable : goal.at-requires-in-Load-Down-default-default-default-clause-callable
at-requires-in-Load-Down-default-default-default-clause-callable c =
    let small = small_load c.args.message c.requires _ _ _ _ c.in-Load-Down-default-default-default.is in
    λ x bounded. search rules

pub at-requires-in-All-clause-callable : goal.at-requires-in-All-clause-callable
at-requires-in-All-clause-callable c =
    let small = small_all c.args.message c.requires _ _ _ _ c.in-All.is in
    λ x bounded. search rules

pub returns-in-Take : goal.returns-in-Take
returns-in-Take c =
    let m = c.in-Take in
    let took = c.at.ensures (hand_take m.group m.counter m.pair) (λ x y e bounded step. search rules) in
    search rules

pub returns-in-Renew : goal.returns-in-Renew
returns-in-Renew c =
    let m = c.in-Renew in
    let renewed = c.at-in-Renew.ensures (hand_renew m.round m.group m.counter m.pair) (λ x y e bounded step. search rules) in
    search rules

pub returns-in-Load-Down-default-default-default : goal.returns-in-Load-Down-default-default-default
returns-in-Load-Down-default-default-default c =
    let m = c.in-Load-Down-default-default-default in
    let loaded = c.at-in-Load-Down-default-default-default.ensures (hand_load m.counter m.body m.pair) (λ x y e bounded step. search rules) in
    search rules

pub returns-in-All : goal.returns-in-All
returns-in-All c =
    let m = c.in-All in
    let heard = c.at-in-All.ensures (hand_all m.gate m.group m.counter m.body) (λ x y e bounded step. search rules) in
    search rules
