use Rattle.std.proofs.Common.{rules}
use Rattle.protocol.specs.Held.{nonce_of, pair_of}
use Rattle.protocol.specs.Rules.{hand_begin}
use Rattle.handset.proofs.handset.Handset.begin.Goals as goal

pub returns : goal.returns
returns c =
    let pair = pair_of c.args.gate c.args.s c.args.anonce (nonce_of 1 c.args.s c.args.self.now.draws) in
    let began = c.at.ensures (hand_begin pair) (λ x y e bounded step. search rules) in
    search rules
