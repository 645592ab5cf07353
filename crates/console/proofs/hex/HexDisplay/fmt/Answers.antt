use Rattle.std.proofs.Common.{get_or, ap, ◌∙◌, rules}
use Rattle.std.specs.Fmt.{styled_digits_output}
use Rattle.console.proofs.Digits.{put_byte, two_digits}
use Rattle.console.proofs.hex.HexDisplay.fmt.Goals as goal

pub loop-byte-preserved : goal.loop-byte-preserved
loop-byte-preserved g c plain =
    let bs = c.args.self.now.0.now in
    let i = c.loop-byte.byte-index in
    let two = ap (styled_digits_output c.in_radix.result) c.laid_out.ensures ∙ two_digits _ (get_or bs i 0) (search rules) c.in_radix.ensures in
    put_byte g.W.Write.write_str_gives c.args.f.now c.loop-byte.f c.write.new.self bs i _ c.loop-byte-test.true two (c.loop-byte.invariant plain) c.in_ok-write.ensures.writes
