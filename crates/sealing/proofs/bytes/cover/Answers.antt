use Rattle.std.proofs.Common.{◌+◌, ◌++◌, ◌<◌, ℕ, List, length, get_or, take, drop, set, ap, ◌∙◌, arith}
use lib.Bits.{bit_xor}
use Rattle.std.proofs.lemmas.List.{set-get_or, take_rest}
use Rattle.sealing.specs.Seal.{cover}
use Rattle.sealing.proofs.Loops.{cover_more, cover_ended, cover_all}
use Rattle.sealing.proofs.bytes.cover.Goals as goal

pub returns-in_default : goal.returns-in_default
returns-in_default c =
    set-get_or c.loop-byte.text c.loop-byte.byte-index 0
    ∙ cover_ended c.loop-byte.text c.loop-byte.stream.now c.loop-byte.byte-index _ (omega arith) c.loop-byte.invariant

pub loop-byte-preserved : goal.loop-byte-preserved
loop-byte-preserved c =
    let i = c.loop-byte.byte-index in
    let stream = c.loop-byte.stream.now in
    let h : i < length c.loop-byte.text = omega arith in
    let text : List ℕ = set c.loop-byte.text i (bit_xor (get_or c.loop-byte.text i 0) (get_or stream 0 0)) in
    ap (λ (s : List ℕ). take (i + 1) text ++ cover (drop (i + 1) text) s) (take_rest stream 1)
    ∙ cover_more c.loop-byte.text stream i _ h c.loop-byte.invariant

pub returns : goal.returns
returns c = cover_all c.loop-byte.text c.loop-byte.stream.now c.loop-byte.byte-index _ (omega arith) c.loop-byte.invariant
