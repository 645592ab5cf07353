use Rattle.std.proofs.Common.{◌≡◌, ◌-◌, ◌<◌, ◌≤◌, length, append-nil, arith, length-set, take_all}
use Rattle.octets.specs.Low.{low_first}
use Rattle.octets.proofs.Low.{put_more}
use Rattle.octets.proofs.numbers.put.Goals as goal

pub loop-byte-preserved : goal.loop-byte-preserved
loop-byte-preserved c =
    let h : c.loop-byte.byte-index < length c.loop-byte.out = omega arith in
    rw length-set (put_more c.loop-byte.out c.loop-byte.byte-index c.loop-byte.n _ h c.loop-byte.invariant)

pub returns : goal.returns
unfolding low_first
returns c =
    let h : length c.loop-byte.out ≤ c.loop-byte.byte-index = omega arith in
    let z : length c.loop-byte.out - c.loop-byte.byte-index ≡ 0 = omega arith in
    rw (take_all c.loop-byte.byte-index c.loop-byte.out h, z, append-nil) at c.loop-byte.invariant
