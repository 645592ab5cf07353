use Rattle.std.proofs.Common.{◌≡◌, ◌-◌, ◌++◌, length, take}
use Rattle.octets.specs.Low.{low_first}
use Rattle.octets.proofs.numbers.put.Given as goal

abbrev pub invariant-loop-byte : goal.invariant-loop-byte
invariant-loop-byte l = take l.byte-index l.out ++ low_first (length l.out - l.byte-index) l.n ≡ low_first (length l.initial.out) l.initial.n
