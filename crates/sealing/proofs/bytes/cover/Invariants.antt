use Rattle.std.proofs.Common.{◌≡◌, ◌++◌, take, drop}
use Rattle.sealing.specs.Seal.{cover}
use Rattle.sealing.proofs.bytes.cover.Given as goal

abbrev pub invariant-loop-byte : goal.invariant-loop-byte
invariant-loop-byte l = take l.byte-index l.text ++ cover (drop l.byte-index l.text) l.stream ≡ cover l.initial.text l.initial.stream
