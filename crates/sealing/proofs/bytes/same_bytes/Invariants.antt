use Rattle.std.proofs.Common.{◌≡◌, ◌&&◌, eqb, length}
use Rattle.sealing.specs.Seal.{same_bytes}
use Rattle.sealing.proofs.bytes.same_bytes.Given as goal

-- what is left of both is as long, and decides if nothing differed so far
abbrev pub invariant-loop-a : goal.invariant-loop-a
invariant-loop-a l =
    (length l.a-iterator.a.rest.now ≡ length l.a-iterator.b.rest.now)
    × ((eqb l.difference 0 && same_bytes l.a-iterator.a.rest.now l.a-iterator.b.rest.now) ≡ same_bytes l.x l.y)
