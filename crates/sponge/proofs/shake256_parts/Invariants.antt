use Rattle.std.proofs.Common.{◌≡◌, ℕ, List, ◌++◌, take}
use Rattle.std.specs.List.{flat_map}
use Rattle.sponge.specs.Sponge.{shake256}
use Rattle.sponge.specs.Output.{output}
use Rattle.sponge.proofs.shake256_parts.Given as goal

abbrev pub invariant-loop-part : goal.invariant-loop-part
invariant-loop-part l = (more : List ℕ) (n : ℕ) → output l.sponge more n ≡ shake256 (flat_map (λ part. part.now) (take l.part-index l.parts) ++ more) n
