use Rattle.std.proofs.Common.{◌&&◌, eqb, length, sym, ◌∙◌, ap, arith}
use Rattle.sealing.specs.Seal.{same_bytes}
use Rattle.sealing.proofs.Loops.{other_length, same_more}
use Rattle.sealing.proofs.bytes.same_bytes.Goals as goal

pub returns-then-x-y : goal.returns-then-x-y
returns-then-x-y c = sym (other_length c.args.x.now c.args.y.now c.if-x-y.true)

pub loop-a-preserved : goal.loop-a-preserved
loop-a-preserved c =
    let step = c.in-Some.ensures.steps in
    let left = c.next.new.self in (
      omega (arith, ap length step.0, ap length step.1),
      sym (same_more c.in-Some.a.now c.in-Some.b.now c.loop-a.difference left.a.rest.now left.b.rest.now)
          ∙ (λ i. eqb c.loop-a.difference 0 && same_bytes (sym step.0 i) (sym step.1 i))
          ∙ c.loop-a.invariant.1,
    )
