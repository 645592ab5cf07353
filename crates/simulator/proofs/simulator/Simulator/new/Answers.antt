use Rattle.std.proofs.Common.{◌≤◌, length, sym, subst, arith}
use Rattle.protocol.specs.World.{World}
use Rattle.promise.specs.Reach.{Reached}
use Rattle.promise.proofs.Reach.{reached_start}
use Rattle.simulator.proofs.simulator.Simulator.new.Goals as goal

pub invariant_of-result : goal.invariant_of-result
invariant_of-result c =
    let e = sym c.in_ok-network.ensures in
    record {
      few = subst (λ (w : World). length w.transcript ≤ 10000) e (omega arith);
      reached = subst (λ (w : World). Reached w) e (reached_start c.args.gates c.args.hands);
    }
