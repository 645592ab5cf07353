use Rattle.promise.proofs.Reach.{kept}
use Rattle.simulator.specs.Model.{world_of}
use Rattle.simulator.proofs.Reaching.{reached_played}
use Rattle.simulator.proofs.simulator.Simulator.play.Goals as goal

pub returns-clause-kept : goal.returns-clause-kept
returns-clause-kept c =
    let d = c.args.self.now in
    let v = world_of c.play.new.self in
    kept v (reached_played (world_of d.network) v c.args.command c.play.result c.play.ensures d.reached)
