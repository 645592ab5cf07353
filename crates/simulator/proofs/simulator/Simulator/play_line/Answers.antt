use Rattle.promise.proofs.Reach.{kept}
use Rattle.simulator.specs.Model.{world_of}
use Rattle.simulator.proofs.simulator.Simulator.play_line.Goals as goal

pub returns-in-Ok-None-clause-kept : goal.returns-in-Ok-None-clause-kept
returns-in-Ok-None-clause-kept c = kept (world_of c.args.self.now.network) c.args.self.now.reached

pub returns-in-Err-clause-kept : goal.returns-in-Err-clause-kept
returns-in-Err-clause-kept c = kept (world_of c.args.self.now.network) c.args.self.now.reached
