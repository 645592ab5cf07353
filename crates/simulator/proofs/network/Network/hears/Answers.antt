use Rattle.std.proofs.Common.{sym, refl}
use Rattle.simulator.specs.Model.{world_of}
use Rattle.simulator.proofs.Happens.{from_nowhere}
use Rattle.simulator.proofs.network.Network.hears.Goals as goal

pub returns-then-not-is_from_here : goal.returns-then-not-is_from_here
returns-then-not-is_from_here c =
    let p = from_nowhere (world_of c.args.self.now) c.args.hand c.args.message.now (sym c.if-not-is_from_here.ensures) in
    (p.0, refl, p.1)
