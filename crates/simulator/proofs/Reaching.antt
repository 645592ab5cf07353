-- A command leads from a world that can be reached to one.
use Rattle.std.proofs.Common.{Some, None, Ok, Err, Option, Result, sym, subst}
use Rattle.protocol.specs.World.{World, Event}
use Rattle.promise.specs.Reach.{Reached}
use Rattle.promise.proofs.Reach.{reached_more}
use Rattle.script.specs.declared.command.Command.{Command}
use Rattle.simulator.specs.declared.log.Played.{Played}
use Rattle.simulator.specs.declared.log.Unplayed.{Unplayed}
use Rattle.simulator.specs.declared.log.Unplayed.TheVariants.{Absent, Full, NoMemory}
use Rattle.simulator.specs.Play.{event_of, goes_on, Plays}

goes_on_lem : (w : World) (e : Option Event) → Reached w → Reached (goes_on e w)
goes_on_lem w None r = r
goes_on_lem w (Some e) r = reached_more w e r

pub reached_played : (w v : World) (c : Command) (r : Result Played Unplayed) → Plays r c w v → Reached w → Reached v
reached_played w v c (Ok p) h r = subst Reached (sym h.2) (goes_on_lem w (event_of c w) r)
reached_played w v c (Err Absent) h r = subst Reached (sym h.2) r
reached_played w v c (Err Full) h r = subst Reached (sym h.1) r
reached_played w v c (Err NoMemory) h r = subst Reached (sym h) r
