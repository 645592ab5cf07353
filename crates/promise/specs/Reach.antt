-- What is promised of one world, if it can be reached.
use Rattle.std.specs.Prelude.{◌≡◌, List, length}
use Rattle.protocol.specs.World.{World, start, Event, after}
use Rattle.protocol.specs.Promise.{DrawnOnce, NeverTwice, OwnWords, Delivered, BroadcastOnce, OneKey, WayOn, WayOpen}

-- some events lead to it, from the start with as many gates and handhelds
abbrev pub Reached : World → Type 0
Reached w = ∥ ((es : List Event) × (w ≡ after es (start (length w.gates) (length w.hands)))) ∥₁

-- the promises of one world
pub record Kept (w : World) : Type 0 where
  pub drawn : DrawnOnce w
  pub once : NeverTwice w
  pub own : OwnWords w
  pub delivered : Delivered w
  pub broadcast : BroadcastOnce w
  pub key : OneKey w
  pub way : WayOn w
  pub «open» : WayOpen w
