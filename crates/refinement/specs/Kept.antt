-- What follows for runs on bytes from what holds of runs on rows.
use Rattle.std.specs.Prelude.{◌≡◌, ℕ, ◌⊎◌, List}
use Rattle.protocol.specs.World.{Event, happens}
use Rattle.promise.specs.Reach.{Kept}
use Rattle.link.specs.World.{Fleet, start_bytes, ByteEvent, happens_bytes, after_bytes, NotForged, Unforged}
use Rattle.link.specs.Theorems.{Nameable}

-- Whatever happens on bytes is for the rules one event or none.
abbrev pub EachEventRefines : Type 0
EachEventRefines =
    (F : Fleet) (g s : ℕ) (es : List ByteEvent) (e : ByteEvent) → Nameable g s → Unforged F es (start_bytes F g s) →
    let w = after_bytes F es (start_bytes F g s) in let v = happens_bytes F e w in
    NotForged F e w → (v.rows ≡ w.rows) ⊎ ((r : Event) × (v.rows ≡ happens r w.rows))

-- Every run on bytes in which no tag was forged keeps what is promised of one world.
abbrev pub KeptBytes : Type 0
KeptBytes = (F : Fleet) (g s : ℕ) (es : List ByteEvent) → Nameable g s → Unforged F es (start_bytes F g s) → Kept (after_bytes F es (start_bytes F g s)).rows
