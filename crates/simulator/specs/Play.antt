-- What a command of the script does to the world.
use Rattle.std.specs.Prelude.{◌≡◌, ℕ, Bool, true, false, cond, not, ◌&&◌, reverse, length, Some, None, Ok, Err, Option, Result, nat_le, nat_lt, slice_index_or}
use Rattle.frame.specs.declared.message.Node.{Node}
use Rattle.frame.specs.declared.message.Node.TheVariants.{Gate, Hand}
use Rattle.frame.specs.declared.message.Message.{Message}
use Rattle.frame.specs.declared.message.Message.TheVariants.{Begin, Reply, Take, Taken, Renew, Load, All}
use Rattle.protocol.specs.Held.{nonce_of}
use Rattle.protocol.specs.declared.acts.HandAct.TheVariants.{SendUp, ForgetHand}
use Rattle.protocol.specs.declared.acts.GateAct.TheVariants.{Invite, SendDown, Broadcast, Rotate, Rekey, ForgetGate}
use Rattle.protocol.specs.Calls.{gate_may, hand_may}
use Rattle.protocol.specs.World.{Entry, World, hearer, Event, GateActs, HandActs, Hears, happens}
use Rattle.script.specs.declared.command.Command.{Command}
use Rattle.script.specs.declared.command.Command.TheVariants as command
use Rattle.simulator.specs.declared.log.Played.{Played}
use Rattle.simulator.specs.declared.log.Unplayed.{Unplayed}
use Rattle.simulator.specs.declared.log.Unplayed.TheVariants.{Absent, Full, NoMemory}
use Rattle.simulator.specs.Model.{Tells}

-- ---- the event of a command

abbrev pub no_entry : Entry
no_entry = record { node = Gate 0; message = Begin 0 0 (nonce_of 0 0 0) }

-- the n-th message ever sent, counted from 0
abbrev pub sent_at : ℕ → World → Message
sent_at n w = (slice_index_or (reverse w.transcript) n no_entry).message

-- none where no message was sent in that place
abbrev pub event_of : Command → World → Option Event
event_of (command.Invite g h) w = Some (GateActs g (Invite h))
event_of (command.Send g h b) w = Some (GateActs g (SendDown h b))
event_of (command.Broadcast g b) w = Some (GateActs g (Broadcast b))
event_of (command.Rotate g) w = Some (GateActs g Rotate)
event_of (command.Rekey g h) w = Some (GateActs g (Rekey h))
event_of (command.ForgetGate g) w = Some (GateActs g ForgetGate)
event_of (command.SendUp h g b) w = Some (HandActs h (SendUp g b))
event_of (command.ForgetHand h) w = Some (HandActs h ForgetHand)
event_of (command.Hear h n) w = cond (nat_lt n (length w.transcript)) (Some (Hears h (sent_at n w))) None
event_of (command.Begin g h a) w = Some (Hears 0 (Begin g h a))

abbrev pub goes_on : Option Event → World → World
goes_on None w = w
goes_on (Some e) w = happens e w

abbrev pub plays : Command → World → World
plays c w = goes_on (event_of c w) w

-- ---- ends that are not there

abbrev pub is_there : Node → World → Bool
is_there (Gate g) w = nat_lt g (length w.gates)
is_there (Hand h) w = nat_lt h (length w.hands)

-- an invented begin may name a gate that is not there
abbrev pub is_from_here : Message → World → Bool
is_from_here (Begin g h a) w = nat_lt g (length w.gates)
is_from_here (Reply p) w = true
is_from_here (Take n c p) w = true
is_from_here (Taken p) w = true
is_from_here (Renew r n c p) w = true
is_from_here (Load d c b p) w = true
is_from_here (All g n c b) w = true

abbrev pub is_absent : Event → World → Bool
is_absent (GateActs g a) w = not (nat_lt g (length w.gates) && gate_may (length w.hands) a)
is_absent (HandActs h a) w = not (nat_lt h (length w.hands) && hand_may (length w.gates) a)
is_absent (Hears s m) w = not (is_from_here m w && is_there (hearer s m) w)

abbrev pub absent_in : Option Event → World → Bool
absent_in None w = false
absent_in (Some e) w = is_absent e w

-- whether the command names a gate or a handheld that is not there
abbrev pub absent : Command → World → Bool
absent c w = absent_in (event_of c w) w

-- a step: what happened and what was told of it, or none, where an end is not there and so nothing happens
abbrev pub Goes : Option Played → Option Event → (before after : World) → Type 0
Goes (Some p) e w v = (absent_in e w ≡ false) × (v ≡ goes_on e w) × Tells p w v
Goes None e w v = (absent_in e w ≡ true) × (v ≡ w) × (goes_on e w ≡ w)

-- ---- no place for another message

-- what an end that hears it may answer
abbrev pub is_answered : Message → Bool
is_answered (Begin g h a) = true
is_answered (Reply p) = true
is_answered (Take n c p) = true
is_answered (Taken p) = false
is_answered (Renew r n c p) = false
is_answered (Load d c b p) = false
is_answered (All g n c b) = false

-- whether something may be said for it
abbrev pub may_say : Command → World → Bool
may_say (command.Invite g h) w = true
may_say (command.Send g h b) w = true
may_say (command.Broadcast g b) w = true
may_say (command.Rotate g) w = false
may_say (command.Rekey g h) w = true
may_say (command.ForgetGate g) w = false
may_say (command.SendUp h g b) w = true
may_say (command.ForgetHand h) w = false
may_say (command.Hear h n) w = nat_lt n (length w.transcript) && is_answered (sent_at n w)
may_say (command.Begin g h a) w = true

-- 10,000 messages were sent, and another may be said
abbrev pub overfull : Command → World → Bool
overfull c w = nat_le 10000 (length w.transcript) && may_say c w

-- ---- a command that is played, or not, and then nothing moves

abbrev pub Plays : Result Played Unplayed → Command → (before after : World) → Type 0
Plays (Ok p) c w v = (overfull c w ≡ false) × (absent c w ≡ false) × (v ≡ plays c w) × Tells p w v
Plays (Err Absent) c w v = (overfull c w ≡ false) × (absent c w ≡ true) × (v ≡ w) × (plays c w ≡ w)
Plays (Err Full) c w v = (overfull c w ≡ true) × (v ≡ w)
Plays (Err NoMemory) c w v = v ≡ w
