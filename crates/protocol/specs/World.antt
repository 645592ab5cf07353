-- Any number of gates and handhelds, and the air between: whatever was sent may be heard again, at any time, or never.
use Rattle.std.specs.Prelude.{ℕ, Bool, true, false, cond, ◌&&◌, ◌||◌, List, [], ◌∷◌, length, replicate, ◌==◌, nat_lt, slice_index_or, slice_set}
use Rattle.frame.specs.declared.message.Node.{Node}
use Rattle.frame.specs.declared.message.Node.TheVariants.{Gate, Hand}
use Rattle.frame.specs.declared.message.Direction.TheVariants.{Up, Down}
use Rattle.frame.specs.declared.message.Message.{Message}
use Rattle.frame.specs.declared.message.Message.TheVariants.{Begin, Reply, Take, Taken, Renew, Load, All}
use Rattle.frame.specs.Row.{code}
use Rattle.protocol.specs.Held.{HandState, new_hand, GateState, new_gate}
use Rattle.protocol.specs.declared.acts.HandAct.{HandAct}
use Rattle.protocol.specs.declared.acts.GateAct.{GateAct}
use Rattle.protocol.specs.Rules.{Out}
use Rattle.protocol.specs.Calls.{is_tagged, hand_hears_row, gate_hears_row, hand_does, gate_does}

-- a message, with who sent it or to whom it was delivered
pub record Entry : Type 0 where
  pub node : Node
  pub message : Message

-- all ends, what was ever sent and what was ever delivered, the latest first
pub record World : Type 0 where
  pub gates : List GateState
  pub hands : List HandState
  pub transcript : List Entry
  pub deliveries : List Entry

abbrev pub start : (gates hands : ℕ) → World
start g s = record { gates = replicate g (new_gate s); hands = replicate s (new_hand g); transcript = []; deliveries = [] }

abbrev pub gate : ℕ → World → GateState
gate g w = slice_index_or w.gates g (record { draws = 0; group = 0; counter = 0; peers = [] })

abbrev pub hand : ℕ → World → HandState
hand s w = slice_index_or w.hands s (record { draws = 0; peers = [] })

-- ---- one step is one call of one end

-- messages of one end put down one after the other
abbrev pub logged : Node → List Message → List Entry → List Entry
logged n [] es = es
logged n (m ∷ ms) es = logged n ms (record { node = n; message = m } ∷ es)

abbrev pub put_gate : ℕ → Out GateState → World → World
put_gate g o w =
    record { gates = slice_set w.gates g o.held; hands = w.hands; transcript = logged (Gate g) o.says w.transcript; deliveries = logged (Gate g) o.delivers w.deliveries }

abbrev pub put_hand : ℕ → Out HandState → World → World
put_hand s o w =
    record { gates = w.gates; hands = slice_set w.hands s o.held; transcript = logged (Hand s) o.says w.transcript; deliveries = logged (Hand s) o.delivers w.deliveries }

-- an end hears a row whose tag is right
abbrev pub heard_by : Node → (row : List ℕ) → World → World
heard_by (Gate g) row w = cond (nat_lt g (length w.gates)) (put_gate g (gate_hears_row g (length w.hands) row true (gate g w)) w) w
heard_by (Hand s) row w = cond (nat_lt s (length w.hands)) (put_hand s (hand_hears_row (length w.gates) s row true (hand s w)) w) w

-- ---- what may be heard, and by whom

abbrev pub same_row : List ℕ → List ℕ → Bool
same_row [] [] = true
same_row [] (y ∷ ys) = false
same_row (x ∷ xs) [] = false
same_row (x ∷ xs) (y ∷ ys) = x == y && same_row xs ys

abbrev pub is_sent : Message → List Entry → Bool
is_sent m [] = false
is_sent m (e ∷ es) = same_row (code m) (code e.message) || is_sent m es

-- a begin may be anybody's; all else is tagged, so it was sent as it is
abbrev pub may_be_heard : Message → List Entry → Bool
may_be_heard m es = cond (is_tagged m) (is_sent m es) true

-- the end that a message names; of a frame to all, handheld s
abbrev pub hearer : (s : ℕ) → Message → Node
hearer s (Begin g h a) = Hand h
hearer s (Reply p) = Gate p.gate
hearer s (Take n c p) = Hand p.hand
hearer s (Taken p) = Gate p.gate
hearer s (Renew r n c p) = Hand p.hand
hearer s (Load Up c b p) = Gate p.gate
hearer s (Load Down c b p) = Hand p.hand
hearer s (All g n c b) = Hand s

-- ---- all that can happen

pub data Event : Type 0 where
  GateActs : (gate : ℕ) → GateAct → Event
  HandActs : (hand : ℕ) → HandAct → Event
  Hears : (hand : ℕ) → Message → Event

abbrev pub happens : Event → World → World
happens (GateActs g a) w = cond (nat_lt g (length w.gates)) (put_gate g (gate_does g (length w.hands) a (gate g w)) w) w
happens (HandActs s a) w = cond (nat_lt s (length w.hands)) (put_hand s (hand_does (length w.gates) a (hand s w)) w) w
happens (Hears s m) w = cond (may_be_heard m w.transcript) (heard_by (hearer s m) (code m) w) w

-- one event after the other
unfoldable pub after : List Event → World → World
after [] w = w
after (e ∷ es) w = after es (happens e w)
