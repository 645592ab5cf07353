-- Any number of ends over bytes, and an air in which anybody may hand any bytes to any end, at any time.
use Rattle.std.specs.Prelude.{◌≡◌, ℕ, zero, suc, ◌+◌, Bool, true, false, cond, ◌||◌, List, [], ◌∷◌, map, length, replicate, Ok, nat_lt, slice_index_or, slice_set}
use Rattle.frame.specs.declared.message.Node.{Node}
use Rattle.frame.specs.declared.message.Node.TheVariants.{Gate, Hand}
use Rattle.frame.specs.Row.{message_of}
use Rattle.octets.specs.declared.parts.Cut.{Cut}
use Rattle.octets.specs.Cutting.{cut}
use Rattle.octets.specs.Laws.{row_of}
use Rattle.protocol.specs.declared.acts.HandAct.{HandAct}
use Rattle.protocol.specs.declared.acts.GateAct.{GateAct}
use Rattle.protocol.specs.Held.{HandState, GateState}
use Rattle.protocol.specs.Rules.{Out}
use Rattle.protocol.specs.World.{World, start, gate, hand, put_gate, put_hand}
use Rattle.sealing.specs.Secrets.{Hash, Secrets}
use Rattle.sealing.specs.Seal.{Sealed, same_bytes, octets_sealed}
use Rattle.link.specs.declared.keys.GateKeys.{GateKeys}
use Rattle.link.specs.declared.keys.TagKey.{TagKey}
use Rattle.link.specs.declared.keys.TagKey.TheVariants.{Key}
use Rattle.link.specs.Keys.{Reception, tag_right}
use Rattle.link.specs.Hands.{no_gate_keys, hand_tag_key, hand_hears_bytes, hand_acts_bytes}
use Rattle.link.specs.Gates.{GateRing, new_ring, gate_tag_key, gate_hears_bytes, gate_acts_bytes}

-- ---- the secrets of all ends

pub record Fleet : Type 0 where
  pub hash : Hash
  pub sized : (x : List ℕ) (n : ℕ) → length (hash x n) ≡ n
  pub shared : (gate hand : ℕ) → List ℕ
  pub own : (gate : ℕ) → List ℕ
  pub gate_entropy : (gate : ℕ) → List ℕ
  pub hand_entropy : (hand : ℕ) → List ℕ

abbrev pub gate_secrets : Fleet → (gate : ℕ) → Secrets
gate_secrets F g = record { hash = F.hash; sized = F.sized; shared = F.shared g; own = F.own g; entropy = F.gate_entropy g }

-- a handheld has no secret of its own
abbrev pub hand_secrets : Fleet → (hand : ℕ) → Secrets
hand_secrets F s = record { hash = F.hash; sized = F.sized; shared = λ g. F.shared g s; own = replicate 32 0; entropy = F.hand_entropy s }

-- ---- the world

-- what was said, by whom, with all that it was sealed with
pub record SealedEntry : Type 0 where
  pub node : Node
  pub «sealed» : Sealed

-- what the rules know of all ends, what each end holds beside it, and what was ever said, the latest first
pub record ByteWorld : Type 0 where
  pub rows : World
  pub gates : List GateRing
  pub hands : List (List GateKeys)
  pub said : List SealedEntry

-- the rings of n gates, from gate g on, for so many handhelds
abbrev pub rings_from : Fleet → (g n hands : ℕ) → List GateRing
rings_from F g zero s = []
rings_from F g (suc n) s = new_ring (gate_secrets F g) s ∷ rings_from F (g + 1) n s

abbrev pub start_bytes : Fleet → (gates hands : ℕ) → ByteWorld
start_bytes F g s = record { rows = start g s; gates = rings_from F 0 g s; hands = replicate s (replicate g no_gate_keys); said = [] }

abbrev pub no_ring : GateRing
no_ring = record { group = []; peers = [] }

abbrev pub gate_ring : (gate : ℕ) → ByteWorld → GateRing
gate_ring g w = slice_index_or w.gates g no_ring

abbrev pub hand_ring : (hand : ℕ) → ByteWorld → List GateKeys
hand_ring s w = slice_index_or w.hands s []

-- ---- one step is one call of one end

-- what comes of it for the rules
abbrev pub out_of : {A K : Type 0} → Reception A K → Out A
out_of r = record { held = r.held; says = map (λ (s : Sealed). s.message) r.says; delivers = r.delivers }

abbrev pub said_by : Node → List Sealed → List SealedEntry → List SealedEntry
said_by n [] es = es
said_by n (s ∷ ss) es = said_by n ss (record { node = n; «sealed» = s } ∷ es)

abbrev pub put_gate_bytes : (gate : ℕ) → Reception GateState GateRing → ByteWorld → ByteWorld
put_gate_bytes g r w =
    record { rows = put_gate g (out_of r) w.rows; gates = slice_set w.gates g r.keys; hands = w.hands; said = said_by (Gate g) r.says w.said }

abbrev pub put_hand_bytes : (hand : ℕ) → Reception HandState (List GateKeys) → ByteWorld → ByteWorld
put_hand_bytes s r w =
    record { rows = put_hand s (out_of r) w.rows; gates = w.gates; hands = slice_set w.hands s r.keys; said = said_by (Hand s) r.says w.said }

pub data ByteEvent : Type 0 where
  GateDoes : (gate : ℕ) → GateAct → ByteEvent
  HandDoes : (hand : ℕ) → HandAct → ByteEvent
  GateHears : (gate : ℕ) → (bytes : List ℕ) → ByteEvent
  HandHears : (hand : ℕ) → (bytes : List ℕ) → ByteEvent

abbrev pub is_gate : (gate : ℕ) → ByteWorld → Bool
is_gate g w = nat_lt g (length w.rows.gates)

abbrev pub is_hand : (hand : ℕ) → ByteWorld → Bool
is_hand s w = nat_lt s (length w.rows.hands)

abbrev pub happens_bytes : Fleet → ByteEvent → ByteWorld → ByteWorld
happens_bytes F (GateDoes g a) w = cond (is_gate g w) (put_gate_bytes g (gate_acts_bytes (gate_secrets F g) g a (gate g w.rows) (gate_ring g w)) w) w
happens_bytes F (HandDoes s a) w = cond (is_hand s w) (put_hand_bytes s (hand_acts_bytes a (hand s w.rows) (hand_ring s w)) w) w
happens_bytes F (GateHears g x) w = cond (is_gate g w) (put_gate_bytes g (gate_hears_bytes (gate_secrets F g) g x (gate g w.rows) (gate_ring g w)) w) w
happens_bytes F (HandHears s x) w = cond (is_hand s w) (put_hand_bytes s (hand_hears_bytes (hand_secrets F s) s x (hand s w.rows) (hand_ring s w)) w) w

-- one event after the other
unfoldable pub after_bytes : Fleet → List ByteEvent → ByteWorld → ByteWorld
after_bytes F [] w = w
after_bytes F (e ∷ es) w = after_bytes F es (happens_bytes F e w)

-- ---- what is assumed of tags: none was forged

abbrev pub bytes_of : Fleet → SealedEntry → List ℕ
bytes_of F e = octets_sealed F.hash e.«sealed»

abbrev pub is_said : Fleet → (bytes : List ℕ) → List SealedEntry → Bool
is_said F x [] = false
is_said F x (e ∷ es) = same_bytes x (bytes_of F e) || is_said F x es

-- bytes whose tag is right under the key that the hearer has for it were said before, by someone
abbrev pub Genuine : Fleet → (bytes : List ℕ) → (Cut → TagKey) → List SealedEntry → Type 0
Genuine F x key_for es = (c : Cut) (k : List ℕ) → cut x ≡ Ok c → key_for c ≡ Key k → tag_right F.hash k x c ≡ true → is_said F x es ≡ true

abbrev pub NotForged : Fleet → ByteEvent → ByteWorld → Type 0
NotForged F (GateDoes g a) w = Unit {0}
NotForged F (HandDoes s a) w = Unit {0}
NotForged F (GateHears g x) w = Genuine F x (λ (c : Cut). gate_tag_key (gate_secrets F g) (gate g w.rows) (gate_ring g w) c.nonces.anonce c.nonces.snonce (message_of (row_of c))) w.said
NotForged F (HandHears s x) w = Genuine F x (λ (c : Cut). hand_tag_key (hand s w.rows) (hand_ring s w) c.nonces.anonce c.nonces.snonce (message_of (row_of c))) w.said

-- of a whole run
unfoldable pub Unforged : Fleet → List ByteEvent → ByteWorld → Type 0
Unforged F [] w = Unit {0}
Unforged F (e ∷ es) w = NotForged F e w × Unforged F es (happens_bytes F e w)
