-- What is promised of every world that can be reached, whatever is lost, heard again, invented or forgotten.
-- Each promise is a type, and a term of it is its proof.
use Rattle.std.specs.Prelude.{◌≡◌, ℕ, ◌^◌, ◌<◌, ◌≤◌, Bool, true, false, cond, ◌&&◌, ◌||◌, List, [], ◌∷◌, ◌++◌, length, Some, None, Option, ◌==◌, ◌≢◌}
use Rattle.frame.specs.declared.message.Node.{Node}
use Rattle.frame.specs.declared.message.Node.TheVariants.{Gate, Hand}
use Rattle.frame.specs.declared.message.Nonce.{Nonce}
use Rattle.frame.specs.declared.message.Pair.{Pair}
use Rattle.frame.specs.declared.message.Direction.{Direction}
use Rattle.frame.specs.declared.message.Direction.TheVariants.{Up, Down}
use Rattle.frame.specs.declared.message.Message.{Message}
use Rattle.frame.specs.declared.message.Message.TheVariants.{Begin, Reply, Take, Taken, Renew, Load, All}
use Rattle.frame.specs.Row.{code}
use Rattle.protocol.specs.declared.held.Endpoint.{Endpoint}
use Rattle.protocol.specs.declared.held.Handshake.{Handshake}
use Rattle.protocol.specs.Held.{nonce_of, pair_of, is_this}
use Rattle.protocol.specs.declared.acts.HandAct.TheVariants.{SendUp}
use Rattle.protocol.specs.declared.acts.GateAct.TheVariants.{Invite, SendDown, Broadcast}
use Rattle.protocol.specs.Rules.{limit, is_body, gate_peer, hand_peer}
use Rattle.protocol.specs.World.{Entry, World, start, gate, hand, same_row, Event, GateActs, HandActs, Hears, after}

-- ---- words

-- it holds of each
abbrev pub Each : {A : Type 0} → (A → Type 0) → List A → Type 0
Each P [] = Unit {0}
Each P (x ∷ xs) = P x × Each P xs

-- no two are the same
abbrev pub Distinct : {A : Type 0} → List A → Type 0
Distinct [] = Unit {0}
Distinct (x ∷ xs) = Each (λ y. x ≢ y) xs × Distinct xs

-- it holds of every world that can be reached
abbrev pub Always : (World → Type 0) → Type 0
Always P = (g s : ℕ) (es : List Event) → P (after es (start g s))

abbrev pub same_node : Node → Node → Bool
same_node (Gate g) (Gate h) = g == h
same_node (Gate g) (Hand s) = false
same_node (Hand s) (Gate g) = false
same_node (Hand s) (Hand t) = s == t

-- a message stands in a log under this end's name
abbrev pub is_logged : Node → Message → List Entry → Bool
is_logged n m [] = false
is_logged n m (e ∷ es) = (same_node n e.node && same_row (code m) (code e.message)) || is_logged n m es

-- the end of gate i for handheld j, and of handheld j for gate i
abbrev pub gate_side : (i j : ℕ) → World → Endpoint
gate_side i j w = (hand_peer j (gate i w)).end

abbrev pub hand_side : (i j : ℕ) → World → Endpoint
hand_side i j w = (gate_peer i (hand j w)).end

-- ---- 1. Once

-- the nonces that an end drew to say a message
abbrev pub draws_of : Message → List Nonce
draws_of (Begin g h a) = a ∷ []
draws_of (Reply p) = p.snonce ∷ []
draws_of (Take n c p) = []
draws_of (Taken p) = []
draws_of (Renew r n c p) = []
draws_of (Load d c b p) = []
draws_of (All g n c b) = []

abbrev pub draws_in : List Entry → List Nonce
draws_in [] = []
draws_in (e ∷ es) = draws_of e.message ++ draws_in es

abbrev pub NamesDrawer : Node → Nonce → Type 0
NamesDrawer (Gate g) a = (a.kind ≡ 0) × (a.node ≡ g)
NamesDrawer (Hand s) a = (a.kind ≡ 1) × (a.node ≡ s)

-- No nonce is drawn twice, by anyone, and each names the end that drew it.
abbrev pub DrawnOnce : World → Type 0
DrawnOnce w = Distinct (draws_in w.transcript) × Each (λ (e : Entry). Each (NamesDrawer e.node) (draws_of e.message)) w.transcript

abbrev pub NeverFell : Endpoint → Endpoint → Type 0
NeverFell e f = (e.send ≤ f.send) × (e.floor ≤ f.floor) × (e.round ≤ f.round)

-- in use at the first and at the third moment, so at the second, and its counters did not fall
abbrev pub StaysInUse : (World → Endpoint) → (u v w : World) → Pair → Type 0
StaysInUse side u v w p = (side u).key ≡ Some p → (side w).key ≡ Some p → ((side v).key ≡ Some p) × NeverFell (side u) (side v)

-- No pair comes into use twice at one end.
abbrev pub InstalledOnce : Type 0
InstalledOnce =
    (g s : ℕ) (es fs hs : List Event) (i j : ℕ) (p : Pair) →
    let u = after es (start g s) in let v = after fs u in let w = after hs v in
    StaysInUse (gate_side i j) u v w p × StaysInUse (hand_side i j) u v w p

-- a key by its name: a pair's, or a gate's group key by its number
pub data Key : Type 0 where
  Pairwise : Pair → Key
  Group : (gate number : ℕ) → Key

-- what a key's counter counts: frames each way, and renewals
pub data Stream : Type 0 where
  Frames : Direction → Stream
  Renewals : Stream

pub record Seal : Type 0 where
  pub key : Key
  pub stream : Stream
  pub counter : ℕ

-- what a message is sealed under; a take's keystream is fixed by its pair and group key, so that one said again
-- seals the same text again
abbrev pub seals_of : Message → List Seal
seals_of (Begin g h a) = []
seals_of (Reply p) = []
seals_of (Take n c p) = []
seals_of (Taken p) = []
seals_of (Renew r n c p) = record { key = Pairwise p; stream = Renewals; counter = r } ∷ []
seals_of (Load d c b p) = record { key = Pairwise p; stream = Frames d; counter = c } ∷ []
seals_of (All g n c b) = record { key = Group g n; stream = Frames Down; counter = c } ∷ []

abbrev pub seals_in : List Entry → List Seal
seals_in [] = []
seals_in (e ∷ es) = seals_of e.message ++ seals_in es

-- No counter is used twice under one key: loads either way, renewals, frames to all.
abbrev pub NeverTwice : World → Type 0
NeverTwice w = Distinct (seals_in w.transcript)

-- ---- 2. Delivered as sent, once, in order

-- whose words a message is
abbrev pub sender : Message → Node
sender (Begin g h a) = Gate g
sender (Reply p) = Hand p.hand
sender (Take n c p) = Gate p.gate
sender (Taken p) = Hand p.hand
sender (Renew r n c p) = Gate p.gate
sender (Load Up c b p) = Hand p.hand
sender (Load Down c b p) = Gate p.gate
sender (All g n c b) = Gate g

abbrev pub is_hand : Node → Bool
is_hand (Gate g) = false
is_hand (Hand s) = true

-- to whom a frame may be delivered: a load to the other end of its pair, a frame to all to any handheld
abbrev pub is_receiver : Node → Message → Bool
is_receiver n (Begin g h a) = false
is_receiver n (Reply p) = false
is_receiver n (Take c k p) = false
is_receiver n (Taken p) = false
is_receiver n (Renew r k c p) = false
is_receiver n (Load Up c b p) = same_node n (Gate p.gate)
is_receiver n (Load Down c b p) = same_node n (Hand p.hand)
is_receiver n (All g k c b) = is_hand n

-- Every message was sent by the end that it names.
abbrev pub OwnWords : World → Type 0
OwnWords w = Each (λ (e : Entry). sender e.message ≡ e.node) w.transcript

-- under one key a later frame has a higher counter
abbrev pub Below : Seal → Seal → Type 0
Below s t = s.key ≡ t.key → s.stream ≡ t.stream → s.counter < t.counter

abbrev pub Earlier : Entry → Entry → Type 0
Earlier e d = e.node ≡ d.node → Each (λ (s : Seal). Each (Below s) (seals_of d.message)) (seals_of e.message)

-- of deliveries, the latest first
abbrev pub Rising : List Entry → Type 0
Rising [] = Unit {0}
Rising (d ∷ ds) = Each (λ (e : Entry). Earlier e d) ds × Rising ds

-- What is delivered was sent by the other end, to whom it is delivered, and under each key the counters rise.
abbrev pub Delivered : World → Type 0
Delivered w =
    Each (λ (d : Entry). (is_logged (sender d.message) d.message w.transcript ≡ true) × (is_receiver d.node d.message ≡ true)) w.deliveries
    × Rising w.deliveries

-- the frames to all that one end delivered, by gate, group key and counter
abbrev pub broadcast_of : Message → List Seal
broadcast_of (Begin g h a) = []
broadcast_of (Reply p) = []
broadcast_of (Take n c p) = []
broadcast_of (Taken p) = []
broadcast_of (Renew r n c p) = []
broadcast_of (Load d c b p) = []
broadcast_of (All g n c b) = seals_of (All g n c b)

abbrev pub broadcasts_to : Node → List Entry → List Seal
broadcasts_to n [] = []
broadcasts_to n (e ∷ es) = cond (same_node n e.node) (broadcast_of e.message) [] ++ broadcasts_to n es

-- A handheld delivers a frame to all at most once, whatever it forgot in between.
abbrev pub BroadcastOnce : World → Type 0
BroadcastOnce w = (j : ℕ) → Distinct (broadcasts_to (Hand j) w.deliveries)

-- ---- 3. One key

-- the gate gave this pair with some group key
abbrev pub takes : Message → Option Pair
takes (Begin g h a) = None
takes (Reply p) = None
takes (Take n c p) = Some p
takes (Taken p) = None
takes (Renew r n c p) = None
takes (Load d c b p) = None
takes (All g n c b) = None

abbrev pub is_given : Node → Pair → List Entry → Bool
is_given n p [] = false
is_given n p (e ∷ es) = (same_node n e.node && is_this p (takes e.message)) || is_given n p es

-- a pair of gate i and handheld j, of a nonce that each drew, which the handheld offered and the gate gave
abbrev pub Agreed : (i j : ℕ) → Pair → List Entry → Type 0
Agreed i j p es =
    (p.gate ≡ i) × (p.hand ≡ j) × (is_logged (Gate i) (Begin i j p.anonce) es ≡ true) × (is_logged (Hand j) (Reply p) es ≡ true) × (is_given (Gate i) p es ≡ true)

-- Who has a key in use has it with the other: a handheld's was given by the gate in answer to its reply, a gate's
-- was confirmed by the handheld; and a gate's is not newer than the handheld's, and as new only if it is the same.
abbrev pub OneKey : World → Type 0
OneKey w =
    (i j : ℕ) (p q : Pair) → i < length w.gates → j < length w.hands →
    ((hand_side i j w).key ≡ Some q → Agreed i j q w.transcript)
    × ((gate_side i j w).key ≡ Some p → Agreed i j p w.transcript × (is_logged (Hand j) (Taken p) w.transcript ≡ true))
    × ((gate_side i j w).key ≡ Some p → (hand_side i j w).key ≡ Some q → (p.snonce.index ≤ q.snonce.index) × (p.snonce.index ≡ q.snonce.index → p ≡ q))

-- ---- 4. A way on

-- begin is heard, and what follows from it
abbrev pub handshake : (i j : ℕ) → Pair → (group counter : ℕ) → List Event
handshake i j p n c = Hears j (Begin i j p.anonce) ∷ Hears j (Reply p) ∷ Hears j (Take n c p) ∷ Hears j (Taken p) ∷ []

abbrev pub DeliversDown : (i j : ℕ) → Pair → (body : ℕ) → World → Type 0
DeliversDown i j p b w = is_logged (Hand j) (Load Down 0 b p) (after (GateActs i (SendDown j b) ∷ Hears j (Load Down 0 b p) ∷ []) w).deliveries ≡ true

abbrev pub DeliversUp : (i j : ℕ) → Pair → (body : ℕ) → World → Type 0
DeliversUp i j p b w = is_logged (Gate i) (Load Up 0 b p) (after (HandActs j (SendUp i b) ∷ Hears j (Load Up 0 b p) ∷ []) w).deliveries ≡ true

abbrev pub DeliversAll : (i j : ℕ) → (body : ℕ) → World → Type 0
DeliversAll i j b w =
    let m = All i (gate i w).group (gate i w).counter b in
    is_logged (Hand j) m (after (GateActs i (Broadcast b) ∷ Hears j m ∷ []) w).deliveries ≡ true

-- both have this pair in use, and frames go through: a load each way and, while the gate may send to all, one to all
abbrev pub Joined : (i j : ℕ) → Pair → World → Type 0
Joined i j p w =
    ((gate_side i j w).key ≡ Some p) × ((hand_side i j w).key ≡ Some p)
    × ((b : ℕ) → is_body b ≡ true → DeliversDown i j p b w × DeliversUp i j p b w × ((gate i w).counter < limit → DeliversAll i j b w))

-- the numbers of ends fit a row
abbrev pub Fits : World → Type 0
Fits w = (length w.gates ≤ 2 ^ 49) × (length w.hands ≤ 2 ^ 49)

-- From any state, while both can draw, the handshake with both ends' next nonces joins them.
abbrev pub WayOn : World → Type 0
WayOn w =
    Fits w → (i j : ℕ) → i < length w.gates → j < length w.hands → (gate i w).draws < limit → (hand j w).draws < limit →
    let p = pair_of i j (nonce_of 0 i (gate i w).draws) (nonce_of 1 j (hand j w).draws) in
    Joined i j p (after (GateActs i (Invite j) ∷ handshake i j p (gate i w).group (gate i w).counter) w)

-- While a handshake is open, its begin was sent, and heard once more it joins them with no new invitation, however
-- many replies were heard before.
abbrev pub WayOpen : World → Type 0
WayOpen w =
    Fits w → (i j : ℕ) (o : Handshake) → i < length w.gates → j < length w.hands → (hand_peer j (gate i w)).handshake ≡ Some o → (hand j w).draws < limit →
    let p = pair_of i j o.anonce (nonce_of 1 j (hand j w).draws) in
    (is_logged (Gate i) (Begin i j o.anonce) w.transcript ≡ true) × Joined i j p (after (handshake i j p (gate i w).group (gate i w).counter) w)

-- ---- the whole

abbrev pub Main : Type 0
Main =
    Always DrawnOnce × InstalledOnce × Always NeverTwice × Always OwnWords × Always Delivered × Always BroadcastOnce × Always OneKey × Always WayOn × Always WayOpen
