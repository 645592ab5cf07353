-- What holds of bytes: every run on bytes in which no tag was forged is a run on rows, and no keystream covers two texts.
use Rattle.std.specs.Prelude.{◌≡◌, ℕ, ◌<◌, ◌≤◌, Bool, true, false, List, [], ◌∷◌, Some, None, Ok, Option}
use Rattle.frame.specs.declared.message.Pair.{Pair}
use Rattle.frame.specs.declared.message.Direction.TheVariants.{Up, Down}
use Rattle.frame.specs.declared.message.Message.{Message}
use Rattle.frame.specs.declared.message.Message.TheVariants.{Begin, Reply, Take, Taken, Renew, Load, All}
use Rattle.frame.specs.declared.message.Refusal.{Refusal}
use Rattle.frame.specs.Row.{message_of}
use Rattle.octets.specs.declared.parts.Cut.{Cut}
use Rattle.octets.specs.Cutting.{cut}
use Rattle.octets.specs.Laws.{row_of}
use Rattle.protocol.specs.declared.acts.HandAct.TheVariants.{SendUp}
use Rattle.protocol.specs.declared.acts.GateAct.TheVariants.{Invite, SendDown, Broadcast}
use Rattle.protocol.specs.Held.{HandState, GateState, nonce_of, pair_of}
use Rattle.protocol.specs.Rules.{limit, is_body}
use Rattle.protocol.specs.Calls.{is_tagged}
use Rattle.frame.specs.declared.message.Node.TheVariants.{Gate, Hand}
use Rattle.protocol.specs.World.{Entry, start, gate, hand, Event, after}
use Rattle.protocol.specs.Promise.{Each, Key, Pairwise, Group, is_logged, gate_side, hand_side, StaysInUse}
use Rattle.sealing.specs.Secrets.{Secrets, has_entropy}
use Rattle.sealing.specs.Seal.{Sealed, stream_input, plaintext}
use Rattle.link.specs.declared.keys.GateKeys.{GateKeys}
use Rattle.link.specs.declared.keys.TagKey.TheVariants.{Missing}
use Rattle.link.specs.Keys.{Reception, refused}
use Rattle.link.specs.Hands.{gate_keys, hand_tag_key, hand_hears_bytes}
use Rattle.link.specs.Gates.{GateRing, hand_keys, gate_tag_key, gate_hears_bytes}
use Rattle.link.specs.World.{Fleet, gate_secrets, hand_secrets, SealedEntry, ByteWorld, start_bytes, gate_ring, hand_ring, ByteEvent, GateDoes, HandDoes, GateHears, HandHears, happens_bytes, after_bytes, bytes_of, Unforged}

-- as many ends as a message can name: a gate in one byte, a handheld in two
abbrev pub Nameable : (gates hands : ℕ) → Type 0
Nameable g s = (g ≤ 256) × (s ≤ 65536)

abbrev pub entries_of : List SealedEntry → List Entry
entries_of [] = []
entries_of (e ∷ es) = record { node = e.node; message = e.«sealed».message } ∷ entries_of es

-- ---- 1. A run on bytes is a run on rows

-- Each event on bytes is one event on rows, or none; what was said in bytes are the messages of the transcript.
abbrev pub Refines : Type 0
Refines =
    (F : Fleet) (g s : ℕ) (es : List ByteEvent) → Nameable g s → Unforged F es (start_bytes F g s) →
    let w = after_bytes F es (start_bytes F g s) in
    (rs : List Event) × (w.rows ≡ after rs (start g s)) × (entries_of w.said ≡ w.rows.transcript)

-- No pair comes into use twice at one end, on bytes either.
abbrev pub InstalledOnceBytes : Type 0
InstalledOnceBytes =
    (F : Fleet) (g s : ℕ) (es fs hs : List ByteEvent) (i j : ℕ) (p : Pair) → Nameable g s →
    let u = after_bytes F es (start_bytes F g s) in let v = after_bytes F fs u in let w = after_bytes F hs v in
    Unforged F es (start_bytes F g s) → Unforged F fs u → Unforged F hs v →
    StaysInUse (gate_side i j) u.rows v.rows w.rows p × StaysInUse (hand_side i j) u.rows v.rows w.rows p

-- ---- 2. No keystream covers two texts

-- of any two at different places
abbrev pub Pairs : {A : Type 0} → (A → A → Type 0) → List A → Type 0
Pairs R [] = Unit {0}
Pairs R (e ∷ es) = Each (R e) es × Pairs R es

-- the key that a message is tagged and sealed under, by its name
abbrev pub key_name : Message → Option Key
key_name (Begin g h a) = None
key_name (Reply p) = Some (Pairwise p)
key_name (Take n c p) = Some (Pairwise p)
key_name (Taken p) = Some (Pairwise p)
key_name (Renew r n c p) = Some (Pairwise p)
key_name (Load d c b p) = Some (Pairwise p)
key_name (All g n c b) = Some (Group g n)

abbrev pub is_sealed : Message → Bool
is_sealed (Begin g h a) = false
is_sealed (Reply p) = false
is_sealed (Take n c p) = true
is_sealed (Taken p) = false
is_sealed (Renew r n c p) = true
is_sealed (Load d c b p) = true
is_sealed (All g n c b) = true

-- what is assumed of the keys that messages are sealed under: those of different names differ
abbrev pub Apart : Sealed → Sealed → Type 0
Apart e f = is_sealed e.message ≡ true → is_sealed f.message ≡ true → e.key ≡ f.key → key_name e.message ≡ key_name f.message

abbrev pub KeysApart : List SealedEntry → Type 0
KeysApart es = Pairs (λ (e f : SealedEntry). Apart e.«sealed» f.«sealed») es

abbrev pub is_take : Message → Bool
is_take (Begin g h a) = false
is_take (Reply p) = false
is_take (Take n c p) = true
is_take (Taken p) = false
is_take (Renew r n c p) = false
is_take (Load d c b p) = false
is_take (All g n c b) = false

-- under one keystream there is one text, and only a take is said again under it
abbrev pub OneText : Sealed → Sealed → Type 0
OneText e f =
    is_sealed e.message ≡ true → is_sealed f.message ≡ true → stream_input e.key e.message ≡ stream_input f.key f.message →
    (plaintext e.group e.message ≡ plaintext f.group f.message) × (is_take e.message ≡ true) × (is_take f.message ≡ true)

-- Of any two messages said, the same keystream input means the same text, and that both are takes.
abbrev pub StreamsOnce : Type 0
StreamsOnce =
    (F : Fleet) (g s : ℕ) (es : List ByteEvent) → Nameable g s → Unforged F es (start_bytes F g s) →
    let w = after_bytes F es (start_bytes F g s) in
    KeysApart w.said → Pairs (λ (e f : SealedEntry). OneText e.«sealed» f.«sealed») w.said

-- ---- 3. What changes nothing

-- Refused bytes change nothing, say nothing and deliver nothing.
abbrev pub RefusedBytesAreQuiet : Type 0
RefusedBytesAreQuiet =
    (v : Secrets) (n : ℕ) (x : List ℕ) (e : Refusal) →
    ((y : HandState) (ks : List GateKeys) → (hand_hears_bytes v n x y ks).refusal ≡ Some e → hand_hears_bytes v n x y ks ≡ refused e y ks)
    × ((y : GateState) (r : GateRing) → (gate_hears_bytes v n x y r).refusal ≡ Some e → gate_hears_bytes v n x y r ≡ refused e y r)

-- it neither changed nor said nor delivered anything, refused or not
abbrev pub Quiet : {A K : Type 0} → A → K → Reception A K → Type 0
Quiet y ks r = (r.held ≡ y) × (r.keys ≡ ks) × (r.says ≡ []) × (r.delivers ≡ [])

-- Without the key of its tag hearing any bytes changes nothing; a begin has no tag.
abbrev pub NothingWithoutKey : Type 0
NothingWithoutKey =
    (v : Secrets) (n : ℕ) (x : List ℕ) (c : Cut) → cut x ≡ Ok c → is_tagged (message_of (row_of c)) ≡ true →
    ((y : HandState) (ks : List GateKeys) → hand_tag_key y ks c.nonces.anonce c.nonces.snonce (message_of (row_of c)) ≡ Missing → Quiet y ks (hand_hears_bytes v n x y ks))
    × ((y : GateState) (r : GateRing) → gate_tag_key v y r c.nonces.anonce c.nonces.snonce (message_of (row_of c)) ≡ Missing → Quiet y r (gate_hears_bytes v n x y r))

-- ---- 4. A way on

-- the bytes that were said last
abbrev pub latest : Fleet → List SealedEntry → List ℕ
latest F [] = []
latest F (e ∷ es) = bytes_of F e

-- an end hears what was said last
abbrev pub tell_hand : Fleet → (j : ℕ) → ByteWorld → ByteWorld
tell_hand F j w = happens_bytes F (HandHears j (latest F w.said)) w

abbrev pub tell_gate : Fleet → (i : ℕ) → ByteWorld → ByteWorld
tell_gate F i w = happens_bytes F (GateHears i (latest F w.said)) w

-- invite, and then begin, reply, take and taken, each heard as it was said
abbrev pub handshake_bytes : Fleet → (i j : ℕ) → ByteWorld → ByteWorld
handshake_bytes F i j w = tell_gate F i (tell_hand F j (tell_gate F i (tell_hand F j (happens_bytes F (GateDoes i (Invite j)) w))))

-- what is said next is delivered
abbrev pub DownGoes : Fleet → (i j : ℕ) → Pair → (body : ℕ) → ByteWorld → Type 0
DownGoes F i j p b w = is_logged (Hand j) (Load Down 0 b p) (tell_hand F j (happens_bytes F (GateDoes i (SendDown j b)) w)).rows.deliveries ≡ true

abbrev pub UpGoes : Fleet → (i j : ℕ) → Pair → (body : ℕ) → ByteWorld → Type 0
UpGoes F i j p b w = is_logged (Gate i) (Load Up 0 b p) (tell_gate F i (happens_bytes F (HandDoes j (SendUp i b)) w)).rows.deliveries ≡ true

abbrev pub AllGoes : Fleet → (i j : ℕ) → (body : ℕ) → ByteWorld → Type 0
AllGoes F i j b w =
    is_logged (Hand j) (All i (gate i w.rows).group (gate i w.rows).counter b) (tell_hand F j (happens_bytes F (GateDoes i (Broadcast b)) w)).rows.deliveries ≡ true

-- both have the pair in use with one key, to the last byte, and frames go through
abbrev pub JoinedBytes : Fleet → (i j : ℕ) → Pair → ByteWorld → Type 0
JoinedBytes F i j p w =
    ((gate_side i j w.rows).key ≡ Some p) × ((hand_side i j w.rows).key ≡ Some p)
    × ((hand_keys j (gate_ring i w)).installed ≡ (gate_keys i (hand_ring j w)).installed)
    × ((b : ℕ) → is_body b ≡ true → DownGoes F i j p b w × UpGoes F i j p b w × ((gate i w.rows).counter < limit → AllGoes F i j b w))

-- From any state, while both have draws and entropy left, the next handshake joins them.
abbrev pub WayOnBytes : Type 0
WayOnBytes =
    (F : Fleet) (g s : ℕ) (es : List ByteEvent) → Nameable g s → Unforged F es (start_bytes F g s) →
    let w = after_bytes F es (start_bytes F g s) in
    (i j : ℕ) → i < g → j < s → (gate i w.rows).draws < limit → (hand j w.rows).draws < limit →
    has_entropy (gate_secrets F i) (gate i w.rows).draws ≡ true → has_entropy (hand_secrets F j) (hand j w.rows).draws ≡ true →
    JoinedBytes F i j (pair_of i j (nonce_of 0 i (gate i w.rows).draws) (nonce_of 1 j (hand j w.rows).draws)) (handshake_bytes F i j w)
