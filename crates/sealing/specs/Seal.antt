-- A message sealed and tagged, and opened again, over any hash function.
use Rattle.std.specs.Prelude.{ℕ, Bool, true, false, ◌&&◌, List, [], ◌∷◌, ◌++◌, drop, replicate, codes, ◌==◌, bit_xor, slice_index}
use Rattle.frame.specs.declared.message.Message.{Message}
use Rattle.frame.specs.declared.message.Message.TheVariants.{Begin, Reply, Take, Taken, Renew, Load, All}
use Rattle.frame.specs.Row.{flag}
use Rattle.octets.specs.Low.{low_first, from_low}
use Rattle.octets.specs.Layout.{octets_of, tagged_of}
use Rattle.sealing.specs.Secrets.{Hash, digest}

abbrev pub same_bytes : List ℕ → List ℕ → Bool
same_bytes [] [] = true
same_bytes [] (y ∷ ys) = false
same_bytes (x ∷ xs) [] = false
same_bytes (x ∷ xs) (y ∷ ys) = x == y && same_bytes xs ys

-- exclusive or, byte by byte; its own inverse, whatever the lengths
unfoldable pub cover : (text stream : List ℕ) → List ℕ
cover [] s = []
cover (x ∷ xs) s = bit_xor x (slice_index s 0) ∷ cover xs (drop 1 s)

-- ---- keystreams

-- which keystream covers what a message seals: a label, a direction and a counter
abbrev pub label_of : Message → List ℕ
label_of (Begin g h a) = []
label_of (Reply p) = []
label_of (Take n c p) = codes "take"
label_of (Taken p) = []
label_of (Renew r n c p) = codes "keys"
label_of (Load d c b p) = codes "seal"
label_of (All g n c b) = codes "seal"

-- 1 from the gate, else 0
abbrev pub direction_byte : Message → ℕ
direction_byte (Begin g h a) = 1
direction_byte (Reply p) = 0
direction_byte (Take n c p) = 1
direction_byte (Taken p) = 0
direction_byte (Renew r n c p) = 1
direction_byte (Load d c b p) = flag d
direction_byte (All g n c b) = 1

-- a take's counts by the group key that it carries: said again it seals the same text, and no two keys
abbrev pub stream_counter : Message → ℕ
stream_counter (Begin g h a) = 0
stream_counter (Reply p) = 0
stream_counter (Take n c p) = n
stream_counter (Taken p) = 0
stream_counter (Renew r n c p) = r
stream_counter (Load d c b p) = c
stream_counter (All g n c b) = c

-- what goes into the hash behind label and key
abbrev pub stream_place : (direction counter : ℕ) → List ℕ
stream_place d c = low_first 1 d ++ low_first 8 c

-- all that a keystream is made of
abbrev pub stream_input : (key : List ℕ) → Message → List ℕ
stream_input key m = label_of m ++ (key ++ stream_place (direction_byte m) (stream_counter m))

unfoldable pub keystream : Hash → (key : List ℕ) → Message → (n : ℕ) → List ℕ
keystream H key m n = digest H (label_of m) key (stream_place (direction_byte m) (stream_counter m)) n

-- ---- sealing

abbrev pub noughts : ℕ → List ℕ
noughts n = replicate n 0

-- what is sealed in a message: a body, or the group key that it carries
abbrev pub plaintext : (group : List ℕ) → Message → List ℕ
plaintext q (Begin g h a) = []
plaintext q (Reply p) = []
plaintext q (Take n c p) = q
plaintext q (Taken p) = []
plaintext q (Renew r n c p) = q
plaintext q (Load d c b p) = low_first 8 b
plaintext q (All g n c b) = low_first 8 b

-- the sealed body and the sealed group key; noughts where a message has none
abbrev pub sealed_body : Hash → (key : List ℕ) → Message → List ℕ
sealed_body H k (Begin g h a) = noughts 8
sealed_body H k (Reply p) = noughts 8
sealed_body H k (Take n c p) = noughts 8
sealed_body H k (Taken p) = noughts 8
sealed_body H k (Renew r n c p) = noughts 8
sealed_body H k (Load d c b p) = cover (low_first 8 b) (keystream H k (Load d c b p) 8)
sealed_body H k (All g n c b) = cover (low_first 8 b) (keystream H k (All g n c b) 8)

abbrev pub sealed_key : Hash → (key group : List ℕ) → Message → List ℕ
sealed_key H k q (Begin g h a) = noughts 32
sealed_key H k q (Reply p) = noughts 32
sealed_key H k q (Take n c p) = cover q (keystream H k (Take n c p) 32)
sealed_key H k q (Taken p) = noughts 32
sealed_key H k q (Renew r n c p) = cover q (keystream H k (Renew r n c p) 32)
sealed_key H k q (Load d c b p) = noughts 32
sealed_key H k q (All g n c b) = noughts 32

unfoldable pub tag_of : Hash → (key bytes : List ℕ) → List ℕ
tag_of H key bytes = digest H (codes "mark") key bytes 16

-- a message with all that it takes to seal it: the bytes of its nonces, the key of its tag and keystream, and the group
-- key that it carries
pub record Sealed : Type 0 where
  pub message : Message
  pub a : List ℕ
  pub b : List ℕ
  pub key : List ℕ
  pub group : List ℕ

-- the bytes that the tag is over, which are sealed already
abbrev pub tagged_bytes : Hash → Sealed → List ℕ
tagged_bytes H s = tagged_of s.message s.a s.b (sealed_body H s.key s.message) (sealed_key H s.key s.group s.message)

-- the bytes that go out
unfoldable pub octets_sealed : Hash → Sealed → List ℕ
octets_sealed H s =
    octets_of s.message s.a s.b (sealed_body H s.key s.message) (sealed_key H s.key s.group s.message)
    (tag_of H s.key (tagged_bytes H s))

-- ---- opening, behind a right tag

abbrev pub opened_body : Hash → (key : List ℕ) → Message → (sealed : List ℕ) → ℕ
opened_body H k m z = from_low (cover z (keystream H k m 8))

abbrev pub opened_key : Hash → (key : List ℕ) → Message → (sealed : List ℕ) → List ℕ
opened_key H k m z = cover z (keystream H k m 32)
