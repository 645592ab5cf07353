-- What is written is cut, and what is cut is written.
use Rattle.std.specs.Prelude.{◌≡◌, ℕ, ◌^◌, ◌<◌, false, ◌⊎◌, List, [], ◌∷◌, length, drop, replicate, Ok, Err, Result, slice_index, slice_index_or}
use Rattle.frame.specs.declared.message.Message.{Message}
use Rattle.frame.specs.declared.message.Message.TheVariants.{Begin, Reply, Take, Taken, Renew, Load, All}
use Rattle.frame.specs.declared.message.Refusal.{Refusal}
use Rattle.frame.specs.declared.message.Refusal.TheVariants.{NoMessage}
use Rattle.frame.specs.Row.{code, place, nonce_at, is_message}
use Rattle.octets.specs.declared.buffer.Octets.{Octets}
use Rattle.octets.specs.declared.parts.Cut.{Cut}
use Rattle.octets.specs.Layout.{Part, Number, Nonce, Body, SealedKey, Tag, layout, octets_of, octets_of_row, nonce_of}
use Rattle.octets.specs.Cutting.{cut}

-- each number fits its place, each nonce is that of its bytes, and each part is as long as its place
abbrev pub FitsLayout : List Part → (row : List ℕ) → (nonces : List (List ℕ)) → (body key tag : List ℕ) → Type 0
FitsLayout [] row ns b k t = Unit {0}
FitsLayout (Number w ∷ ps) row ns b k t = (place row 0 < 256 ^ w) × FitsLayout ps (drop 1 row) ns b k t
FitsLayout (Nonce ∷ ps) row ns b k t =
    (length (slice_index_or ns 0 []) ≡ 32) × (nonce_of (slice_index_or ns 0 []) ≡ nonce_at row 0) × FitsLayout ps (drop 3 row) (drop 1 ns) b k t
FitsLayout (Body ∷ ps) row ns b k t = (length b ≡ 8) × FitsLayout ps (drop 1 row) ns b k t
FitsLayout (SealedKey ∷ ps) row ns b k t = (length k ≡ 32) × FitsLayout ps row ns b k t
FitsLayout (Tag ∷ ps) row ns b k t = (length t ≡ 16) × FitsLayout ps row ns b k t

abbrev pub Fits : Message → (a b body key tag : List ℕ) → Type 0
Fits m a b = FitsLayout (layout (place (code m) 0)) (code m) (a ∷ b ∷ [])

-- a message with this body, if its kind has one
abbrev pub with_body : ℕ → Message → Message
with_body y (Begin g h n) = Begin g h n
with_body y (Reply p) = Reply p
with_body y (Take n c p) = Take n c p
with_body y (Taken p) = Taken p
with_body y (Renew r n c p) = Renew r n c p
with_body y (Load d c x p) = Load d c y p
with_body y (All g n c x) = All g n c y

-- a message whose body is sealed
abbrev pub blank : Message → Message
blank m = with_body 0 m

abbrev pub noughts : ℕ → List ℕ
noughts n = replicate n 0

abbrev pub parts_with : Message → (a b body key : List ℕ) → (tagged : ℕ) → (tag : List ℕ) → Cut
parts_with m a b body key n t =
    record { row = code (blank m); nonces = record { anonce = a; snonce = b }; body = body; key = key; tagged = n; tag = t }

abbrev pub parts_of : Message → (a b body key tag : List ℕ) → Cut
parts_of (Begin g h n) a b x k t = parts_with (Begin g h n) a (noughts 32) (noughts 8) (noughts 32) 36 (noughts 16)
parts_of (Reply p) a b x k t = parts_with (Reply p) a b (noughts 8) (noughts 32) 68 t
parts_of (Take n c p) a b x k t = parts_with (Take n c p) a b (noughts 8) k 116 t
parts_of (Taken p) a b x k t = parts_with (Taken p) a b (noughts 8) (noughts 32) 68 t
parts_of (Renew r n c p) a b x k t = parts_with (Renew r n c p) a b (noughts 8) k 124 t
parts_of (Load d c y p) a b x k t = parts_with (Load d c y p) a b x (noughts 32) 85 t
parts_of (All g n c y) a b x k t = parts_with (All g n c y) (noughts 32) (noughts 32) x (noughts 32) 26 t

abbrev pub WrittenIsCut : Type 0
WrittenIsCut = (m : Message) (a b body key tag : List ℕ) → Fits m a b body key tag → cut (octets_of m a b body key tag) ≡ Ok (parts_of m a b body key tag)

abbrev pub row_of : Cut → List ℕ
row_of c = c.row

abbrev pub CutIsWritten : Type 0
CutIsWritten = (x : List ℕ) (c : Cut) → ((i : ℕ) → slice_index x i < 256) → cut x ≡ Ok c → octets_of_row (row_of c) c.nonces.anonce c.nonces.snonce c.body c.key c.tag ≡ x

-- the bytes again, or why they are refused: they are no row, or their row is no message
abbrev pub Again : List ℕ → Result Octets Refusal → Type 0
Again x (Ok o) = o ≡ x
Again x (Err e) = (cut x ≡ Err e) ⊎ ((c : Cut) × (cut x ≡ Ok c) × (is_message (row_of c) ≡ false) × (e ≡ NoMessage))
