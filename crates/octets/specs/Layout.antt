-- How a message of each kind is laid out in bytes.
use Rattle.std.specs.Prelude.{ℕ, ◌+◌, cond, List, [], ◌∷◌, ◌++◌, take, drop, ◌==◌, slice_index_or}
use Rattle.frame.specs.declared.message.Message.{Message}
use Rattle.frame.specs.declared.message.Nonce.{Nonce as NonceNumbers}
use Rattle.frame.specs.Row.{code, place}
use Rattle.octets.specs.Low.{low_first, from_low}

-- what stands in a message: a number of its row in so many bytes, a nonce (three numbers of its row), a sealed body
-- (one number of its row), a sealed group key and a tag (none)
pub data Part : Type 0 where
  Number : (width : ℕ) → Part
  Nonce : Part
  Body : Part
  SealedKey : Part
  Tag : Part

-- a gate, a handheld and a nonce of each
abbrev pub pair : List Part → List Part
pair ps = Number 1 ∷ Number 2 ∷ Nonce ∷ Nonce ∷ ps

-- by kind: begin, reply, take, taken, renew, load, all
abbrev pub table : List (List Part)
table =
    (Number 1 ∷ Number 1 ∷ Number 2 ∷ Nonce ∷ []) ∷
    (Number 1 ∷ pair (Tag ∷ [])) ∷
    (Number 1 ∷ Number 8 ∷ Number 8 ∷ pair (SealedKey ∷ Tag ∷ [])) ∷
    (Number 1 ∷ pair (Tag ∷ [])) ∷
    (Number 1 ∷ Number 8 ∷ Number 8 ∷ Number 8 ∷ pair (SealedKey ∷ Tag ∷ [])) ∷
    (Number 1 ∷ Number 1 ∷ Number 8 ∷ Body ∷ pair (Tag ∷ [])) ∷
    (Number 1 ∷ Number 1 ∷ Number 8 ∷ Number 8 ∷ Body ∷ Tag ∷ []) ∷ []

abbrev pub layout : (kind : ℕ) → List Part
layout kind = slice_index_or table kind []

-- ---- lengths

abbrev pub width : Part → ℕ
width (Number n) = n
width Nonce = 32
width Body = 8
width SealedKey = 32
width Tag = 16

abbrev pub widths : List Part → List ℕ
widths [] = []
widths (p ∷ ps) = width p ∷ widths ps

abbrev pub total : List ℕ → ℕ
total [] = 0
total (n ∷ ns) = n + total ns

-- which sort of part
abbrev pub sort : Part → ℕ
sort (Number n) = 0
sort Nonce = 1
sort Body = 2
sort SealedKey = 3
sort Tag = 4

-- the parts that a tag is over: those in front of it
abbrev pub tagged : List Part → List Part
tagged [] = []
tagged (p ∷ ps) = cond (sort p == 4) [] (p ∷ tagged ps)

-- ---- from numbers and sealed parts to bytes

-- bytes with fields behind them
abbrev pub appended : List ℕ → List (List ℕ) → List ℕ
appended x [] = x
appended x (f ∷ fs) = appended (x ++ f) fs

-- the fields of a layout, from a row, the bytes of its nonces and the sealed parts
abbrev pub fill : List Part → (row : List ℕ) → (nonces : List (List ℕ)) → (body key tag : List ℕ) → List (List ℕ)
fill [] row ns b k t = []
fill (Number w ∷ ps) row ns b k t = low_first w (place row 0) ∷ fill ps (drop 1 row) ns b k t
fill (Nonce ∷ ps) row ns b k t = slice_index_or ns 0 [] ∷ fill ps (drop 3 row) (drop 1 ns) b k t
fill (Body ∷ ps) row ns b k t = b ∷ fill ps (drop 1 row) ns b k t
fill (SealedKey ∷ ps) row ns b k t = k ∷ fill ps row ns b k t
fill (Tag ∷ ps) row ns b k t = t ∷ fill ps row ns b k t

-- the bytes of a row: all of them, and those that its tag is over
abbrev pub octets_of_row : (row a b body key tag : List ℕ) → List ℕ
octets_of_row row a b body key tag = appended [] (fill (layout (place row 0)) row (a ∷ b ∷ []) body key tag)

abbrev pub tagged_of_row : (row a b body key : List ℕ) → List ℕ
tagged_of_row row a b body key = appended [] (fill (tagged (layout (place row 0))) row (a ∷ b ∷ []) body key [])

abbrev pub octets_of : Message → (a b body key tag : List ℕ) → List ℕ
octets_of m = octets_of_row (code m)

abbrev pub tagged_of : Message → (a b body key : List ℕ) → List ℕ
tagged_of m = tagged_of_row (code m)

-- ---- from bytes to fields

-- fields of these widths, from the i-th byte on
abbrev pub fields_at : ℕ → List ℕ → List ℕ → List (List ℕ)
fields_at i [] x = []
fields_at i (n ∷ ns) x = take n (drop i x) ∷ fields_at (i + n) ns x

-- the fields of one sort
abbrev pub fields_of : Part → List Part → List (List ℕ) → List (List ℕ)
fields_of q [] fs = []
fields_of q (p ∷ ps) fs = cond (sort p == sort q) (slice_index_or fs 0 [] ∷ fields_of q ps (drop 1 fs)) (fields_of q ps (drop 1 fs))

-- the three numbers in 32 bytes; what follows them is entropy
abbrev pub nonce_of : List ℕ → NonceNumbers
nonce_of f = record { kind = from_low (take 1 f); node = from_low (take 2 (drop 1 f)); index = from_low (take 8 (drop 3 f)) }
