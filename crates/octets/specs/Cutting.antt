-- Bytes cut into the parts of their kind's layout.
use Rattle.std.specs.Prelude.{ℕ, ◌+◌, ◌≤◌, Bool, cond, ◌&&◌, List, [], ◌∷◌, length, take, drop, replicate, Ok, Err, Result, ◌==◌, nat_lt, slice_index_or, slice_set}
use Rattle.frame.specs.declared.message.Pair.{Pair}
use Rattle.frame.specs.declared.message.Refusal.{Refusal}
use Rattle.frame.specs.declared.message.Refusal.TheVariants.{NoRow}
use Rattle.frame.specs.Row.{nonce_row, place}
use Rattle.octets.specs.declared.parts.Cut.{Cut}
use Rattle.octets.specs.Low.{from_low}
use Rattle.octets.specs.Layout.{Part, Number, Nonce, Body, SealedKey, Tag, layout, widths, total, tagged, fields_at, fields_of, nonce_of}

-- the row in the fields of a layout; the body, which is sealed, counts as 0
abbrev pub row_in : List Part → List (List ℕ) → List ℕ
row_in [] fs = []
row_in (Number w ∷ ps) fs = from_low (slice_index_or fs 0 []) ∷ row_in ps (drop 1 fs)
row_in (Nonce ∷ ps) fs = nonce_row (nonce_of (slice_index_or fs 0 [])) (row_in ps (drop 1 fs))
row_in (Body ∷ ps) fs = 0 ∷ row_in ps (drop 1 fs)
row_in (SealedKey ∷ ps) fs = row_in ps (drop 1 fs)
row_in (Tag ∷ ps) fs = row_in ps (drop 1 fs)

-- the parts beside a row; noughts for one that the layout has not
abbrev pub cut_with : List Part → (row : List ℕ) → List (List ℕ) → Cut
cut_with ps row fs =
    record {
      row = row;
      nonces = record { anonce = slice_index_or (fields_of Nonce ps fs) 0 (replicate 32 0); snonce = slice_index_or (fields_of Nonce ps fs) 1 (replicate 32 0) };
      body = slice_index_or (fields_of Body ps fs) 0 (replicate 8 0);
      key = slice_index_or (fields_of SealedKey ps fs) 0 (replicate 32 0);
      tagged = total (widths (tagged ps));
      tag = slice_index_or (fields_of Tag ps fs) 0 (replicate 16 0);
    }

abbrev pub cut_fields : List Part → List (List ℕ) → Cut
cut_fields ps fs = cut_with ps (row_in ps fs) fs

abbrev pub cut_kind : (kind : ℕ) → List ℕ → Cut
cut_kind kind x = cut_fields (layout kind) (fields_at 0 (widths (layout kind)) x)

-- bytes of a kind below 7, as many as its layout has
abbrev pub fits : (kind : ℕ) → List ℕ → Bool
fits kind x = nat_lt kind 7 && length x == total (widths (layout kind))

abbrev pub cut_as : (kind : ℕ) → List ℕ → Result Cut Refusal
cut_as kind x = cond (fits kind x) (Ok (cut_kind kind x)) (Err NoRow)

unfoldable pub cut : List ℕ → Result Cut Refusal
cut x = cut_as (slice_index_or x 0 7) x

-- the pair that stands in the bytes from the i-th on
abbrev pub pair_from : ℕ → List ℕ → Pair
pair_from i x =
    record {
      gate = from_low (take 1 (drop i x));
      hand = from_low (take 2 (drop (i + 1) x));
      anonce = nonce_of (take 32 (drop (i + 3) x));
      snonce = nonce_of (take 32 (drop (i + 35) x));
    }

-- a row with this body, in the place that its kind has for one
abbrev pub opened : (body : ℕ) → List ℕ → List ℕ
opened body row = cond (place row 0 == 5) (slice_set row 3 body) (cond (place row 0 == 6) (slice_set row 4 body) row)

-- what the tag is over lies in the bytes
abbrev pub Within : List ℕ → Result Cut Refusal → Type 0
Within x (Ok c) = c.tagged ≤ length x
Within x (Err e) = Unit {0}
