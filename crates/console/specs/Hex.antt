-- Bytes as hex digits.
use Rattle.std.specs.Prelude.{ℕ, ◌+◌, ◌*◌, ◌/◌, ◌%◌, cond, List, [], ◌∷◌, length, Some, None, Option, nat_lt}
use Rattle.std.specs.List.{flat_map}
use Rattle.std.specs.Char.{is_ascii_hexdigit, digit_char, digit_value}

-- ---- from digits to bytes

-- the value of a hex digit, in either case
abbrev pub nibble_of : ℕ → Option ℕ
nibble_of digit = cond (is_ascii_hexdigit digit) (Some (digit_value digit)) None

-- the high digit comes first
abbrev pub byte_of : (high low : Option ℕ) → Option ℕ
byte_of None low = None
byte_of (Some h) None = None
byte_of (Some h) (Some l) = Some (h * 16 + l)

abbrev pub in_front : Option ℕ → Option (List ℕ) → Option (List ℕ)
in_front None bs = None
in_front (Some b) None = None
in_front (Some b) (Some bs) = Some (b ∷ bs)

-- the bytes that digits write, two for each
abbrev pub hex_bytes : List ℕ → Option (List ℕ)
hex_bytes [] = Some []
hex_bytes (x ∷ []) = None
hex_bytes (x ∷ y ∷ ds) = in_front (byte_of (nibble_of x) (nibble_of y)) (hex_bytes ds)

-- no message has more than 140 bytes
abbrev pub of_message : Option (List ℕ) → Option (List ℕ)
of_message None = None
of_message (Some bs) = cond (nat_lt 140 (length bs)) None (Some bs)

abbrev pub message_bytes : List ℕ → Option (List ℕ)
message_bytes ds = of_message (hex_bytes ds)

-- ---- from bytes to digits, in lower case

abbrev pub hex_text : List ℕ → List ℕ
hex_text bs = flat_map (λ b. digit_char (b / 16) ∷ digit_char (b % 16) ∷ []) bs
