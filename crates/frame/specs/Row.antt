-- Messages as rows of numbers.
use Rattle.std.specs.Prelude.{◌≡◌, ℕ, zero, suc, ◌+◌, ◌^◌, ◌<◌, ◌≤◌, Bool, true, false, cond, not, ◌&&◌, ◌||◌, List, [], ◌∷◌, length, Ok, Err, Result, ◌==◌, nat_lt, slice_index}
use Rattle.frame.specs.declared.message.Nonce.{Nonce}
use Rattle.frame.specs.declared.message.Pair.{Pair}
use Rattle.frame.specs.declared.message.Direction.{Direction}
use Rattle.frame.specs.declared.message.Direction.TheVariants.{Up, Down}
use Rattle.frame.specs.declared.message.Message.{Message}
use Rattle.frame.specs.declared.message.Message.TheVariants.{Begin, Reply, Take, Taken, Renew, Load, All}
use Rattle.frame.specs.declared.message.Refusal.{Refusal}
use Rattle.frame.specs.declared.message.Refusal.TheVariants.{NoMessage}

-- ---- from a message to its row

abbrev pub nonce_row : Nonce → List ℕ → List ℕ
nonce_row n rest = n.kind ∷ n.node ∷ n.index ∷ rest

abbrev pub pair_row : Pair → List ℕ
pair_row p = p.gate ∷ p.hand ∷ nonce_row p.anonce (nonce_row p.snonce [])

-- 1 from the gate, else 0
abbrev pub flag : Direction → ℕ
flag Up = 0
flag Down = 1

-- the kind, then the message's numbers
abbrev pub code : Message → List ℕ
code (Begin g h a) = 0 ∷ g ∷ h ∷ nonce_row a []
code (Reply p) = 1 ∷ pair_row p
code (Take n c p) = 2 ∷ n ∷ c ∷ pair_row p
code (Taken p) = 3 ∷ pair_row p
code (Renew r n c p) = 4 ∷ r ∷ n ∷ c ∷ pair_row p
code (Load d c b p) = 5 ∷ flag d ∷ c ∷ b ∷ pair_row p
code (All g n c b) = 6 ∷ g ∷ n ∷ c ∷ b ∷ []

-- a row in n places, noughts behind it
abbrev pub padded : ℕ → List ℕ → List ℕ
padded zero xs = []
padded (suc n) [] = 0 ∷ padded n []
padded (suc n) (x ∷ xs) = x ∷ padded n xs

-- ---- from a row to its message

abbrev pub place : List ℕ → ℕ → ℕ
place row i = slice_index row i

-- every number is below 2^49
unfoldable pub is_small : List ℕ → Bool
is_small [] = true
is_small (x ∷ xs) = nat_lt x (2 ^ 49) && is_small xs

-- how long a row of each kind is
abbrev pub lengths : List ℕ
lengths = 6 ∷ 9 ∷ 11 ∷ 9 ∷ 12 ∷ 12 ∷ 5 ∷ []

-- as long as its kind says, and a load's flag is 0 or 1
abbrev pub has_shape : List ℕ → Bool
has_shape row = length row == slice_index lengths (place row 0) && (not (place row 0 == 5) || nat_lt (place row 1) 2)

abbrev pub is_message : List ℕ → Bool
is_message row = is_small row && has_shape row

abbrev pub nonce_at : List ℕ → ℕ → Nonce
nonce_at row i = record { kind = place row i; node = place row (i + 1); index = place row (i + 2) }

abbrev pub pair_at : List ℕ → ℕ → Pair
pair_at row i = record { gate = place row i; hand = place row (i + 1); anonce = nonce_at row (i + 2); snonce = nonce_at row (i + 5) }

abbrev pub direction_of : ℕ → Direction
direction_of zero = Up
direction_of (suc n) = Down

abbrev pub message_of : List ℕ → Message
message_of row =
    cond (place row 0 == 0) (Begin (place row 1) (place row 2) (nonce_at row 3))
    (cond (place row 0 == 1) (Reply (pair_at row 1))
    (cond (place row 0 == 2) (Take (place row 1) (place row 2) (pair_at row 3))
    (cond (place row 0 == 3) (Taken (pair_at row 1))
    (cond (place row 0 == 4) (Renew (place row 1) (place row 2) (place row 3) (pair_at row 4))
    (cond (place row 0 == 5) (Load (direction_of (place row 1)) (place row 2) (place row 3) (pair_at row 4))
    (All (place row 1) (place row 2) (place row 3) (place row 4)))))))

-- the answer to a flag: 0 and 1 are directions, and nothing else is
abbrev pub ReadsFlag : ℕ → Result Direction Refusal → Type 0
ReadsFlag n (Ok d) = (n < 2) × (d ≡ direction_of n)
ReadsFlag n (Err e) = (2 ≤ n) × (e ≡ NoMessage)

-- the answer to a row, which is good or not: its message exactly where it is, and else that it is none
abbrev pub Reads : Bool → List ℕ → Result Message Refusal → Type 0
Reads good row (Ok m) = (good ≡ true) × (m ≡ message_of row)
Reads good row (Err e) = (good ≡ false) × (e ≡ NoMessage)
