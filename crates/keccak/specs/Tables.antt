-- The algorithms of FIPS 202 from which the two tables of `Permutation` follow.
use Rattle.std.specs.Prelude.{◌≡◌, ℕ, zero, suc, ◌+◌, ◌-◌, ◌*◌, ◌/◌, ◌%◌, ◌^◌, cond, List, [], ◌∷◌, replicate, bit_xor, nat_lt, slice_set}
use Rattle.keccak.specs.Permutation.{offsets, constants}

-- Algorithm 2, steps 2 and 3, n more times from t: lane (x, y) has the offset (t + 1)(t + 2) / 2; next comes (y, 2x + 3y)
abbrev pub offsets_from : ℕ → ℕ → ℕ → ℕ → List ℕ → List ℕ
offsets_from zero t x y table = table
offsets_from (suc n) t x y table = offsets_from n (t + 1) y ((2 * x + 3 * y) % 5) (slice_set table (5 * y + x) ((t + 1) * (t + 2) / 2 % 64))

-- Algorithm 5, step 3: R is a number whose bit i is R[i]. 0 comes in at R[0]; R[8], if it is 1, is added to R[0], R[4],
-- R[5] and R[6], and dropped
abbrev pub shift : ℕ → ℕ
shift R = cond (nat_lt (2 * R) 256) (2 * R) (bit_xor (2 * R) (256 + 64 + 32 + 16 + 1))

abbrev pub register : ℕ → ℕ
register zero = 1
register (suc t) = shift (register t)

abbrev pub rc : ℕ → ℕ
rc t = register (t % 255) % 2

-- Algorithm 6, steps 2 and 3: for each j below 7, bit 2^j - 1 of RC is rc (j + 7 i)
abbrev pub RC : ℕ → ℕ → ℕ
RC zero i = 0
RC (suc j) i = RC j i + rc (j + 7 * i) * 2 ^ (2 ^ j - 1)

abbrev pub constants_from : ℕ → ℕ → List ℕ
constants_from zero i = []
constants_from (suc n) i = RC 7 i ∷ constants_from n (i + 1)

abbrev pub TablesFollow : Type 0
TablesFollow = (offsets ≡ offsets_from 24 0 1 0 (replicate 25 0)) × (constants ≡ constants_from 24 0)
