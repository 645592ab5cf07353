-- KECCAK-f[1600] (FIPS 202, section 3): 25 lanes of 64 bits. Lane (x, y) stands at 5y + x; bit z of a lane has the
-- weight 2^z.
use Rattle.std.specs.Prelude.{ℕ, ◌+◌, ◌-◌, ◌*◌, ◌/◌, ◌%◌, ◌^◌, List, [], ◌∷◌, map, bit_and, bit_or, bit_xor, slice_index, slice_set}
use Rattle.std.specs.List.{range_with_len}

-- a lane rotated by n bits, towards the higher weights
unfoldable pub rotl : ℕ → ℕ → ℕ
rotl a n = bit_or ((a * 2 ^ (n % 64)) % 2 ^ 64) (a / 2 ^ ((64 - n % 64) % 64))

-- a lane with each bit inverted
abbrev pub complement : ℕ → ℕ
complement a = 2 ^ 64 - 1 - a

-- A[x, y], with x and y modulo 5
abbrev pub lane : List ℕ → ℕ → ℕ → ℕ
lane A x y = slice_index A (5 * (y % 5) + x % 5)

-- the state A with A[x, y] = f x y
abbrev pub state : (ℕ → ℕ → ℕ) → List ℕ
state f = map (λ i. f (i % 5) (i / 5)) (range_with_len 0 25)

-- Algorithm 1: the parities C of the columns, their sums D, and θ
abbrev pub C : List ℕ → ℕ → ℕ
C A x = bit_xor (bit_xor (bit_xor (bit_xor (lane A x 0) (lane A x 1)) (lane A x 2)) (lane A x 3)) (lane A x 4)

abbrev pub D : List ℕ → ℕ → ℕ
D A x = bit_xor (C A (x + 4)) (rotl (C A (x + 1)) 1)

abbrev pub θ : List ℕ → List ℕ
θ A = state (λ x y. bit_xor (lane A x y) (D A x))

-- Algorithm 2 and Table 2: ρ, with its offsets
abbrev pub offsets : List ℕ
offsets =
    0 ∷ 1 ∷ 62 ∷ 28 ∷ 27 ∷ 36 ∷ 44 ∷ 6 ∷ 55 ∷ 20 ∷ 3 ∷ 10 ∷ 43 ∷ 25 ∷ 39 ∷ 41 ∷ 45 ∷ 15 ∷ 21 ∷ 8 ∷ 18 ∷ 2 ∷ 61 ∷ 56 ∷ 14 ∷ []

abbrev pub ρ : List ℕ → List ℕ
ρ A = state (λ x y. rotl (lane A x y) (lane offsets x y))

-- Algorithm 3
abbrev pub π : List ℕ → List ℕ
π A = state (λ x y. lane A (x + 3 * y) x)

-- Algorithm 4
abbrev pub χ : List ℕ → List ℕ
χ A = state (λ x y. bit_xor (lane A x y) (bit_and (complement (lane A (x + 1) y)) (lane A (x + 2) y)))

-- Algorithm 6, with the round's constant in place of its index
abbrev pub ι : ℕ → List ℕ → List ℕ
ι RC A = slice_set A 0 (bit_xor (lane A 0 0) RC)

-- 3.3: a round
unfoldable pub Rnd : ℕ → List ℕ → List ℕ
Rnd RC A = ι RC (χ (π (ρ (θ A))))

abbrev pub constants : List ℕ
constants =
    0x0000000000000001 ∷ 0x0000000000008082 ∷ 0x800000000000808a ∷ 0x8000000080008000 ∷
    0x000000000000808b ∷ 0x0000000080000001 ∷ 0x8000000080008081 ∷ 0x8000000000008009 ∷
    0x000000000000008a ∷ 0x0000000000000088 ∷ 0x0000000080008009 ∷ 0x000000008000000a ∷
    0x000000008000808b ∷ 0x800000000000008b ∷ 0x8000000000008089 ∷ 0x8000000000008003 ∷
    0x8000000000008002 ∷ 0x8000000000000080 ∷ 0x000000000000800a ∷ 0x800000008000000a ∷
    0x8000000080008081 ∷ 0x8000000000008080 ∷ 0x0000000080000001 ∷ 0x8000000080008008 ∷ []

unfoldable pub rounds : List ℕ → List ℕ → List ℕ
rounds [] A = A
rounds (RC ∷ RCs) A = rounds RCs (Rnd RC A)

-- Algorithm 7 and 3.4: the 24 rounds
unfoldable pub keccak_f_lem : List ℕ → List ℕ
keccak_f_lem A = rounds constants A
