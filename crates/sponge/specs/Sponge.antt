-- The sponge over KECCAK-f[1600], and SHAKE256 (FIPS 202, sections 4 to 6), on bytes: r is the rate in bytes, a
-- multiple of 8.
use Rattle.std.specs.Prelude.{ℕ, zero, suc, ◌+◌, ◌-◌, ◌*◌, ◌/◌, ◌%◌, cond, List, [], ◌∷◌, ◌++◌, length, take, drop, replicate, bit_xor, nat_lt, slice_index}
use Rattle.keccak.specs.Permutation.{lane, state, keccak_f_lem}

-- 3.1.2: the lane of the 8 bytes from place i on, lowest first
unfoldable pub from_bytes : List ℕ → ℕ → ℕ
from_bytes bs i =
    slice_index bs i + slice_index bs (i + 1) * 256 + slice_index bs (i + 2) * 65536 + slice_index bs (i + 3) * 16777216
    + slice_index bs (i + 4) * 4294967296 + slice_index bs (i + 5) * 1099511627776 + slice_index bs (i + 6) * 281474976710656 + slice_index bs (i + 7) * 72057594037927936

-- 3.1.3: the 8 bytes of a lane
abbrev pub to_bytes : ℕ → List ℕ
to_bytes a =
    (a % 256) ∷ (a / 256 % 256) ∷ (a / 65536 % 256) ∷ (a / 16777216 % 256) ∷ (a / 4294967296 % 256) ∷ (a / 1099511627776 % 256)
    ∷ (a / 281474976710656 % 256) ∷ (a / 72057594037927936 % 256) ∷ []

-- lane k of a block with the capacity's zeros behind it
abbrev pub block_lane : ℕ → List ℕ → ℕ → ℕ
block_lane r b k = cond (nat_lt (8 * k) r) (from_bytes b (8 * k)) 0

-- Algorithm 8, step 6: S = f(S ⊕ (P || 0^c)) for a block P
abbrev pub xor_block : ℕ → List ℕ → List ℕ → List ℕ
xor_block r P S = state (λ x y. bit_xor (block_lane r P (5 * y + x)) (lane S x y))

unfoldable pub absorb_block : ℕ → List ℕ → List ℕ → List ℕ
absorb_block r P S = keccak_f_lem (xor_block r P S)

-- the same for the first n blocks of P
unfoldable pub absorb : ℕ → ℕ → List ℕ → List ℕ → List ℕ
absorb r zero P S = S
absorb r (suc n) P S = absorb r n (drop r P) (absorb_block r (take r P) S)

-- a suffix, and behind it the first 1 of pad10*1, as a byte (lowest bit first)
abbrev pub delimited : List ℕ → ℕ
delimited [] = 1
delimited (b ∷ bs) = b + 2 * delimited bs

-- the padding as n bytes, the first of which is such a byte d (`Padding` has it in bits)
abbrev pub padding : ℕ → ℕ → List ℕ
padding d zero = []
padding d (suc zero) = (d + 0x80) ∷ []
padding d (suc (suc n)) = d ∷ (replicate n 0 ++ (0x80 ∷ []))

unfoldable pub padded : ℕ → ℕ → List ℕ → List ℕ
padded r d M = M ++ padding d (r - length M % r)

-- the state S once M and its padding are absorbed
unfoldable pub absorbed : ℕ → ℕ → List ℕ → List ℕ → List ℕ
absorbed r d M S = absorb r (length M / r + 1) (padded r d M) S

-- the bytes of the first n lanes
unfoldable pub trunc : ℕ → List ℕ → List ℕ
trunc zero S = []
trunc (suc n) S = trunc n S ++ to_bytes (slice_index S n)

-- Algorithm 8, steps 7 to 10: n blocks of output, and its first d bytes
unfoldable pub squeeze : ℕ → ℕ → List ℕ → List ℕ
squeeze r zero S = []
squeeze r (suc n) S = trunc (r / 8) S ++ squeeze r n (keccak_f_lem S)

unfoldable pub squeezed : ℕ → ℕ → List ℕ → List ℕ
squeezed r d S = take d (squeeze r (d / r + 1) S)

-- 5.2: d bytes of KECCAK[c](M || suffix)
unfoldable pub keccak : ℕ → List ℕ → List ℕ → ℕ → List ℕ
keccak c suffix M d =
    let r = (1600 - c) / 8 in
    squeezed r d (absorbed r (delimited suffix) M (replicate 25 0))

-- 6.2: SHAKE256(M, d) = KECCAK[512](M || 1111, d)
abbrev pub shake_suffix : List ℕ
shake_suffix = 1 ∷ 1 ∷ 1 ∷ 1 ∷ []

unfoldable pub shake256 : List ℕ → ℕ → List ℕ
shake256 M d = keccak 512 shake_suffix M d
