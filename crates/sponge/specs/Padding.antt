-- The padding of FIPS 202, in bits.
use Rattle.std.specs.Prelude.{◌≡◌, ℕ, zero, suc, ◌+◌, ◌-◌, ◌*◌, ◌/◌, ◌%◌, ◌<◌, ◌≤◌, List, [], ◌∷◌, ◌++◌, length, replicate}
use Rattle.sponge.specs.Sponge.{delimited, padded}

-- B.1: bytes as bits, the lowest of each byte first
abbrev pub bits_of : ℕ → ℕ → List ℕ
bits_of zero b = []
bits_of (suc k) b = (b % 2) ∷ bits_of k (b / 2)

abbrev pub bits : List ℕ → List ℕ
bits [] = []
bits (b ∷ bs) = bits_of 8 b ++ bits bs

-- Algorithm 9: pad10*1(x, m) is 1, then j = (-m - 2) mod x times 0, then 1
unfoldable pub pad101 : ℕ → ℕ → List ℕ
pad101 x m = 1 ∷ (replicate ((x - (m + 2) % x) % x) 0 ++ (1 ∷ []))

abbrev pub AreBits : List ℕ → Type 0
AreBits [] = Unit {0}
AreBits (b ∷ bs) = (b < 2) × AreBits bs

-- Algorithm 8, step 1: P = N || pad10*1(r, len(N)), with N = M || suffix, at any rate of r bytes, and a suffix that
-- leaves room for the two 1s in its byte
abbrev pub PaddingFollows : Type 0
PaddingFollows =
    (r : ℕ) (suffix M : List ℕ) → 0 < r → length suffix ≤ 6 → AreBits suffix
    → bits (padded r (delimited suffix) M) ≡ bits M ++ (suffix ++ pad101 (8 * r) (8 * length M + length suffix))
