-- The laws of bytes, the lowest first.
use Rattle.std.proofs.Common.{fold, reverse, ◌≡◌, ℕ, zero, suc, ◌+◌, ◌-◌, ◌*◌, ◌/◌, ◌%◌, ◌^◌, ◌<◌, ◌≤◌, List, [], ◌∷◌, ◌++◌, length, get_or, take, set, sym, refl, ap, ◌∙◌, append_assoc, pow-suc, add-one, arith, take-suc-set, pow_mono}
use lib.Bits.{bit_and, bit_or}
use Rattle.std.proofs.lemmas.Nat.{and_mask, div_below, div-add-mod', div-mul-add, mod-mul-add, or_shifted, shl_whole, pow-add}
use Rattle.std.proofs.lemmas.List.{reverse-append}
use Rattle.std.proofs.lemmas.List.Sums.{fold-append}
use Rattle.octets.specs.Low.{low_first, from_low}

-- ---- a loop that writes, and one that reads

pub put_more : (out : List ℕ) (i n : ℕ) (r : List ℕ) → i < length out → take i out ++ low_first (length out - i) n ≡ r →
    take (i + 1) (set out i (bit_and n 255)) ++ low_first (length out - (i + 1)) (n / 256) ≡ r
unfolding low_first
put_more out i n r h e =
    let d : length out - i ≡ suc (length out - (i + 1)) = omega arith in
    let b : take i out ++ (n % 256 ∷ low_first (length out - (i + 1)) (n / 256)) ≡ r = ap (λ (k : ℕ). take i out ++ low_first k n) (sym d) ∙ e in
    rw (add-one, take-suc-set out i (bit_and n 255) h, and_mask n 8, append_assoc) (rw add-one at b)

wider : (k : ℕ) → 2 ^ (8 * suc k) ≡ 256 * 2 ^ (8 * k)
wider k = let e : 8 * suc k ≡ 8 + 8 * k = omega arith in rw e (pow-add 2 8 (8 * k))

pub below : (xs : List ℕ) → ((i : ℕ) → get_or xs i 0 < 256) → from_low xs < 2 ^ (8 * length xs)
below [] f = omega arith
below (x ∷ xs) f =
    let h = below xs (λ i. f (suc i)) in
    let z : x < 256 = f 0 in
    rw wider (omega arith)

-- the next higher byte, as a loop that reads takes it in
abbrev pub with_byte : ℕ → ℕ → ℕ
with_byte n b = bit_or ((n * 256) % 2 ^ 64) b

pub from_low-fold : (bs : List ℕ) → length bs ≤ 8 → ((i : ℕ) → get_or bs i 0 < 256) → fold with_byte 0 (reverse bs) ≡ from_low bs
from_low-fold [] few f = refl
from_low-fold (b ∷ bs) few f =
    let t = below bs (λ i. f (suc i)) in
    let m : 2 ^ (8 * length bs) ≤ 2 ^ 56 = pow_mono {i = 8 * length bs} {j = 56} (omega arith) in
    let s : from_low bs < 2 ^ 56 = omega arith in
    let e = from_low-fold bs (omega arith) (λ i. f (suc i)) in
    ap (fold with_byte 0) (reverse-append (b ∷ []) bs)
    ∙ fold-append with_byte 0 (reverse bs) (b ∷ [])
    ∙ ap (λ (n : ℕ). with_byte n b) e
    ∙ rw (shl_whole (from_low bs) 56 8 64 s (omega arith), or_shifted (from_low bs) 8 b (f 0)) (omega arith)

-- ---- there and back

pub there : (k n : ℕ) → n < 256 ^ k → from_low (low_first k n) ≡ n
unfolding low_first
there zero n h = omega arith
there (suc k) n h =
    let e = there k (n / 256) (div_below n 256 (256 ^ k) (omega arith) (rw pow-suc at h)) in
    rw e (omega (arith, div-add-mod' n 256))

pub back : (bs : List ℕ) → ((i : ℕ) → get_or bs i 0 < 256) → low_first (length bs) (from_low bs) ≡ bs
unfolding low_first
back [] f = refl
back (b ∷ bs) f =
    let r : b + 256 * from_low bs ≡ from_low bs * 256 + b = omega arith in
    let low : b < 256 = f 0 in
    rw (r, mod-mul-add (from_low bs) 256 b low, div-mul-add (from_low bs) 256 b low, back bs (λ i. f (suc i)))

pub length_low : (k n : ℕ) → length (low_first k n) ≡ k
unfolding low_first
length_low zero n = refl
length_low (suc k) n = ap suc (length_low k (n / 256))

pub bytes_taken : (n : ℕ) (bs : List ℕ) → ((k : ℕ) → get_or bs k 0 < 256) → (k : ℕ) → get_or (take n bs) k 0 < 256
bytes_taken zero bs f zero = omega arith
bytes_taken zero bs f (suc k) = omega arith
bytes_taken (suc n) [] f k = f k
bytes_taken (suc n) (b ∷ bs) f zero = f 0
bytes_taken (suc n) (b ∷ bs) f (suc k) = bytes_taken n bs (λ i. f (suc i)) k
