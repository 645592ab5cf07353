-- The padding in bytes spells the standard's bits.
use Rattle.std.proofs.Common.{◌≡◌, ℕ, zero, suc, ◌+◌, ◌-◌, ◌*◌, ◌/◌, ◌%◌, ◌^◌, ◌<◌, ◌≤◌, List, [], ◌∷◌, ◌++◌, length, replicate, sym, refl, ap, ◌∙◌, inl, inr, append_assoc, mod-lt, mod-eq_of_lt, mul_assoc, arith}
use native.Mathlib.Nat.{mod_self, div-add-mod, mul-add-mod_self_left}
use Rattle.std.proofs.lemmas.Bool.{cases_lt}
use Rattle.std.proofs.lemmas.List.{replicate-append-replicate}
use Rattle.sponge.specs.Sponge.{delimited, padding, padded}
use Rattle.sponge.specs.Padding.{bits_of, bits, pad101, AreBits, PaddingFollows}

bits_append : (xs ys : List ℕ) → bits (xs ++ ys) ≡ bits xs ++ bits ys
bits_append [] ys = refl
bits_append (x ∷ xs) ys = ap (λ z. bits_of 8 x ++ z) (bits_append xs ys)

bits_zeros : (n : ℕ) → bits (replicate n 0) ≡ replicate (8 * n) 0
bits_zeros zero = refl
bits_zeros (suc n) =
    let e : 8 + 8 * n ≡ 8 * suc n = omega arith in
    ap (λ z. replicate 8 0 ++ z) (bits_zeros n) ∙ replicate-append-replicate 8 (8 * n) 0 ∙ ap (λ k. replicate k 0) e

bits_of_step : (k n low rest : ℕ) → n % 2 ≡ low → n / 2 ≡ rest → bits_of (suc k) n ≡ low ∷ bits_of k rest
bits_of_step k n low rest e f = ap (λ b. b ∷ bits_of k (n / 2)) e ∙ ap (λ m. low ∷ bits_of k m) f

bits_of_zero : (k : ℕ) → bits_of k 0 ≡ replicate k 0
bits_of_zero zero = refl
bits_of_zero (suc k) = ap (λ z. 0 ∷ z) (bits_of_zero k)

bits_of_top : (k : ℕ) → bits_of (suc k) (2 ^ k) ≡ replicate k 0 ++ (1 ∷ [])
bits_of_top zero = refl
bits_of_top (suc k) = bits_of_step (suc k) (2 ^ suc k) 0 (2 ^ k) (omega arith) (omega arith) ∙ ap (λ z. 0 ∷ z) (bits_of_top k)

-- the byte with the suffix, where more of the padding follows
bits_of_first : (k : ℕ) (suffix : List ℕ) → AreBits suffix → length suffix < k → bits_of k (delimited suffix) ≡ suffix ++ (1 ∷ replicate (k - suc (length suffix)) 0)
bits_of_first zero suffix a h = absurd (omega arith)
bits_of_first (suc k) [] a h =
    let e : k ≡ suc k - 1 = omega arith in
    ap (λ z. 1 ∷ z) (bits_of_zero k ∙ ap (λ n. replicate n 0) e)
bits_of_first (suc k) (b ∷ bs) (bit, a) h =
    let short : length bs < k = omega arith in
    let e : k - suc (length bs) ≡ suc k - suc (length (b ∷ bs)) = omega arith in
    bits_of_step k (b + 2 * delimited bs) b (delimited bs) (omega arith) (omega arith)
    ∙ ap (λ z. b ∷ z) (bits_of_first k bs a short ∙ ap (λ n. bs ++ (1 ∷ replicate n 0)) e)

-- the byte with the suffix, where it ends the padding too
bits_of_only : (k : ℕ) (suffix : List ℕ) → AreBits suffix → length suffix < k → bits_of (suc k) (delimited suffix + 2 ^ k) ≡ suffix ++ (1 ∷ (replicate (k - suc (length suffix)) 0 ++ (1 ∷ [])))
bits_of_only zero suffix a h = absurd (omega arith)
bits_of_only (suc k) [] a h =
    let e : k ≡ suc k - 1 = omega arith in
    bits_of_step (suc k) (1 + 2 ^ suc k) 1 (2 ^ k) (omega arith) (omega arith)
    ∙ ap (λ z. 1 ∷ z) (bits_of_top k ∙ ap (λ n. replicate n 0 ++ (1 ∷ [])) e)
bits_of_only (suc k) (b ∷ bs) (bit, a) h =
    let short : length bs < k = omega arith in
    let e : k - suc (length bs) ≡ suc k - suc (length (b ∷ bs)) = omega arith in
    bits_of_step (suc k) (b + 2 * delimited bs + 2 ^ suc k) b (delimited bs + 2 ^ k) (omega arith) (omega arith)
    ∙ ap (λ z. b ∷ z) (bits_of_only k bs a short ∙ ap (λ n. bs ++ (1 ∷ (replicate n 0 ++ (1 ∷ [])))) e)

zeros_join : (i j : ℕ) (xs : List ℕ) → replicate i 0 ++ (replicate j 0 ++ xs) ≡ replicate (i + j) 0 ++ xs
zeros_join i j xs = sym (append_assoc (replicate i 0) (replicate j 0) xs) ∙ ap (λ z. z ++ xs) (replicate-append-replicate i j 0)

bits_padding : (q : ℕ) (suffix : List ℕ) → AreBits suffix → length suffix ≤ 6 → 0 < q
    → bits (padding (delimited suffix) q) ≡ suffix ++ (1 ∷ (replicate (8 * q - (length suffix + 2)) 0 ++ (1 ∷ [])))
bits_padding zero suffix a h p = absurd (let h : zero < zero = p in omega arith)
bits_padding (suc zero) suffix a h p =
    let short : length suffix < 7 = omega arith in
    let e : 7 - suc (length suffix) ≡ 8 - (length suffix + 2) = omega arith in
    bits_of_only 7 suffix a short ∙ ap (λ n. suffix ++ (1 ∷ (replicate n 0 ++ (1 ∷ [])))) e
bits_padding (suc (suc n)) suffix a h p =
    let short : length suffix < 8 = omega arith in
    let i : ℕ = 8 - suc (length suffix) in
    let e : i + (8 * n + 7) ≡ 8 * suc (suc n) - (length suffix + 2) = omega arith in
    let last : bits (replicate n 0 ++ (0x80 ∷ [])) ≡ replicate (8 * n + 7) 0 ++ (1 ∷ []) =
    bits_append (replicate n 0) (0x80 ∷ []) ∙ ap (λ z. z ++ (replicate 7 0 ++ (1 ∷ []))) (bits_zeros n) ∙ zeros_join (8 * n) 7 (1 ∷ []) in
    ap (λ z. bits_of 8 (delimited suffix) ++ z) last
    ∙ ap (λ z. z ++ (replicate (8 * n + 7) 0 ++ (1 ∷ []))) (bits_of_first 8 suffix a short)
    ∙ append_assoc suffix (1 ∷ replicate i 0) (replicate (8 * n + 7) 0 ++ (1 ∷ []))
    ∙ ap (λ z. suffix ++ (1 ∷ z)) (zeros_join i (8 * n + 7) (1 ∷ []) ∙ ap (λ n. replicate n 0 ++ (1 ∷ [])) e)

-- the number of zeros in pad10*1, where L bytes and s bits stand before it
zeros_count : (r L s : ℕ) → 0 < r → s ≤ 6 → 8 * (r - L % r) - (s + 2) ≡ (8 * r - (8 * L + s + 2) % (8 * r)) % (8 * r)
zeros_count r L s p h =
    let below : L % r < r = mod-lt L p in
    let parts : r * (L / r) + L % r ≡ L = div-add-mod L r in
    let x : ℕ = 8 * (L % r) + s + 2 in
    let total : 8 * L + s + 2 ≡ (8 * r) * (L / r) + x = omega (arith, mul_assoc 8 r (L / r)) in
    let left : (8 * L + s + 2) % (8 * r) ≡ x % (8 * r) = ap (λ n. n % (8 * r)) total ∙ mul-add-mod_self_left (8 * r) (L / r) x in
    elim (cases_lt x (8 * r)) [
      | inl lt ↦
          let few : 8 * r - x < 8 * r = omega arith in
          let e : 8 * (r - L % r) - (s + 2) ≡ 8 * r - x = omega arith in
          e ∙ sym (ap (λ n. (8 * r - n) % (8 * r)) (left ∙ mod-eq_of_lt lt) ∙ mod-eq_of_lt few)
      | inr ge ↦
          let full : x ≡ 8 * r = omega arith in
          let all : 8 * r - 0 ≡ 8 * r = omega arith in
          let e : 8 * (r - L % r) - (s + 2) ≡ 0 = omega arith in
          e ∙ sym (ap (λ n. (8 * r - n) % (8 * r)) (left ∙ ap (λ n. n % (8 * r)) full ∙ mod_self (8 * r)) ∙ ap (λ n. n % (8 * r)) all ∙ mod_self (8 * r))
    ]

pub padding_follows_lem : PaddingFollows
unfolding padded pad101
padding_follows_lem r suffix M p h a =
    let q : ℕ = r - length M % r in
    let below : length M % r < r = mod-lt (length M) p in
    let some : 0 < q = omega arith in
    bits_append M (padding (delimited suffix) q)
    ∙ ap (λ z. bits M ++ z)
    (bits_padding q suffix a h some
    ∙ ap (λ n. suffix ++ (1 ∷ (replicate n 0 ++ (1 ∷ [])))) (zeros_count r (length M) (length suffix) p h))
