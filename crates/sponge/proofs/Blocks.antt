-- A block more, and the last block, of what is absorbed and of what is squeezed, at the rate of 136 bytes.
use Rattle.std.proofs.Common.{◌≡◌, ℕ, zero, suc, ◌+◌, ◌-◌, ◌*◌, ◌/◌, ◌%◌, ◌<◌, ◌≤◌, List, [], ◌∷◌, ◌++◌, length, get_or, take, drop, set, replicate, sym, refl, ap, ◌∙◌, append_assoc, add_comm, add-one, arith, length-append, take_all, take_at, drop_at}
use lib.ListN.{length-replicate}
use lib.Bits.{bit_or, or_shifted_r}
use lib.Seq.{set_at, get_or_at, take-append-le, take-append-add}
use Rattle.std.proofs.lemmas.List.{drop-replicate, replicate_more}
use Rattle.keccak.specs.Permutation.{keccak_f_lem}
use Rattle.sponge.specs.Sponge.{absorb_block, absorb, padding, padded, absorbed, trunc, squeeze, squeezed}

length-padding : (d q : ℕ) → length (padding d q) ≡ q
length-padding d zero = refl
length-padding d (suc zero) = refl
length-padding d (suc (suc n)) = simp (length-append, length-replicate) (omega arith)

pub length-padded : (d : ℕ) (M : List ℕ) → length M < 136 → length (padded 136 d M) ≡ 136
unfolding padded
length-padded d M h = simp (length-append, length-padding) (omega arith)

-- the block b with the first and the last byte of the padding put in, the first at n
abbrev closed : ℕ → List ℕ → ℕ → List ℕ
closed d b n = set (set b n d) 135 (bit_or (get_or (set b n d) 135 0) 0x80)

closed_is : (d : ℕ) (M : List ℕ) (q : ℕ) → d < 128 → length M + q ≡ 136 → 0 < q → closed d (M ++ replicate q 0) (length M) ≡ M ++ padding d q
closed_is d M zero s e p = absurd (let h : zero < zero = p in omega arith)
closed_is d M (suc zero) s e p =
    let l : length M ≡ 135 = omega arith in
    let both : bit_or d 0x80 ≡ d + 0x80 = or_shifted_r 1 7 d s ∙ add_comm 0x80 d in
    ap (λ z. set z 135 (bit_or (get_or z 135 0) 0x80)) (set_at M 0 [] d (length M) refl)
    ∙ ap (λ v. set (M ++ d ∷ []) 135 (bit_or v 0x80)) (get_or_at M d [] 0 135 l)
    ∙ set_at M d [] (bit_or d 0x80) 135 l
    ∙ ap (λ v. M ++ v ∷ []) both
closed_is d M (suc (suc j)) s e p =
    let front : List ℕ = M ++ d ∷ replicate j 0 in
    let l : length front ≡ 135 = simp (length-append, length-replicate) (omega arith) in
    let opened : set (M ++ replicate (suc (suc j)) 0) (length M) d ≡ front ++ 0 ∷ [] =
    set_at M 0 (replicate (suc j) 0) d (length M) refl ∙ ap (λ z. M ++ d ∷ z) (ap (λ n. replicate n 0) (sym (add-one j)) ∙ sym (replicate_more j 0)) ∙ sym (append_assoc M (d ∷ replicate j 0) (0 ∷ [])) in
    ap (λ z. set z 135 (bit_or (get_or z 135 0) 0x80)) opened
    ∙ ap (λ v. set (front ++ 0 ∷ []) 135 (bit_or v 0x80)) (get_or_at front 0 [] 0 135 l)
    ∙ set_at front 0 [] 0x80 135 l
    ∙ append_assoc M (d ∷ replicate j 0) (0x80 ∷ [])

pub padded_is : (d : ℕ) (copy M : List ℕ) → copy ≡ M → length M < 136 → d < 128 → closed d (copy ++ drop (length M) (replicate 136 0)) (length M) ≡ padded 136 d M
unfolding padded
padded_is d copy M e h s =
    let p : 0 < 136 - length M = omega arith in
    let l : length M + (136 - length M) ≡ 136 = omega arith in
    let r : length M % 136 ≡ length M = omega arith in
    ap (λ z. closed d (z ++ drop (length M) (replicate 136 0)) (length M)) e
    ∙ ap (λ z. closed d (M ++ z) (length M)) (drop-replicate (length M) 136 0)
    ∙ closed_is d M (136 - length M) s l p
    ∙ ap (λ n. M ++ padding d (136 - n)) (sym r)

pub absorbed_block : (d : ℕ) (P M S : List ℕ) → length P ≡ 136 → absorbed 136 d (P ++ M) S ≡ absorbed 136 d M (absorb_block 136 P S)
unfolding absorbed absorb padded
absorbed_block d P M S h =
    let l = length-append P M in
    let n : length (P ++ M) / 136 + 1 ≡ suc (length M / 136 + 1) = omega arith in
    let r : length (P ++ M) % 136 ≡ length M % 136 = omega arith in
    let pad : List ℕ = padding d (136 - length (P ++ M) % 136) in
    let k : ℕ = length M / 136 + 1 in
    ap (λ k. absorb 136 k ((P ++ M) ++ pad) S) n
    ∙ ap (λ Q. absorb 136 k (drop 136 Q) (absorb_block 136 (take 136 Q) S)) (append_assoc P M pad)
    ∙ ap (λ Q. absorb 136 k Q (absorb_block 136 (take 136 (P ++ (M ++ pad))) S)) (drop_at P (M ++ pad) 136 h)
    ∙ ap (λ Q. absorb 136 k (M ++ pad) (absorb_block 136 Q S)) (take_at P (M ++ pad) 136 h)
    ∙ ap (λ n. absorb 136 k (M ++ padding d (136 - n)) (absorb_block 136 P S)) r

pub absorbed_last : (d : ℕ) (M S : List ℕ) → length M < 136 → absorbed 136 d M S ≡ absorb_block 136 (padded 136 d M) S
unfolding absorbed absorb
absorbed_last d M S h =
    let n : length M / 136 + 1 ≡ 1 = omega arith in
    let l : length (padded 136 d M) ≤ 136 = omega (arith, length-padded d M h) in
    ap (λ k. absorb 136 k (padded 136 d M) S) n ∙ ap (λ P. absorb_block 136 P S) (take_all 136 (padded 136 d M) l)

pub length-trunc : (n : ℕ) (S : List ℕ) → length (trunc n S) ≡ 8 * n
unfolding trunc
length-trunc zero S = refl
length-trunc (suc n) S = simp length-append (omega (arith, length-trunc n S))

pub squeezed_more : (d : ℕ) (S : List ℕ) → 136 ≤ d → squeezed 136 d S ≡ trunc 17 S ++ squeezed 136 (d - 136) (keccak_f_lem S)
unfolding squeezed squeeze
squeezed_more d S h =
    let n : d / 136 + 1 ≡ suc ((d - 136) / 136 + 1) = omega arith in
    let l : d ≡ length (trunc 17 S) + (d - 136) = omega (arith, length-trunc 17 S) in
    ap (λ k. take d (squeeze 136 k S)) n
    ∙ ap (λ k. take k (trunc 17 S ++ squeeze 136 ((d - 136) / 136 + 1) (keccak_f_lem S))) l
    ∙ take-append-add (trunc 17 S) (squeeze 136 ((d - 136) / 136 + 1) (keccak_f_lem S)) (d - 136)

pub squeezed_last : (d : ℕ) (S : List ℕ) → d ≤ 136 → squeezed 136 d S ≡ take d (trunc 17 S)
unfolding squeezed squeeze
squeezed_last d S h =
    let n : d / 136 + 1 ≡ suc (d / 136) = add-one (d / 136) in
    let l : d ≤ length (trunc 17 S) = omega (arith, length-trunc 17 S) in
    ap (λ k. take d (squeeze 136 k S)) n ∙ take-append-le d (trunc 17 S) (squeeze 136 (d / 136) (keccak_f_lem S)) l
