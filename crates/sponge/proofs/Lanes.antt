-- A block as lanes: the words of eight bytes that it is cut into, and what mixing them into the state gives.
use Rattle.std.proofs.Common.{◌≡◌, ℕ, zero, suc, ◌+◌, ◌*◌, ◌/◌, ◌<◌, ◌≤◌, true, false, cond, List, [], length, get_or, drop, set, sym, ap, ◌∙◌, subst, inl, inr, lit<, arith}
use Rattle.std.specs.Prelude.{bit_xor, nat_lt}
use Rattle.std.specs.Simd.{first_chunks}
use Rattle.std.proofs.lemmas.Bool.{cases_lt}
use Rattle.std.proofs.lemmas.Bool.Decides.{nat_tests}
use lib.ListN.{length-set}
use Rattle.std.proofs.lemmas.List.{get_or-take, get_or-drop, get_or-set_other}
use Rattle.std.proofs.lemmas.List.Edits.{fill_by_more}
use Rattle.std.proofs.lemmas.List.FromFn.{fill_by_all}
use Rattle.std.proofs.lemmas.Nat.{xor_comm}
use Rattle.sponge.specs.Sponge.{from_bytes, block_lane, xor_block}

word_byte : (bs : List ℕ) (n count i k : ℕ) → i < count → k < n → get_or (get_or (first_chunks n count bs) i []) k 0 ≡ get_or bs (n * i + k) 0
word_byte bs n zero i k h b = absurd (let h : i < zero = h in omega arith)
word_byte bs n (suc count) zero k h b =
    let e : k ≡ n * 0 + k = omega arith in
    get_or-take n bs k 0 b ∙ ap (λ m. get_or bs m 0) e
word_byte bs n (suc count) (suc i) k h b =
    let below : i < count = omega arith in
    let e : n + (n * i + k) ≡ n * suc i + k = omega arith in
    word_byte (drop n bs) n count i k below b ∙ get_or-drop n bs (n * i + k) 0 ∙ ap (λ m. get_or bs m 0) e

word_is : (bs : List ℕ) (words : List (List ℕ)) (i : ℕ) → words ≡ first_chunks 8 (length bs / 8) bs → i < length bs / 8 → from_bytes (get_or words i []) 0 ≡ from_bytes bs (8 * i)
unfolding from_bytes
word_is bs words i e h =
    let byte = λ (k : ℕ) (b : k < 8). ap (λ ws. get_or (get_or ws i []) k 0) e ∙ word_byte bs 8 (length bs / 8) i k h b in
    let start : 8 * i + 0 ≡ 8 * i = omega arith in
    cc (byte 0 (lit< tt), byte 1 (lit< tt), byte 2 (lit< tt), byte 3 (lit< tt), byte 4 (lit< tt), byte 5 (lit< tt), byte 6 (lit< tt), byte 7 (lit< tt))

-- the first i words of a block are mixed into the lanes that were S
pub record Mixed (block S : List ℕ) (i : ℕ) (lanes : List ℕ) : Type 0 where
  pub size : length lanes ≡ 25
  pub mixed : (k : ℕ) → k < i → get_or lanes k 0 ≡ bit_xor (get_or S k 0) (from_bytes block (8 * k))
  pub left : (k : ℕ) → i ≤ k → get_or lanes k 0 ≡ get_or S k 0

pub mixed_more : (block S lanes : List ℕ) (words : List (List ℕ)) (i word : ℕ) → word ≡ from_bytes (get_or words i []) 0 → words ≡ first_chunks 8 (length block / 8) block → i < 17 → length block ≡ 136 → Mixed block S i lanes → Mixed block S (i + 1) (set lanes i (bit_xor (get_or lanes i 0) word))
mixed_more block S lanes words i word read cut h l m =
    let e : word ≡ from_bytes block (8 * i) = read ∙ word_is block words i cut (omega arith) in
    let new : ℕ = bit_xor (get_or lanes i 0) word in
    let f : ℕ → ℕ = λ k. bit_xor (get_or S k 0) (from_bytes block (8 * k)) in
    let is : new ≡ f i = ap (λ z. bit_xor z word) (m.left i (omega arith)) ∙ ap (λ z. bit_xor (get_or S i 0) z) e in
    let P : ℕ → Type 0 = λ v. (k : ℕ) → k < i + 1 → get_or (set lanes i v) k 0 ≡ f k in
    let within : i < length lanes = omega (arith, m.size) in
    record {
      size = length-set lanes i new ∙ m.size;
      mixed = subst P (sym is) (fill_by_more f lanes i 0 within m.mixed);
      left = λ k b. get_or-set_other lanes i k new 0 (λ s. absurd (omega arith)) ∙ m.left k (omega arith);
    }

pub xor_block_is : (block S lanes : List ℕ) → Mixed block S 17 lanes → lanes ≡ xor_block 136 block S
xor_block_is block S lanes m =
    fill_by_all (λ k. bit_xor (block_lane 136 block k) (get_or S k 0)) lanes 25 0 m.size
    (λ k h. elim (cases_lt k 17) [
      | inl lt ↦
          let t : nat_lt (8 * k) 136 ≡ true = grind (arith, nat_tests) in
          m.mixed k lt ∙ xor_comm (get_or S k 0) (from_bytes block (8 * k)) ∙ ap (λ b. bit_xor (cond b (from_bytes block (8 * k)) 0) (get_or S k 0)) (sym t)
      | inr ge ↦
          let t : nat_lt (8 * k) 136 ≡ false = grind (arith, nat_tests) in
          m.left k ge ∙ ap (λ b. bit_xor (cond b (from_bytes block (8 * k)) 0) (get_or S k 0)) (sym t)
    ])
