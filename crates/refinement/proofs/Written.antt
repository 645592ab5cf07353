-- A sealed message in bytes: it is cut into its parts, and opens to what was sealed.
use Rattle.std.proofs.Common.{◌≡◌, ℕ, suc, ◌^◌, ◌<◌, true, T, eqb, List, [], ◌∷◌, ◌++◌, length, get_or, take, drop, Ok, sym, refl, ap, ◌∙◌, subst, arith, eqb→eq}
use lib.Bits.{bit_xor, xor_assoc, xor_self, xor_zero_r}
use lib.Dec.{eqb_refl}
use lib.Seq.{take-append_seam}
use Rattle.frame.specs.declared.message.Pair.{Pair}
use Rattle.frame.specs.declared.message.Direction.{Direction}
use Rattle.frame.specs.declared.message.Direction.TheVariants.{Up, Down}
use Rattle.frame.specs.declared.message.Message.{Message}
use Rattle.frame.specs.declared.message.Message.TheVariants.{Begin, Reply, Take, Taken, Renew, Load, All}
use Rattle.frame.specs.Row.{code, pair_row, place, message_of, flag}
use Rattle.octets.specs.declared.parts.Cut.{Cut}
use Rattle.octets.specs.Low.{low_first, from_low}
use Rattle.octets.specs.Layout.{Part, SealedKey, Tag, pair, layout, widths, total, tagged, fill, octets_of, tagged_of, nonce_of}
use Rattle.octets.specs.Cutting.{cut}
use Rattle.octets.specs.Laws.{FitsLayout, Fits, blank, parts_of, row_of}
use Rattle.octets.proofs.Low.{there, length_low}
use Rattle.octets.proofs.Fields.{Lens, long}
use Rattle.octets.proofs.RoundTrip.{written_is_cut}
use Rattle.protocol.specs.Calls.{is_tagged}
use Rattle.promise.proofs.Base.{and_l, and_r, and_i}
use Rattle.sealing.specs.Secrets.{digest, pairwise_key, group_key}
use Rattle.sealing.specs.Seal.{Sealed, same_bytes, cover, keystream, sealed_body, sealed_key, tag_of, tagged_bytes, octets_sealed}
use Rattle.link.specs.Keys.{tag_right, opened_with, group_with}
use Rattle.link.specs.World.{Fleet, gate_secrets, hand_secrets}

-- ---- bytes

pub bytes→ : (xs ys : List ℕ) → T (same_bytes xs ys) → xs ≡ ys
bytes→ [] [] t = refl
bytes→ [] (y ∷ ys) t = elim t [ ]
bytes→ (x ∷ xs) [] t = elim t [ ]
bytes→ (x ∷ xs) (y ∷ ys) t =
    let e = eqb→eq x y (and_l (eqb x y) (same_bytes xs ys) t) in let r = bytes→ xs ys (and_r (eqb x y) (same_bytes xs ys) t) in λ i. e i ∷ r i

pub bytes_refl : (xs : List ℕ) → T (same_bytes xs xs)
bytes_refl [] = tt
bytes_refl (x ∷ xs) = and_i (eqb x x) (same_bytes xs xs) (eqb_refl x) (bytes_refl xs)

cover_twice : (xs s : List ℕ) → cover (cover xs s) s ≡ xs
unfolding cover
cover_twice [] s = refl
cover_twice (x ∷ xs) s =
    let e : bit_xor (bit_xor x (get_or s 0 0)) (get_or s 0 0) ≡ x =
    xor_assoc x (get_or s 0 0) (get_or s 0 0) ∙ ap (bit_xor x) (xor_self (get_or s 0 0)) ∙ xor_zero_r x in
    let r = cover_twice xs (drop 1 s) in
    λ i. e i ∷ r i

length-cover : (xs s : List ℕ) → length (cover xs s) ≡ length xs
unfolding cover
length-cover [] s = refl
length-cover (x ∷ xs) s = ap suc (length-cover xs (drop 1 s))

-- ---- a message that is sealed as it should be: it fits its layout, under the key of its name, and the group key that it
-- carries is the one with its number

abbrev pub pair_key : Fleet → Pair → (a b : List ℕ) → List ℕ
pair_key F p a b = pairwise_key (gate_secrets F p.gate) p.hand a b

-- both ends make the same key
pub same_key : (F : Fleet) (g s : ℕ) (a b : List ℕ) → pairwise_key (hand_secrets F s) g a b ≡ pairwise_key (gate_secrets F g) s a b
unfolding pairwise_key
same_key F g s a b = refl

pub length-pair_key : (F : Fleet) (p : Pair) (a b : List ℕ) → length (pair_key F p a b) ≡ 32
unfolding pairwise_key digest
length-pair_key F p a b = F.sized _ 32

pub length-group_key : (F : Fleet) (g n : ℕ) → length (group_key (gate_secrets F g) n) ≡ 32
unfolding group_key digest
length-group_key F g n = F.sized _ 32

length_tag : (F : Fleet) (k x : List ℕ) → length (tag_of F.hash k x) ≡ 16
unfolding tag_of digest
length_tag F k x = F.sized _ 16

-- the bytes are those of the pair's nonces
abbrev pub Named : Pair → (a b : List ℕ) → Type 0
Named p a b = (nonce_of a ≡ p.anonce) × (nonce_of b ≡ p.snonce) × (length a ≡ 32) × (length b ≡ 32)

abbrev pub GoodPair : Fleet → Pair → (a b key : List ℕ) → Type 0
GoodPair F p a b k = (p.gate < 256) × (p.hand < 65536) × Named p a b × (k ≡ pair_key F p a b)

abbrev pub GoodAs : Fleet → Message → (a b key group : List ℕ) → Type 0
GoodAs F (Begin g h n) a b k q = (g < 256) × (h < 65536) × (nonce_of a ≡ n) × (length a ≡ 32)
GoodAs F (Reply p) a b k q = GoodPair F p a b k
GoodAs F (Take n c p) a b k q = GoodPair F p a b k × (n < 256 ^ 8) × (c < 256 ^ 8) × (q ≡ group_key (gate_secrets F p.gate) n)
GoodAs F (Taken p) a b k q = GoodPair F p a b k
GoodAs F (Renew r n c p) a b k q = GoodPair F p a b k × (r < 256 ^ 8) × (n < 256 ^ 8) × (c < 256 ^ 8) × (q ≡ group_key (gate_secrets F p.gate) n)
GoodAs F (Load d c z p) a b k q = GoodPair F p a b k × (c < 256 ^ 8) × (z < 256 ^ 8)
GoodAs F (All g n c z) a b k q = (g < 256) × (n < 256 ^ 8) × (c < 256 ^ 8) × (z < 256 ^ 8) × (k ≡ group_key (gate_secrets F g) n)

abbrev pub Good : Fleet → Sealed → Type 0
Good F s = GoodAs F s.message s.a s.b s.key s.group

-- ---- cut

pub flag_small : (d : Direction) → flag d < 256
flag_small Up = omega arith
flag_small Down = omega arith

module _ (F : Fleet) where
  length_carried : (g n : ℕ) (q s : List ℕ) → q ≡ group_key (gate_secrets F g) n → length (cover q s) ≡ 32
  length_carried g n q s e = length-cover q s ∙ ap length e ∙ length-group_key F g n

  length_body : (b : ℕ) (s : List ℕ) → length (cover (low_first 8 b) s) ≡ 8
  length_body b s = length-cover (low_first 8 b) s ∙ length_low 8 b

  fits_pair : (ps : List Part) (p : Pair) (a b k body key t : List ℕ) → GoodPair F p a b k → FitsLayout ps [] [] body key t →
      FitsLayout (pair ps) (pair_row p) (a ∷ b ∷ []) body key t
  fits_pair ps p a b k body key t f rest = (f.0, (f.1, (f.2.2, f.2.0, (f.2.3, f.2.1, rest))))

  fits : (m : Message) (a b k q t : List ℕ) → length t ≡ 16 → GoodAs F m a b k q → Fits m a b (sealed_body F.hash k m) (sealed_key F.hash k q m) t
  fits (Begin g h n) a b k q t l f = (omega arith, (f.0, (f.1, (f.3, f.2, tt))))
  fits (Reply p) a b k q t l f = (omega arith, fits_pair (Tag ∷ []) p a b k [] [] t f (l, tt))
  fits (Take n c p) a b k q t l f =
      (omega arith, (f.1, (f.2, fits_pair (SealedKey ∷ Tag ∷ []) p a b k [] _ t f.0 (length_carried p.gate n q _ f.3, (l, tt)))))
  fits (Taken p) a b k q t l f = (omega arith, fits_pair (Tag ∷ []) p a b k [] [] t f (l, tt))
  fits (Renew r n c p) a b k q t l f =
      (omega arith, (f.1, (f.2, (f.3, fits_pair (SealedKey ∷ Tag ∷ []) p a b k [] _ t f.0 (length_carried p.gate n q _ f.4, (l, tt))))))
  fits (Load d c z p) a b k q t l f =
      (omega arith, (flag_small d, (f.1, (length_body z _, fits_pair (Tag ∷ []) p a b k [] [] t f.0 (l, tt)))))
  fits (All g n c z) a b k q t l f = (omega arith, (f.0, (f.1, (f.2, (length_body z _, (l, tt))))))

  abbrev pub sealed_parts : Sealed → Cut
  sealed_parts s =
      parts_of s.message s.a s.b (sealed_body F.hash s.key s.message) (sealed_key F.hash s.key s.group s.message)
      (tag_of F.hash s.key (tagged_bytes F.hash s))

  pub sealed_cut : (s : Sealed) → Good F s → cut (octets_sealed F.hash s) ≡ Ok (sealed_parts s)
  unfolding octets_sealed
  sealed_cut s f = written_is_cut s.message s.a s.b _ _ _ (fits s.message s.a s.b s.key s.group _ (length_tag F s.key (tagged_bytes F.hash s)) f)

  -- ---- opened

  pub parts_message : (m : Message) (a b x k t : List ℕ) → message_of (row_of (parts_of m a b x k t)) ≡ blank m
  parts_message (Begin g h n) a b x k t = refl
  parts_message (Reply p) a b x k t = refl
  parts_message (Take n c p) a b x k t = refl
  parts_message (Taken p) a b x k t = refl
  parts_message (Renew r n c p) a b x k t = refl
  parts_message (Load Up c z p) a b x k t = refl
  parts_message (Load Down c z p) a b x k t = refl
  parts_message (All g n c z) a b x k t = refl

  body_back : (z : ℕ) (s : List ℕ) → z < 256 ^ 8 → from_low (cover (cover (low_first 8 z) s) s) ≡ z
  body_back z s l = ap from_low (cover_twice (low_first 8 z) s) ∙ there 8 z l

  opened_as : (m : Message) (a b k q t : List ℕ) → GoodAs F m a b k q → opened_with F.hash k (parts_of m a b (sealed_body F.hash k m) (sealed_key F.hash k q m) t) ≡ m
  unfolding keystream
  opened_as (Begin g h n) a b k q t f = refl
  opened_as (Reply p) a b k q t f = refl
  opened_as (Take n c p) a b k q t f = refl
  opened_as (Taken p) a b k q t f = refl
  opened_as (Renew r n c p) a b k q t f = refl
  opened_as (Load Up c z p) a b k q t f = ap (λ z. Load Up c z p) (body_back z _ f.2)
  opened_as (Load Down c z p) a b k q t f = ap (λ z. Load Down c z p) (body_back z _ f.2)
  opened_as (All g n c z) a b k q t f = ap (λ z. All g n c z) (body_back z _ f.3)

  pub opened_is : (s : Sealed) → Good F s → opened_with F.hash s.key (sealed_parts s) ≡ s.message
  opened_is s f = opened_as s.message s.a s.b s.key s.group _ f

  pub take_opened : (n c : ℕ) (p : Pair) (a b k q t : List ℕ) → group_with F.hash k (parts_of (Take n c p) a b (sealed_body F.hash k (Take n c p)) (sealed_key F.hash k q (Take n c p)) t) ≡ q
  take_opened n c p a b k q t = cover_twice q (keystream F.hash k (Take n c p) 32)

  pub renew_opened : (r n c : ℕ) (p : Pair) (a b k q t : List ℕ) → group_with F.hash k (parts_of (Renew r n c p) a b (sealed_body F.hash k (Renew r n c p)) (sealed_key F.hash k q (Renew r n c p)) t) ≡ q
  renew_opened r n c p a b k q t = cover_twice q (keystream F.hash k (Renew r n c p) 32)

  -- ---- tagged

  abbrev Tail : Message → (a b body key t : List ℕ) → Type 0
  Tail m a b x k t = (octets_of m a b x k t ≡ tagged_of m a b x k ++ t) × (length (tagged_of m a b x k) ≡ (parts_of m a b x k t).tagged) × ((parts_of m a b x k t).tag ≡ t)

  pair_lens : (ns : List ℕ) (fs : List (List ℕ)) (p : Pair) (a b k : List ℕ) → GoodPair F p a b k → Lens ns fs →
      Lens (1 ∷ 2 ∷ 32 ∷ 32 ∷ ns) (low_first 1 p.gate ∷ low_first 2 p.hand ∷ a ∷ b ∷ fs)
  pair_lens ns fs p a b k f rest = (length_low 1 p.gate, (length_low 2 p.hand, (f.2.2, (f.2.3, rest))))

  -- the fields that the tag is over
  abbrev tagged_fields : Message → (a b k q : List ℕ) → List (List ℕ)
  tagged_fields m a b k q = fill (tagged (layout (place (code m) 0))) (code m) (a ∷ b ∷ []) (sealed_body F.hash k m) (sealed_key F.hash k q m) []

  field_lens : (m : Message) (a b k q : List ℕ) → GoodAs F m a b k q → Lens (widths (tagged (layout (place (code m) 0)))) (tagged_fields m a b k q)
  field_lens (Begin g h n) a b k q f = (length_low 1 0, (length_low 1 g, (length_low 2 h, (f.3, tt))))
  field_lens (Reply p) a b k q f = (length_low 1 1, pair_lens [] [] p a b k f tt)
  field_lens (Take n c p) a b k q f = (
    length_low 1 2,
    (length_low 8 n, (length_low 8 c, pair_lens (32 ∷ []) (sealed_key F.hash k q (Take n c p) ∷ []) p a b k f.0 (length_carried p.gate n q _ f.3, tt))),
  )
  field_lens (Taken p) a b k q f = (length_low 1 3, pair_lens [] [] p a b k f tt)
  field_lens (Renew r n c p) a b k q f = (
    length_low 1 4,
    (length_low 8 r, (length_low 8 n, (length_low 8 c, pair_lens (32 ∷ []) (sealed_key F.hash k q (Renew r n c p) ∷ []) p a b k f.0 (length_carried p.gate n q _ f.4, tt)))),
  )
  field_lens (Load d c z p) a b k q f = (length_low 1 5, (length_low 1 (flag d), (length_low 8 c, (length_body z _, pair_lens [] [] p a b k f.0 tt))))
  field_lens (All g n c z) a b k q f = (length_low 1 6, (length_low 1 g, (length_low 8 n, (length_low 8 c, (length_body z _, tt)))))

  length-tagged : (m : Message) (a b k q : List ℕ) → GoodAs F m a b k q →
      length (tagged_of m a b (sealed_body F.hash k m) (sealed_key F.hash k q m)) ≡ total (widths (tagged (layout (place (code m) 0))))
  length-tagged m a b k q f = long (widths (tagged (layout (place (code m) 0)))) (tagged_fields m a b k q) (field_lens m a b k q f)

  tail : (m : Message) (a b k q t : List ℕ) → is_tagged m ≡ true → GoodAs F m a b k q → Tail m a b (sealed_body F.hash k m) (sealed_key F.hash k q m) t
  tail (Begin g h n) a b k q t e f = let none : ◌≡◌ {A = ℕ} 0 1 = cc in absurd (omega arith)
  tail (Reply p) a b k q t e f = (refl, length-tagged (Reply p) a b k q f, refl)
  tail (Take n c p) a b k q t e f = (refl, length-tagged (Take n c p) a b k q f, refl)
  tail (Taken p) a b k q t e f = (refl, length-tagged (Taken p) a b k q f, refl)
  tail (Renew r n c p) a b k q t e f = (refl, length-tagged (Renew r n c p) a b k q f, refl)
  tail (Load d c z p) a b k q t e f = (refl, length-tagged (Load d c z p) a b k q f, refl)
  tail (All g n c z) a b k q t e f = (refl, length-tagged (All g n c z) a b k q f, refl)

  -- under its own key a tag is right
  pub tag_right_lem : (s : Sealed) → is_tagged s.message ≡ true → Good F s → T (tag_right F.hash s.key (octets_sealed F.hash s) (sealed_parts s))
  unfolding octets_sealed
  tag_right_lem s e f =
      let t : List ℕ = tag_of F.hash s.key (tagged_bytes F.hash s) in
      let h = tail s.message s.a s.b s.key s.group t e f in
      let cutoff : take (sealed_parts s).tagged (octets_sealed F.hash s) ≡ tagged_bytes F.hash s =
      ap (λ n. take n (octets_sealed F.hash s)) (sym h.1) ∙ ap (take (length (tagged_bytes F.hash s))) h.0 ∙ take-append_seam (tagged_bytes F.hash s) t in
      subst (λ y. T (same_bytes (tag_of F.hash s.key y) (sealed_parts s).tag)) (sym cutoff) (subst (λ y. T (same_bytes t y)) (sym h.2) (bytes_refl t))
