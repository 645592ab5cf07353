-- No keystream covers two texts.
use Rattle.std.proofs.Common.{◌≡◌, ℕ, ◌^◌, ◌<◌, true, false, List, [], ◌∷◌, ◌++◌, length, get_or, take, drop, codes, sym, refl, ap, ◌∙◌, subst, arith}
use lib.Seq.{take-append_seam, drop-append_seam}
use Rattle.frame.specs.declared.message.Pair.{Pair}
use Rattle.frame.specs.declared.message.Direction.{Direction}
use Rattle.frame.specs.declared.message.Direction.TheVariants.{Up, Down}
use Rattle.frame.specs.declared.message.Message.{Message}
use Rattle.frame.specs.declared.message.Message.TheVariants.{Begin, Reply, Take, Taken, Renew, Load, All}
use Rattle.frame.specs.Row.{flag}
use Rattle.octets.specs.Low.{low_first, from_low}
use Rattle.octets.proofs.Low.{there, length_low}
use Rattle.protocol.specs.Promise.{Each, Distinct, Pairwise, Group, Frames, Renewals, Seal, seals_of, seals_in}
use Rattle.promise.proofs.Base.{each_map, each_both, some_inj}
use Rattle.sealing.specs.Secrets.{group_key}
use Rattle.sealing.specs.Seal.{Sealed, label_of, direction_byte, stream_counter, stream_input, plaintext}
use Rattle.link.specs.World.{Fleet, gate_secrets, SealedEntry, start_bytes, after_bytes}
use Rattle.link.specs.Theorems.{entries_of, Pairs, key_name, is_sealed, Apart, KeysApart, is_take, OneText, StreamsOnce}
use Rattle.refinement.proofs.Written.{length-pair_key, length-group_key, flag_small, GoodPair, GoodAs, Good}
use Rattle.refinement.proofs.Held.{AllGood}
use Rattle.refinement.proofs.Worlds.{start_inv, run}

-- ---- the input of a keystream gives its parts back

front : (xs ys us vs : List ℕ) → length xs ≡ length ys → xs ++ us ≡ ys ++ vs → (xs ≡ ys) × (us ≡ vs)
front xs ys us vs l e = (
  sym (take-append_seam xs us) ∙ ap (take (length xs)) e ∙ ap (λ n. take n (ys ++ vs)) l ∙ take-append_seam ys vs,
  sym (drop-append_seam xs us) ∙ ap (drop (length xs)) e ∙ ap (λ n. drop n (ys ++ vs)) l ∙ drop-append_seam ys vs,
)

number_back : (w n m : ℕ) → n < 256 ^ w → m < 256 ^ w → low_first w n ≡ low_first w m → n ≡ m
number_back w n m ln lm e = sym (there w n ln) ∙ ap from_low e ∙ there w m lm

label_length : (m : Message) → is_sealed m ≡ true → length (label_of m) ≡ 4
label_length (Begin g h n) s = let none : ◌≡◌ {A = ℕ} 0 1 = cc in absurd (omega arith)
label_length (Reply p) s = let none : ◌≡◌ {A = ℕ} 0 1 = cc in absurd (omega arith)
label_length (Take n c p) s = refl
label_length (Taken p) s = let none : ◌≡◌ {A = ℕ} 0 1 = cc in absurd (omega arith)
label_length (Renew r n c p) s = refl
label_length (Load d c b p) s = refl
label_length (All g n c b) s = refl

direction_small : (m : Message) → direction_byte m < 256
direction_small (Begin g h n) = omega arith
direction_small (Reply p) = omega arith
direction_small (Take n c p) = omega arith
direction_small (Taken p) = omega arith
direction_small (Renew r n c p) = omega arith
direction_small (Load d c b p) = flag_small d
direction_small (All g n c b) = omega arith

-- what is sealed as it should be: its key is 32 bytes, its counter fits 8
module _ (F : Fleet) where
  pair_key_length : (p : Pair) (a b k : List ℕ) → GoodPair F p a b k → length k ≡ 32
  pair_key_length p a b k f = ap length f.3 ∙ length-pair_key F p a b

  sized : (m : Message) (a b k q : List ℕ) → is_sealed m ≡ true → GoodAs F m a b k q → (length k ≡ 32) × (stream_counter m < 256 ^ 8)
  sized (Begin g h n) a b k q s f = let none : ◌≡◌ {A = ℕ} 0 1 = cc in absurd (omega arith)
  sized (Reply p) a b k q s f = let none : ◌≡◌ {A = ℕ} 0 1 = cc in absurd (omega arith)
  sized (Take n c p) a b k q s f = (pair_key_length p a b k f.0, f.1)
  sized (Taken p) a b k q s f = let none : ◌≡◌ {A = ℕ} 0 1 = cc in absurd (omega arith)
  sized (Renew r n c p) a b k q s f = (pair_key_length p a b k f.0, f.1)
  sized (Load d c z p) a b k q s f = (pair_key_length p a b k f.0, f.1)
  sized (All g n c z) a b k q s f = (ap length f.4 ∙ length-group_key F g n, f.2)

-- the same label, key, direction and counter
pub record SamePlace (m n : Message) (k h : List ℕ) : Type 0 where
  pub label : label_of m ≡ label_of n
  pub key : k ≡ h
  pub direction : direction_byte m ≡ direction_byte n
  pub counter : stream_counter m ≡ stream_counter n

same_place : (m n : Message) (k h : List ℕ) → is_sealed m ≡ true → is_sealed n ≡ true → (length k ≡ 32) × (stream_counter m < 256 ^ 8) →
    (length h ≡ 32) × (stream_counter n < 256 ^ 8) → stream_input k m ≡ stream_input h n → SamePlace m n k h
same_place m n k h sm sn lm ln e =
    let l = front (label_of m) (label_of n) _ _ (label_length m sm ∙ sym (label_length n sn)) e in
    let q = front k h _ _ (lm.0 ∙ sym ln.0) l.1 in
    let d = front (low_first 1 (direction_byte m)) (low_first 1 (direction_byte n)) _ _ (length_low 1 (direction_byte m) ∙ sym (length_low 1 (direction_byte n))) q.1 in
    record {
      label = l.0;
      key = q.0;
      direction = number_back 1 (direction_byte m) (direction_byte n) (direction_small m) (direction_small n) d.0;
      counter = number_back 8 (stream_counter m) (stream_counter n) lm.1 ln.1 d.1;
    }

-- ---- two messages

-- no counter is used twice
abbrev SealsApart : Message → Message → Type 0
SealsApart m n = Each (λ (s : Seal). Each (λ (t : Seal). s ≡ t → ⊥) (seals_of n)) (seals_of m)

flag_is : (d e : Direction) → flag d ≡ flag e → d ≡ e
flag_is Up Up q = refl
flag_is Up Down q = absurd (omega arith)
flag_is Down Up q = absurd (omega arith)
flag_is Down Down q = refl

other_label : {X : Type 0} (xs ys : List ℕ) → (get_or xs 0 0 ≡ get_or ys 0 0 → ⊥) → xs ≡ ys → X
other_label xs ys f e = absurd (f (ap (λ l. get_or l 0 0) e))

unsealed : {X : Type 0} → false ≡ true → X
unsealed e = let none : ◌≡◌ {A = ℕ} 0 1 = cc in absurd (omega arith)

pair_of : (p q : Pair) → Pairwise p ≡ Pairwise q → p ≡ q
pair_of p q e = cc

pair_no_group : (p : Pair) (g n : ℕ) → Pairwise p ≡ Group g n → ⊥
pair_no_group p g n e = let none : ◌≡◌ {A = ℕ} 0 1 = cc in omega arith

module _ (F : Fleet) (a b k q a2 b2 k2 q2 : List ℕ) where
  one_text : (m n : Message) → is_sealed m ≡ true → is_sealed n ≡ true → GoodAs F m a b k q → GoodAs F n a2 b2 k2 q2 → SealsApart m n → key_name m ≡ key_name n →
      SamePlace m n k k2 → (plaintext q m ≡ plaintext q2 n) × (is_take m ≡ true) × (is_take n ≡ true)
  one_text (Begin g h n) y sm sn f g2 apart name same = unsealed sm
  one_text (Reply p) y sm sn f g2 apart name same = unsealed sm
  one_text (Take n c p) (Begin g2 h2 n2) sm sn f u apart name same = unsealed sn
  one_text (Take n c p) (Reply p2) sm sn f u apart name same = unsealed sn
  one_text (Take n c p) (Take n2 c2 p2) sm sn f u apart name same =
      let e = some_inj (Pairwise p) (Pairwise p2) name in
      let g : p.gate ≡ p2.gate = ap (λ (x : Pair). x.gate) (pair_of p p2 e) in
      let k = same.counter in
      (f.3 ∙ (λ i. group_key (gate_secrets F (g i)) (k i)) ∙ sym u.3, refl, refl)
  one_text (Take n c p) (Taken p2) sm sn f u apart name same = unsealed sn
  one_text (Take n c p) (Renew r2 n2 c2 p2) sm sn f u apart name same = other_label (codes "take") (codes "keys") (λ e. omega arith) same.label
  one_text (Take n c p) (Load d2 c2 z2 p2) sm sn f u apart name same = other_label (codes "take") (codes "seal") (λ e. omega arith) same.label
  one_text (Take n c p) (All g2 n2 c2 z2) sm sn f u apart name same = other_label (codes "take") (codes "seal") (λ e. omega arith) same.label
  one_text (Taken p) y sm sn f g2 apart name same = unsealed sm
  one_text (Renew r n c p) (Begin g2 h2 n2) sm sn f u apart name same = unsealed sn
  one_text (Renew r n c p) (Reply p2) sm sn f u apart name same = unsealed sn
  one_text (Renew r n c p) (Take n2 c2 p2) sm sn f u apart name same = other_label (codes "keys") (codes "take") (λ e. omega arith) same.label
  one_text (Renew r n c p) (Taken p2) sm sn f u apart name same = unsealed sn
  one_text (Renew r n c p) (Renew r2 n2 c2 p2) sm sn f u apart name same =
      let e = pair_of p p2 (some_inj (Pairwise p) (Pairwise p2) name) in
      let k = same.counter in
      absurd (apart.0.0 (λ i. record { key = Pairwise (e i); stream = Renewals; counter = k i }))
  one_text (Renew r n c p) (Load d2 c2 z2 p2) sm sn f u apart name same = other_label (codes "keys") (codes "seal") (λ e. omega arith) same.label
  one_text (Renew r n c p) (All g2 n2 c2 z2) sm sn f u apart name same = other_label (codes "keys") (codes "seal") (λ e. omega arith) same.label
  one_text (Load d c z p) (Begin g2 h2 n2) sm sn f u apart name same = unsealed sn
  one_text (Load d c z p) (Reply p2) sm sn f u apart name same = unsealed sn
  one_text (Load d c z p) (Take n2 c2 p2) sm sn f u apart name same = other_label (codes "seal") (codes "take") (λ e. omega arith) same.label
  one_text (Load d c z p) (Taken p2) sm sn f u apart name same = unsealed sn
  one_text (Load d c z p) (Renew r2 n2 c2 p2) sm sn f u apart name same = other_label (codes "seal") (codes "keys") (λ e. omega arith) same.label
  one_text (Load d c z p) (Load d2 c2 z2 p2) sm sn f u apart name same =
      let e = pair_of p p2 (some_inj (Pairwise p) (Pairwise p2) name) in
      let w = flag_is d d2 same.direction in
      let k = same.counter in
      absurd (apart.0.0 (λ i. record { key = Pairwise (e i); stream = Frames (w i); counter = k i }))
  one_text (Load d c z p) (All g2 n2 c2 z2) sm sn f u apart name same = absurd (pair_no_group p g2 n2 (some_inj (Pairwise p) (Group g2 n2) name))
  one_text (All g n c z) (Begin g2 h2 n2) sm sn f u apart name same = unsealed sn
  one_text (All g n c z) (Reply p2) sm sn f u apart name same = unsealed sn
  one_text (All g n c z) (Take n2 c2 p2) sm sn f u apart name same = other_label (codes "seal") (codes "take") (λ e. omega arith) same.label
  one_text (All g n c z) (Taken p2) sm sn f u apart name same = unsealed sn
  one_text (All g n c z) (Renew r2 n2 c2 p2) sm sn f u apart name same = other_label (codes "seal") (codes "keys") (λ e. omega arith) same.label
  one_text (All g n c z) (Load d2 c2 z2 p2) sm sn f u apart name same = absurd (pair_no_group p2 g n (sym (some_inj (Group g n) (Pairwise p2) name)))
  one_text (All g n c z) (All g2 n2 c2 z2) sm sn f u apart name same =
      let e = some_inj (Group g n) (Group g2 n2) name in
      let k = same.counter in
      absurd (apart.0.0 (λ i. record { key = e i; stream = Frames Down; counter = k i }))

two : (F : Fleet) (e f : Sealed) → Good F e → Good F f → SealsApart e.message f.message → Apart e f → OneText e f
two F e f ge gf apart keys se sf same =
    let p = same_place e.message f.message e.key f.key se sf (sized F e.message e.a e.b e.key e.group se ge)
    (sized F f.message f.a f.b f.key f.group sf gf) same in
    one_text F e.a e.b e.key e.group f.a f.b f.key f.group e.message f.message se sf ge gf apart (keys se sf p.key) p

-- ---- all of them

each_behind : {A : Type 0} (P : A → Type 0) (xs ys : List A) → Each P (xs ++ ys) → Each P ys
each_behind P [] ys h = h
each_behind P (x ∷ xs) ys h = each_behind P xs ys h.1

each_front : {A : Type 0} (P : A → Type 0) (xs ys : List A) → Each P (xs ++ ys) → Each P xs
each_front P [] ys h = tt
each_front P (x ∷ xs) ys h = (h.0, each_front P xs ys h.1)

distinct_split : {A : Type 0} (xs ys : List A) → Distinct (xs ++ ys) → Each (λ x. Each (λ y. x ≡ y → ⊥) ys) xs × Distinct ys
distinct_split [] ys h = (tt, h)
distinct_split (x ∷ xs) ys h = let r = distinct_split xs ys h.1 in ((each_behind (λ y. x ≡ y → ⊥) xs ys h.0, r.0), r.1)

seals_each : (P : Seal → Type 0) (es : List SealedEntry) → Each P (seals_in (entries_of es)) → Each (λ (e : SealedEntry). Each P (seals_of e.«sealed».message)) es
seals_each P [] h = tt
seals_each P (e ∷ es) h =
    (each_front P (seals_of e.«sealed».message) (seals_in (entries_of es)) h, seals_each P es (each_behind P (seals_of e.«sealed».message) (seals_in (entries_of es)) h))

-- of each of these and each of those
each_swap : {A B : Type 0} (R : A → B → Type 0) (xs : List A) (ys : List B) → Each (λ x. Each (R x) ys) xs → Each (λ y. Each (λ x. R x y) xs) ys
each_swap R xs [] h = tt
each_swap R xs (y ∷ ys) h =
    (each_map (λ x. Each (R x) (y ∷ ys)) (λ x. R x y) (λ x r. r.0) xs h, each_swap R xs ys (each_map (λ x. Each (R x) (y ∷ ys)) (λ x. Each (R x) ys) (λ x r. r.1) xs h))

all_pairs : (F : Fleet) (es : List SealedEntry) → AllGood F es → Distinct (seals_in (entries_of es)) → KeysApart es → Pairs (λ (e f : SealedEntry). OneText e.«sealed» f.«sealed») es
all_pairs F [] good apart keys = tt
all_pairs F (e ∷ es) good apart keys =
    let d = distinct_split (seals_of e.«sealed».message) (seals_in (entries_of es)) apart in
    let others : Each (λ (f : SealedEntry). SealsApart e.«sealed».message f.«sealed».message) es =
    each_swap (λ (s : Seal) (f : SealedEntry). Each (λ (t : Seal). s ≡ t → ⊥) (seals_of f.«sealed».message)) (seals_of e.«sealed».message) es
    (each_map (λ (s : Seal). Each (λ (t : Seal). s ≡ t → ⊥) (seals_in (entries_of es)))
    (λ (s : Seal). Each (λ (f : SealedEntry). Each (λ (t : Seal). s ≡ t → ⊥) (seals_of f.«sealed».message)) es)
    (λ s h. seals_each (λ (t : Seal). s ≡ t → ⊥) es h) (seals_of e.«sealed».message) d.0) in (
      each_both (λ (f : SealedEntry). Good F f.«sealed» × SealsApart e.«sealed».message f.«sealed».message) (λ (f : SealedEntry). Apart e.«sealed» f.«sealed»)
          (λ (f : SealedEntry). OneText e.«sealed» f.«sealed») (λ f g k. two F e.«sealed» f.«sealed» good.0 g.0 g.1 k) es
          (each_both (λ (f : SealedEntry). Good F f.«sealed») (λ (f : SealedEntry). SealsApart e.«sealed».message f.«sealed».message)
          (λ (f : SealedEntry). Good F f.«sealed» × SealsApart e.«sealed».message f.«sealed».message) (λ f g a. (g, a)) es good.1 others) keys.0,
      all_pairs F es good.1 d.1 keys.1,
    )

pub streams_once : StreamsOnce
streams_once F g s es named u keys =
    let r = run F es (start_bytes F g s) (start_inv F g s named) u in
    all_pairs F (after_bytes F es (start_bytes F g s)).said r.0.said (subst (λ l. Distinct (seals_in l)) (sym r.0.log) r.0.rows.seals) keys
