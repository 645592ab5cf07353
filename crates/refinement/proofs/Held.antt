-- What is held beside the rules is the key material of the pairs that they hold, and what is accepted was said.
use Rattle.std.proofs.Common.{◌≡◌, ℕ, zero, suc, ◌+◌, ◌*◌, ◌^◌, ◌<◌, ◌≤◌, Bool, true, false, cond, ◌&&◌, T, eqb, ltb, List, [], ◌∷◌, length, Some, Ok, Err, Result, sym, refl, ap, ◌∙◌, subst, ⊎_elim, arith, leb→le, length-append, length-drop, length-take, ltb-true, eqb-true}
use Rattle.frame.specs.declared.message.Nonce.{Nonce}
use Rattle.frame.specs.declared.message.Pair.{Pair}
use Rattle.frame.specs.declared.message.Message.{Message}
use Rattle.frame.specs.declared.message.Message.TheVariants.{Begin, Reply, Take, Taken, Renew, Load, All}
use Rattle.frame.specs.declared.message.Refusal.{Refusal}
use Rattle.frame.specs.declared.message.Refusal.TheVariants.{NoRow}
use Rattle.frame.specs.Row.{message_of}
use Rattle.frame.proofs.Small.{and_left, and_right}
use Rattle.octets.specs.declared.parts.Cut.{Cut}
use Rattle.octets.specs.Low.{low_first, from_low}
use Rattle.octets.specs.Layout.{layout, widths, total, nonce_of}
use Rattle.octets.specs.Cutting.{cut, cut_kind, fits}
use Rattle.octets.specs.Laws.{parts_of, row_of}
use Rattle.octets.proofs.Low.{there, length_low}
use Rattle.protocol.specs.declared.held.Endpoint.{Endpoint}
use Rattle.protocol.specs.Held.{is_this, nonce_of as nonce_numbers}
use Rattle.protocol.specs.Calls.{is_tagged}
use Rattle.protocol.specs.World.{Entry}
use Rattle.protocol.specs.Promise.{Each}
use Rattle.promise.proofs.Base.{and_l, and_r, or_e, In, in_here, in_more, Any, any_this, this→}
use Rattle.sealing.specs.Secrets.{Secrets, group_key, nonce_bytes, entropy_at, has_entropy}
use Rattle.sealing.specs.Seal.{Sealed, same_bytes}
use Rattle.sealing.specs.declared.keys.PairKeys.{PairKeys}
use Rattle.link.specs.declared.keys.TagKey.TheVariants.{Missing, Mismatch, Key}
use Rattle.link.specs.Keys.{matching, held_key}
use Rattle.link.specs.World.{Fleet, gate_secrets, SealedEntry, bytes_of, is_said}
use Rattle.link.specs.Theorems.{entries_of}
use Rattle.refinement.proofs.Written.{bytes→, pair_key, Named, GoodPair, GoodAs, Good, sealed_parts, sealed_cut}

-- ---- a pair that an end holds, and its key material

abbrev pub HeldAs : Fleet → (g h : ℕ) → PairKeys → Pair → Type 0
HeldAs F g h k p = (p.gate ≡ g) × (p.hand ≡ h) × Named p k.nonces.anonce k.nonces.snonce × (k.key ≡ pair_key F p k.nonces.anonce k.nonces.snonce)

pub held_good : (F : Fleet) (g h : ℕ) (k : PairKeys) (p : Pair) → g < 256 → h < 65536 → HeldAs F g h k p → GoodPair F p k.nonces.anonce k.nonces.snonce k.key
held_good F g h k p lg lh f = let x = f.0 in let y = f.1 in (omega arith, omega arith, f.2, f.3)

-- ---- the key of a message's tag, by its name

abbrev pub key_of : Fleet → Message → (a b : List ℕ) → List ℕ
key_of F (Begin g h n) a b = []
key_of F (Reply p) a b = pair_key F p a b
key_of F (Take n c p) a b = pair_key F p a b
key_of F (Taken p) a b = pair_key F p a b
key_of F (Renew r n c p) a b = pair_key F p a b
key_of F (Load d c z p) a b = pair_key F p a b
key_of F (All g n c z) a b = group_key (gate_secrets F g) n

match_is : (F : Fleet) (g h : ℕ) (p : Pair) (a b t : List ℕ) (k : PairKeys) → HeldAs F g h k p → matching a b k ≡ Key t → t ≡ pair_key F p a b
match_is F g h p a b t k f = go (same_bytes a k.nonces.anonce && same_bytes b k.nonces.snonce) (λ u. (bytes→ a k.nonces.anonce (and_l _ _ u), bytes→ b k.nonces.snonce (and_r (same_bytes a k.nonces.anonce) _ u)))
  where
    go : (u : Bool) → (T u → (a ≡ k.nonces.anonce) × (b ≡ k.nonces.snonce)) → cond u (Key k.key) Mismatch ≡ Key t → t ≡ pair_key F p a b
    go true same e =
        let x = same tt in
        let y : t ≡ k.key = cc in
        y ∙ f.3 ∙ (λ i. pair_key F p (sym x.0 i) (sym x.1 i))
    go false same e = let none : ◌≡◌ {A = ℕ} 0 1 = cc in absurd (omega arith)

-- the key that is held for a pair is the key of its name
pub held_is : (F : Fleet) (g h : ℕ) (p : Pair) (a b t : List ℕ) (e : Endpoint) (o k : PairKeys) → Any (HeldAs F g h o) e.offered → Any (HeldAs F g h k) e.key →
    held_key p a b e o k ≡ Key t → t ≡ pair_key F p a b
held_is F g h p a b t e o k fo fk = go (is_this p e.offered) (is_this p e.key) (this→ p e.offered) (this→ p e.key)
  where
    go : (u v : Bool) → (T u → e.offered ≡ Some p) → (T v → e.key ≡ Some p) → cond u (matching a b o) (cond v (matching a b k) Missing) ≡ Key t → t ≡ pair_key F p a b
    go true v f1 f2 q = match_is F g h p a b t o (any_this (HeldAs F g h o) e.offered p (f1 tt) fo) q
    go false true f1 f2 q = match_is F g h p a b t k (any_this (HeldAs F g h k) e.key p (f2 tt) fk) q
    go false false f1 f2 q = let none : ◌≡◌ {A = ℕ} 0 1 = cc in absurd (omega arith)

-- ---- nonces that are drawn

pub nonce_is : (k w n : ℕ) (e : List ℕ) → k < 256 → w < 65536 → n < 256 ^ 8 → nonce_of (nonce_bytes k w n e) ≡ nonce_numbers k w n
unfolding nonce_bytes low_first
nonce_is k w n e hk hw hn =
    let x : from_low (low_first 1 k) ≡ k = there 1 k hk in
    let y : from_low (low_first 2 w) ≡ w = there 2 w hw in
    let z : from_low (low_first 8 n) ≡ n = there 8 n hn in
    λ i. record { kind = x i; node = y i; index = z i }

pub nonce_length : (v : Secrets) (k w n : ℕ) → T (has_entropy v n) → length (nonce_bytes k w n (entropy_at v n)) ≡ 32
unfolding nonce_bytes
nonce_length v k w n t =
    let h : 21 * n + 21 ≤ length v.entropy = leb→le (21 * n + 21) (length v.entropy) t in
    simp (length-append, length_low, length-take, length-drop) (omega arith)

-- ---- what was said

abbrev pub AllGood : Fleet → List SealedEntry → Type 0
AllGood F es = Each (λ (e : SealedEntry). Good F e.«sealed») es

-- what is accepted was said, by somebody
abbrev pub Spoken : Fleet → (bytes : List ℕ) → List SealedEntry → Type 0
Spoken F x es = (e : SealedEntry) × (x ≡ bytes_of F e) × Good F e.«sealed» × In e.«sealed».message (entries_of es)

pub said_find : (F : Fleet) (x : List ℕ) (es : List SealedEntry) → T (is_said F x es) → AllGood F es → Spoken F x es
said_find F x [] t h = elim t [ ]
said_find F x (e ∷ es) t h =
    ⊎_elim (λ u. (e, bytes→ x (bytes_of F e) u, h.0, in_here e.node e.«sealed».message (entries_of es)))
    (λ u. let f = said_find F x es u h.1 in (f.0, f.1, f.2, in_more e.node e.«sealed».message (entries_of es) f.0.«sealed».message f.3))
    (or_e (same_bytes x (bytes_of F e)) (is_said F x es) t)

key_as : (F : Fleet) (m : Message) (a b k q x y t : List ℕ) → is_tagged m ≡ true → GoodAs F m a b k q →
    key_of F (message_of (row_of (parts_of m a b x y t))) (parts_of m a b x y t).nonces.anonce (parts_of m a b x y t).nonces.snonce ≡ k
key_as F (Begin g h n) a b k q x y t e f = let none : ◌≡◌ {A = ℕ} 0 1 = cc in absurd (omega arith)
key_as F (Reply p) a b k q x y t e f = sym f.3
key_as F (Take n c p) a b k q x y t e f = sym f.0.3
key_as F (Taken p) a b k q x y t e f = sym f.3
key_as F (Renew r n c p) a b k q x y t e f = sym f.0.3
key_as F (Load d c z p) a b k q x y t e f = sym f.0.3
key_as F (All g n c z) a b k q x y t e f = sym f.4

-- it was sealed as s, under the key that the hearer has for it
abbrev pub Accepted : Fleet → Cut → (key : List ℕ) → List Entry → Type 0
Accepted F c k es = (s : Sealed) × (c ≡ sealed_parts F s) × (k ≡ s.key) × Good F s × In s.message es

same_cut : (c d : Cut) → ◌≡◌ {A = Result Cut Refusal} (Ok c) (Ok d) → c ≡ d
same_cut c d e = cc

pub tagged_blank : (m : Message) (a b x y t : List ℕ) → is_tagged (message_of (row_of (parts_of m a b x y t))) ≡ is_tagged m
tagged_blank (Begin g h n) a b x y t = refl
tagged_blank (Reply p) a b x y t = refl
tagged_blank (Take n c p) a b x y t = refl
tagged_blank (Taken p) a b x y t = refl
tagged_blank (Renew r n c p) a b x y t = refl
tagged_blank (Load d c z p) a b x y t = refl
tagged_blank (All g n c z) a b x y t = refl

pub accepted : (F : Fleet) (x : List ℕ) (c : Cut) (k : List ℕ) (es : List SealedEntry) → AllGood F es → cut x ≡ Ok c → is_tagged (message_of (row_of c)) ≡ true →
    k ≡ key_of F (message_of (row_of c)) c.nonces.anonce c.nonces.snonce → T (is_said F x es) → Accepted F c k (entries_of es)
accepted F x c k es ok ec tagged ek said =
    let f = said_find F x es said ok in
    let s : Sealed = f.0.«sealed» in
    let same : c ≡ sealed_parts F s = same_cut c (sealed_parts F s) (sym ec ∙ ap cut f.1 ∙ sealed_cut F s f.2) in
    let t : is_tagged s.message ≡ true = sym (tagged_blank s.message s.a s.b _ _ _) ∙ (sym (ap (λ d. is_tagged (message_of (row_of d))) same) ∙ tagged) in
    (s, same, ek ∙ (ap (λ d. key_of F (message_of (row_of d)) d.nonces.anonce d.nonces.snonce) same ∙ key_as F s.message s.a s.b s.key s.group _ _ _ t f.2), f.2, f.3)

-- ---- a begin may be anybody's bytes: its nonce's numbers are those of its 32 bytes

abbrev BeginCut : Cut → Type 0
BeginCut c = (g h : ℕ) (n : Nonce) → message_of (row_of c) ≡ Begin g h n → (nonce_of c.nonces.anonce ≡ n) × (length c.nonces.anonce ≡ 32)

by_fit : (b : Bool) (d c : Cut) → cond b (Ok d) (Err NoRow) ≡ Ok c → (b ≡ true) × (d ≡ c)
by_fit true d c e = (refl, same_cut d c e)
by_fit false d c e = let none : ◌≡◌ {A = ℕ} 0 1 = cc in absurd (omega arith)

begin_zero : (ys : List ℕ) → length (0 ∷ ys) ≡ 36 → BeginCut (cut_kind 0 (0 ∷ ys))
begin_zero ys l g h n e = (cc, simp (length-take, length-drop) (omega arith))

pub begin_cut : (x : List ℕ) (c : Cut) → cut x ≡ Ok c → BeginCut c
unfolding cut
begin_cut [] c e = let none : ◌≡◌ {A = ℕ} 0 1 = cc in absurd (omega arith)
begin_cut (zero ∷ ys) c e =
    let f = by_fit (fits 0 (0 ∷ ys)) (cut_kind 0 (0 ∷ ys)) c e in
    subst BeginCut f.1 (begin_zero ys (eqb-true _ _ (and_right (ltb 0 7) (eqb (length (0 ∷ ys)) 36) f.0)))
begin_cut (suc zero ∷ ys) c e = let f = by_fit (fits 1 (1 ∷ ys)) (cut_kind 1 (1 ∷ ys)) c e in subst BeginCut f.1 (λ g h n q. let none : ◌≡◌ {A = ℕ} 0 1 = cc in absurd (omega arith))
begin_cut (suc (suc zero) ∷ ys) c e = let f = by_fit (fits 2 (2 ∷ ys)) (cut_kind 2 (2 ∷ ys)) c e in subst BeginCut f.1 (λ g h n q. let none : ◌≡◌ {A = ℕ} 0 1 = cc in absurd (omega arith))
begin_cut (suc (suc (suc zero)) ∷ ys) c e = let f = by_fit (fits 3 (3 ∷ ys)) (cut_kind 3 (3 ∷ ys)) c e in subst BeginCut f.1 (λ g h n q. let none : ◌≡◌ {A = ℕ} 0 1 = cc in absurd (omega arith))
begin_cut (suc (suc (suc (suc zero))) ∷ ys) c e = let f = by_fit (fits 4 (4 ∷ ys)) (cut_kind 4 (4 ∷ ys)) c e in subst BeginCut f.1 (λ g h n q. let none : ◌≡◌ {A = ℕ} 0 1 = cc in absurd (omega arith))
begin_cut (suc (suc (suc (suc (suc zero)))) ∷ ys) c e = let f = by_fit (fits 5 (5 ∷ ys)) (cut_kind 5 (5 ∷ ys)) c e in subst BeginCut f.1 (λ g h n q. let none : ◌≡◌ {A = ℕ} 0 1 = cc in absurd (omega arith))
begin_cut (suc (suc (suc (suc (suc (suc zero))))) ∷ ys) c e = let f = by_fit (fits 6 (6 ∷ ys)) (cut_kind 6 (6 ∷ ys)) c e in subst BeginCut f.1 (λ g h n q. let none : ◌≡◌ {A = ℕ} 0 1 = cc in absurd (omega arith))
begin_cut (suc (suc (suc (suc (suc (suc (suc k)))))) ∷ ys) c e =
    let kind : ℕ = suc (suc (suc (suc (suc (suc (suc k)))))) in
    let f = by_fit (fits kind (kind ∷ ys)) (cut_kind kind (kind ∷ ys)) c e in
    let l = ltb-true kind 7 (and_left (ltb kind 7) (eqb (length (kind ∷ ys)) (total (widths (layout kind)))) f.0) in
    absurd (omega arith)
