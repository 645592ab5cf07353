-- Tests, equality of pairs and messages, logs and lists.
use Rattle.std.proofs.Common.{◌≡◌, ℕ, zero, suc, ◌<◌, Bool, true, false, cond, ◌&&◌, ◌||◌, T, eqb, ◌⊎◌, List, [], ◌∷◌, ◌++◌, get_or, set, replicate, Some, None, Option, sym, refl, ap, ◌∙◌, subst, inl, inr, ⊎_elim, arith, eqb→eq}
use lib.Dec.{eqb_refl}
use Rattle.frame.specs.declared.message.Node.{Node}
use Rattle.frame.specs.declared.message.Node.TheVariants.{Gate, Hand}
use Rattle.frame.specs.declared.message.Nonce.{Nonce}
use Rattle.frame.specs.declared.message.Pair.{Pair}
use Rattle.frame.specs.declared.message.Message.{Message}
use Rattle.frame.specs.declared.message.Message.TheVariants.{Take}
use Rattle.frame.specs.Row.{code, message_of}
use Rattle.frame.proofs.RoundTrip.{message_of-code}
use Rattle.protocol.specs.Held.{same_nonce, same_pair, is_this}
use Rattle.protocol.specs.World.{Entry, logged, same_row, is_sent}
use Rattle.protocol.specs.Promise.{Each, same_node, is_logged, sender, takes, is_given}

-- ---- tests

pub and_l : (a b : Bool) → T (a && b) → T a
and_l true b t = tt
and_l false b t = t

pub and_r : (a b : Bool) → T (a && b) → T b
and_r true b t = t
and_r false b t = elim t [ ]

pub and_i : (a b : Bool) → T a → T b → T (a && b)
and_i true b t u = u
and_i false b t u = t

pub or_e : (a b : Bool) → T (a || b) → T a ⊎ T b
or_e true b t = inl tt
or_e false b t = inr t

pub or_l : (a b : Bool) → T a → T (a || b)
or_l true b t = tt
or_l false b t = elim t [ ]

pub or_r : (a b : Bool) → T b → T (a || b)
or_r true b t = tt
or_r false b t = t

pub is_true : (a : Bool) → T a → a ≡ true
is_true true t = refl
is_true false t = elim t [ ]

pub from_true : (a : Bool) → a ≡ true → T a
from_true a e = subst T (sym e) tt

-- a choice has what both its results have, and its first where the test holds
pub cond_case : {A : Type 0} (P : A → Type 0) (b : Bool) (x y : A) → (T b → P x) → P y → P (cond b x y)
cond_case P true x y f h = f tt
cond_case P false x y f h = h

pub cond_yes : {A : Type 0} (P : A → Type 0) (b : Bool) (x y : A) → T b → P x → P (cond b x y)
cond_yes P true x y t h = h
cond_yes P false x y t h = elim t [ ]

-- ---- equality

pub eqb← : (i j : ℕ) → i ≡ j → T (eqb i j)
eqb← i j e = subst (λ k. T (eqb i k)) e (eqb_refl i)

pub nonce→ : (x y : Nonce) → T (same_nonce x y) → x ≡ y
nonce→ x y t =
    let k = eqb→eq x.kind y.kind (and_l _ _ (and_l _ _ t)) in
    let n = eqb→eq x.node y.node (and_r (eqb x.kind y.kind) _ (and_l _ _ t)) in
    let d = eqb→eq x.index y.index (and_r (eqb x.kind y.kind && eqb x.node y.node) _ t) in
    λ i. record { kind = k i; node = n i; index = d i }

pub nonce_refl : (x : Nonce) → T (same_nonce x x)
nonce_refl x = and_i _ _ (and_i _ _ (eqb_refl x.kind) (eqb_refl x.node)) (eqb_refl x.index)

pub pair→ : (p q : Pair) → T (same_pair p q) → p ≡ q
pair→ p q t =
    let t1 = and_l _ _ t in let t2 = and_l _ _ t1 in
    let g = eqb→eq p.gate q.gate (and_l _ _ t2) in
    let s = eqb→eq p.hand q.hand (and_r (eqb p.gate q.gate) _ t2) in
    let a = nonce→ p.anonce q.anonce (and_r (eqb p.gate q.gate && eqb p.hand q.hand) _ t1) in
    let b = nonce→ p.snonce q.snonce (and_r (eqb p.gate q.gate && eqb p.hand q.hand && same_nonce p.anonce q.anonce) _ t) in
    λ i. record { gate = g i; hand = s i; anonce = a i; snonce = b i }

pub pair_refl : (p : Pair) → T (same_pair p p)
pair_refl p = and_i _ _ (and_i _ _ (and_i _ _ (eqb_refl p.gate) (eqb_refl p.hand)) (nonce_refl p.anonce)) (nonce_refl p.snonce)

pub this→ : (p : Pair) (o : Option Pair) → T (is_this p o) → o ≡ Some p
this→ p None t = elim t [ ]
this→ p (Some q) t = ap Some (sym (pair→ p q t))

pub this← : (p : Pair) (o : Option Pair) → o ≡ Some p → T (is_this p o)
this← p o e = subst (λ x. T (is_this p x)) (sym e) (pair_refl p)

pub some_inj : {A : Type 0} (x y : A) → Some x ≡ Some y → x ≡ y
some_inj x y e = cc

pub none_some : {A : Type 0} (x : A) → None ≡ Some x → ⊥
none_some x e = let z : ◌≡◌ {A = ℕ} 0 1 = cc in omega arith

pub node_refl : (n : Node) → T (same_node n n)
node_refl (Gate g) = eqb_refl g
node_refl (Hand s) = eqb_refl s

pub node→ : (m n : Node) → T (same_node m n) → m ≡ n
node→ (Gate g) (Gate h) t = ap Gate (eqb→eq g h t)
node→ (Gate g) (Hand s) t = elim t [ ]
node→ (Hand s) (Gate g) t = elim t [ ]
node→ (Hand s) (Hand t) u = ap Hand (eqb→eq s t u)

row→ : (xs ys : List ℕ) → T (same_row xs ys) → xs ≡ ys
row→ [] [] t = refl
row→ [] (y ∷ ys) t = elim t [ ]
row→ (x ∷ xs) [] t = elim t [ ]
row→ (x ∷ xs) (y ∷ ys) t =
    let e = eqb→eq x y (and_l (eqb x y) (same_row xs ys) t) in let r = row→ xs ys (and_r (eqb x y) (same_row xs ys) t) in λ i. e i ∷ r i

pub row_refl : (xs : List ℕ) → T (same_row xs xs)
row_refl [] = tt
row_refl (x ∷ xs) = and_i (eqb x x) (same_row xs xs) (eqb_refl x) (row_refl xs)

pub code→ : (m n : Message) → T (same_row (code m) (code n)) → m ≡ n
code→ m n t = sym (message_of-code m) ∙ (ap message_of (row→ (code m) (code n) t) ∙ message_of-code n)

-- ---- logs

-- the message stands in the log
abbrev pub In : Message → List Entry → Type 0
In m es = T (is_sent m es)

abbrev pub Sub : List Entry → List Entry → Type 0
Sub es fs = (m : Message) → In m es → In m fs

pub in_here : (n : Node) (m : Message) (es : List Entry) → In m (record { node = n; message = m } ∷ es)
in_here n m es = or_l (same_row (code m) (code m)) (is_sent m es) (row_refl (code m))

pub in_more : (n : Node) (k : Message) (es : List Entry) → Sub es (record { node = n; message = k } ∷ es)
in_more n k es m t = or_r (same_row (code m) (code k)) (is_sent m es) t

pub in_logged : (n : Node) (ms : List Message) (es : List Entry) → Sub es (logged n ms es)
in_logged n [] es m t = t
in_logged n (k ∷ ms) es m t = in_logged n ms (record { node = n; message = k } ∷ es) m (in_more n k es m t)

pub each_map : {A : Type 0} (P Q : A → Type 0) → ((x : A) → P x → Q x) → (xs : List A) → Each P xs → Each Q xs
each_map P Q f [] h = tt
each_map P Q f (x ∷ xs) h = (f x h.0, each_map P Q f xs h.1)

pub each_both : {A : Type 0} (P Q R : A → Type 0) → ((x : A) → P x → Q x → R x) → (xs : List A) → Each P xs → Each Q xs → Each R xs
each_both P Q R f [] h k = tt
each_both P Q R f (x ∷ xs) h k = (f x h.0 k.0, each_both P Q R f xs h.1 k.1)

pub each_app : {A : Type 0} (P : A → Type 0) (xs ys : List A) → Each P xs → Each P ys → Each P (xs ++ ys)
each_app P [] ys h k = k
each_app P (x ∷ xs) ys h k = (h.0, each_app P xs ys h.1 k)

-- what holds of every message of the log holds of one that stands in it
pub each_in : (P : Message → Type 0) (m : Message) (es : List Entry) → In m es → Each (λ (e : Entry). P e.message) es → P m
each_in P m [] t h = elim t [ ]
each_in P m (e ∷ es) t h =
    ⊎_elim (λ c. subst P (sym (code→ m e.message c)) h.0) (λ r. each_in P m es r h.1) (or_e (same_row (code m) (code e.message)) (is_sent m es) t)

pub each_logged : (P : Entry → Type 0) (n : Node) (ms : List Message) (es : List Entry) → Each (λ m. P (record { node = n; message = m })) ms → Each P es →
    Each P (logged n ms es)
each_logged P n [] es h k = k
each_logged P n (m ∷ ms) es h k = each_logged P n ms (record { node = n; message = m } ∷ es) h.1 (h.0, k)

-- what stands in the longer log is new, or stood there
pub log_split : (P : Message → Type 0) (n : Node) (ms : List Message) (es : List Entry) (m : Message) → Each P ms → In m (logged n ms es) → P m ⊎ In m es
log_split P n [] es m h t = inr t
log_split P n (k ∷ ms) es m h t =
    ⊎_elim (λ x. inl x)
    (λ u. ⊎_elim (λ c. inl (subst P (sym (code→ m k c)) h.0)) (λ r. inr r) (or_e (same_row (code m) (code k)) (is_sent m es) u))
    (log_split P n ms (record { node = n; message = k } ∷ es) m h.1 t)

-- where each message was sent by the end that it names, one that was sent stands under that end's name
pub logged_own : (m : Message) (es : List Entry) → Each (λ (e : Entry). sender e.message ≡ e.node) es → In m es → T (is_logged (sender m) m es)
logged_own m [] own t = elim t [ ]
logged_own m (e ∷ es) own t =
    ⊎_elim
    (λ c. or_l (same_node (sender m) e.node && same_row (code m) (code e.message)) (is_logged (sender m) m es)
    (and_i (same_node (sender m) e.node) (same_row (code m) (code e.message))
    (subst (λ n. T (same_node (sender m) n)) (ap sender (code→ m e.message c) ∙ own.0) (node_refl (sender m))) c))
    (λ r. or_r (same_node (sender m) e.node && same_row (code m) (code e.message)) (is_logged (sender m) m es) (logged_own m es own.1 r))
    (or_e (same_row (code m) (code e.message)) (is_sent m es) t)

-- and so does a pair that a gate gave
pub given_own : (n c : ℕ) (p : Pair) (es : List Entry) → Each (λ (e : Entry). sender e.message ≡ e.node) es → In (Take n c p) es → T (is_given (Gate p.gate) p es)
given_own n c p [] own t = elim t [ ]
given_own n c p (e ∷ es) own t =
    ⊎_elim
    (λ d. let q : Take n c p ≡ e.message = code→ (Take n c p) e.message d in
    or_l (same_node (Gate p.gate) e.node && is_this p (takes e.message)) (is_given (Gate p.gate) p es)
    (and_i (same_node (Gate p.gate) e.node) (is_this p (takes e.message))
    (subst (λ k. T (same_node (Gate p.gate) k)) (ap sender q ∙ own.0) (node_refl (Gate p.gate))) (subst (λ k. T (is_this p (takes k))) q (pair_refl p))))
    (λ r. or_r (same_node (Gate p.gate) e.node && is_this p (takes e.message)) (is_given (Gate p.gate) p es) (given_own n c p es own.1 r))
    (or_e (same_row (code (Take n c p)) (code e.message)) (is_sent (Take n c p) es) t)

-- ---- what may be there

abbrev pub Any : {A : Type 0} → (A → Type 0) → Option A → Type 0
Any P None = Unit {0}
Any P (Some x) = P x

pub any_this : {A : Type 0} (P : A → Type 0) (o : Option A) (x : A) → o ≡ Some x → Any P o → P x
any_this P o x e h = subst (λ y. Any P y) e h

pub any_map : {A : Type 0} (P Q : A → Type 0) → ((x : A) → P x → Q x) → (o : Option A) → Any P o → Any Q o
any_map P Q f None h = tt
any_map P Q f (Some x) h = f x h

-- ---- lists

-- after a change at one place: what holds of the new there, and of the old elsewhere, holds everywhere
pub put : {A : Type 0} (P : ℕ → A → Type 0) (l : List A) (i : ℕ) (x d : A) → P i x → ((j : ℕ) → P j (get_or l j d)) → (j : ℕ) → P j (get_or (set l i x) j d)
put P [] i x d h f j = f j
put P (y ∷ ys) zero x d h f zero = h
put P (y ∷ ys) zero x d h f (suc j) = f (suc j)
put P (y ∷ ys) (suc i) x d h f zero = f zero
put P (y ∷ ys) (suc i) x d h f (suc j) = put (λ k. P (suc k)) ys i x d h (λ k. f (suc k)) j

pub replicate_at : {A : Type 0} (n j : ℕ) (x : A) → get_or (replicate n x) j x ≡ x
replicate_at zero j x = refl
replicate_at (suc n) zero x = refl
replicate_at (suc n) (suc j) x = replicate_at n j x

pub replicate_in : {A : Type 0} (n j : ℕ) (x d : A) → j < n → get_or (replicate n x) j d ≡ x
replicate_in zero j x d h = absurd (omega arith)
replicate_in (suc n) zero x d h = refl
replicate_in (suc n) (suc j) x d h = replicate_in n j x d (omega arith)

-- each place holds the element or, past the end, the default
pub replicate_has : {A : Type 0} (P : A → Type 0) (n j : ℕ) (x d : A) → P x → P d → P (get_or (replicate n x) j d)
replicate_has P zero j x d h k = k
replicate_has P (suc n) zero x d h k = h
replicate_has P (suc n) (suc j) x d h k = replicate_has P n j x d h k
