-- Tests, lists, and what comes of a rule that changes nothing.
use Rattle.std.proofs.Common.{◌≡◌, ℕ, zero, suc, ◌≤◌, Bool, true, false, cond, not, ◌&&◌, ◌||◌, T, ltb, List, [], ◌∷◌, map, length, get_or, set, Some, None, Option, refl, ap, ◌∙◌, arith}
use Rattle.frame.specs.declared.message.Refusal.{Refusal}
use Rattle.protocol.specs.declared.held.GatePeer.{GatePeer}
use Rattle.protocol.specs.declared.held.HandPeer.{HandPeer}
use Rattle.protocol.specs.Held.{new_gate_peer, HandState, new_hand_peer, GateState}
use Rattle.protocol.specs.Rules.{Out, quiet, gate_peer, hand_at, hand_peer, gate_at}
use Rattle.protocol.specs.Calls.{verdict, unless}
use Rattle.protocol.specs.Promise.{Each}
use Rattle.promise.proofs.Base.{cond_case}

-- ---- tests

pub cond_true : {A : Type 0} (b : Bool) (x y : A) → T b → cond b x y ≡ x
cond_true true x y t = refl
cond_true false x y t = elim t [ ]

pub cond_false : {A : Type 0} (b : Bool) (x y : A) → b ≡ false → cond b x y ≡ y
cond_false true x y e = let none : ◌≡◌ {A = ℕ} 0 1 = cc in absurd (omega arith)
cond_false false x y e = refl

pub and_false : (a b : Bool) → a ≡ false → (a && b) ≡ false
and_false true b e = let none : ◌≡◌ {A = ℕ} 0 1 = cc in absurd (omega arith)
and_false false b e = refl

-- ---- lists

pub set_same : {A : Type 0} (l : List A) (i : ℕ) (d : A) → set l i (get_or l i d) ≡ l
set_same [] i d = refl
set_same (x ∷ xs) zero d = refl
set_same (x ∷ xs) (suc i) d = ap (λ l. x ∷ l) (set_same xs i d)

pub set_past : {A : Type 0} (l : List A) (i : ℕ) (x : A) → length l ≤ i → set l i x ≡ l
set_past [] i x h = refl
set_past (y ∷ ys) zero x h = absurd (omega arith)
set_past (y ∷ ys) (suc i) x h = ap (λ l. y ∷ l) (set_past ys i x (omega arith))

-- two lists side by side: what holds of the new at one place, and of the old elsewhere, holds everywhere
pub put2 : {A B : Type 0} (R : ℕ → A → B → Type 0) (l : List A) (k : List B) (i : ℕ) (x d : A) (z e : B) → length k ≡ length l → R i x z →
    ((j : ℕ) → R j (get_or l j d) (get_or k j e)) → (j : ℕ) → R j (get_or (set l i x) j d) (get_or (set k i z) j e)
put2 R [] [] i x d z e q h f j = f j
put2 R [] (b ∷ bs) i x d z e q h f j = absurd (omega arith)
put2 R (a ∷ xs) [] i x d z e q h f j = absurd (omega arith)
put2 R (a ∷ xs) (b ∷ bs) zero x d z e q h f zero = h
put2 R (a ∷ xs) (b ∷ bs) zero x d z e q h f (suc j) = f (suc j)
put2 R (a ∷ xs) (b ∷ bs) (suc i) x d z e q h f zero = f zero
put2 R (a ∷ xs) (b ∷ bs) (suc i) x d z e q h f (suc j) =
    let r : length bs ≡ length xs = omega arith in put2 (λ n. R (suc n)) xs bs i x d z e r h (λ n. f (suc n)) j

pub each_mapped : {A B : Type 0} (P : B → Type 0) (f : A → B) (xs : List A) → Each (λ x. P (f x)) xs → Each P (map f xs)
each_mapped P f [] h = tt
each_mapped P f (x ∷ xs) h = (h.0, each_mapped P f xs h.1)

-- ---- a rule that changes nothing of one element changes nothing of the end

pub hand_stays : (y : HandState) (g : ℕ) (rule : GatePeer → Out GatePeer) → rule (gate_peer g y) ≡ quiet (gate_peer g y) → hand_at y.draws g rule y ≡ quiet y
hand_stays y g rule e =
    cond_case (λ o. o ≡ quiet y) (ltb g (length y.peers)) _ (quiet y)
    (λ _. let back = set_same y.peers g new_gate_peer in
    (λ i. record { held = record { draws = y.draws; peers = set y.peers g (e i).held }; says = (e i).says; delivers = (e i).delivers })
    ∙ (λ i. quiet (record { draws = y.draws; peers = back i }))) refl

pub gate_stays : (y : GateState) (h : ℕ) (rule : HandPeer → Out HandPeer) → rule (hand_peer h y) ≡ quiet (hand_peer h y) → gate_at y.draws h rule y ≡ quiet y
gate_stays y h rule e =
    cond_case (λ o. o ≡ quiet y) (ltb h (length y.peers)) _ (quiet y)
    (λ _. let back = set_same y.peers h new_hand_peer in
    (λ i. record { held = record { draws = y.draws; group = y.group; counter = y.counter; peers = set y.peers h (e i).held }; says = (e i).says; delivers = (e i).delivers })
    ∙ (λ i. quiet (record { draws = y.draws; group = y.group; counter = y.counter; peers = back i }))) refl

pub unless_quiet : {A : Type 0} (v : Option Refusal) (y : A) (o : Out A) → o ≡ quiet y → unless v y o ≡ quiet y
unless_quiet None y o e = e
unless_quiet (Some r) y o e = refl

-- a wrong tag, of a message that has one
pub unless_wrong : {A : Type 0} (m o t : Bool) (y : A) (z : Out A) → t ≡ true → unless (verdict m o (false || not t)) y z ≡ quiet y
unless_wrong true true true y z e = refl
unless_wrong true false true y z e = refl
unless_wrong false o true y z e = refl
unless_wrong m o false y z e = let none : ◌≡◌ {A = ℕ} 0 1 = cc in absurd (omega arith)
