-- The promises of one world are propositions: two proofs of one are the same.
use Rattle.std.proofs.Common.{◌≡◌, ℕ, Bool, true, false, T, List, [], ◌∷◌, Some, None, Option, sym, refl, subst}
use mathlib.Core.Bool.{Bool-set}
use mathlib.Core.HLevel.{Π_prop, →_prop, ×_prop, ×₃_prop, ¬_prop, hedberg}
use native.Mathlib.Nat.{ℕ_set}
use native.Mathlib.Bridge.{le_prop}
use Rattle.frame.specs.declared.message.Node.{Node}
use Rattle.frame.specs.declared.message.Node.TheVariants.{Gate, Hand}
use Rattle.frame.specs.declared.message.Nonce.{Nonce}
use Rattle.frame.specs.declared.message.Pair.{Pair}
use Rattle.protocol.specs.Held.{same_pair, is_this}
use Rattle.protocol.specs.World.{Entry, World}
use Rattle.protocol.specs.Promise.{Each, Distinct, same_node, draws_of, NamesDrawer, DrawnOnce, Seal, seals_of, NeverTwice, OwnWords, Below, Earlier, Rising, Delivered, broadcasts_to, BroadcastOnce, Agreed, OneKey, Joined, WayOn, WayOpen}
use Rattle.promise.proofs.Base.{pair→, pair_refl, this→, node→, node_refl}

-- ---- sets

-- a test that decides equality
test_set : {X : Type 0} (test : X → X → Bool) → ((x y : X) → T (test x y) → x ≡ y) → ((x : X) → T (test x x)) → IsSet X
test_set {X} test to same = hedberg (λ x y. go x y (test x y) (to x y) (λ e. subst (λ z. T (test x z)) e (same x)))
  where
    go : (x y : X) (b : Bool) → (T b → x ≡ y) → (x ≡ y → T b) → Dec (x ≡ y)
    go x y true f g = yes (f tt)
    go x y false f g = no (λ e. g e)

node_set : IsSet Node
node_set = test_set same_node node→ node_refl

pair_set : IsSet Pair
pair_set = test_set same_pair pair→ pair_refl

abbrev same_option : Option Pair → Option Pair → Bool
same_option None None = true
same_option None (Some p) = false
same_option (Some p) o = is_this p o

option→ : (o q : Option Pair) → T (same_option o q) → o ≡ q
option→ None None t = refl
option→ None (Some p) t = elim t [ ]
option→ (Some p) o t = sym (this→ p o t)

option_refl : (o : Option Pair) → T (same_option o o)
option_refl None = tt
option_refl (Some p) = pair_refl p

option_set : IsSet (Option Pair)
option_set = test_set same_option option→ option_refl

-- ---- lists

each_prop : {A : Type 0} (P : A → Type 0) → ((x : A) → IsProp (P x)) → (xs : List A) → IsProp (Each P xs)
each_prop P h [] = λ a b. refl
each_prop P h (x ∷ xs) = ×_prop (h x) (each_prop P h xs)

distinct_prop : {A : Type 0} (xs : List A) → IsProp (Distinct xs)
distinct_prop [] = λ a b. refl
distinct_prop (x ∷ xs) = ×_prop (each_prop (λ y. x ≡ y → ⊥) (λ y. ¬_prop) xs) (distinct_prop xs)

earlier_prop : (e d : Entry) → IsProp (Earlier e d)
earlier_prop e d = →_prop (each_prop (λ (s : Seal). Each (Below s) (seals_of d.message))
    (λ s. each_prop (Below s) (λ t. →_prop (→_prop le_prop)) (seals_of d.message)) (seals_of e.message))

rising_prop : (ds : List Entry) → IsProp (Rising ds)
rising_prop [] = λ a b. refl
rising_prop (d ∷ ds) = ×_prop (each_prop (λ (e : Entry). Earlier e d) (λ e. earlier_prop e d) ds) (rising_prop ds)

-- ---- the promises

module _ (w : World) where
  names_prop : (n : Node) (a : Nonce) → IsProp (NamesDrawer n a)
  names_prop (Gate g) a = ×_prop (ℕ_set _ _) (ℕ_set _ _)
  names_prop (Hand s) a = ×_prop (ℕ_set _ _) (ℕ_set _ _)

  pub drawn_prop : IsProp (DrawnOnce w)
  drawn_prop = ×_prop (distinct_prop _) (each_prop _ (λ e. each_prop (NamesDrawer e.node) (names_prop e.node) (draws_of e.message)) w.transcript)

  pub once_prop : IsProp (NeverTwice w)
  once_prop = distinct_prop _

  pub own_prop : IsProp (OwnWords w)
  own_prop = each_prop _ (λ e. node_set _ _) w.transcript

  pub delivered_prop : IsProp (Delivered w)
  delivered_prop = ×_prop (each_prop _ (λ d. ×_prop (Bool-set _ _) (Bool-set _ _)) w.deliveries) (rising_prop w.deliveries)

  pub broadcast_prop : IsProp (BroadcastOnce w)
  broadcast_prop = Π_prop (λ j. distinct_prop (broadcasts_to (Hand j) w.deliveries))

  agreed_prop : (i j : ℕ) (p : Pair) (es : List Entry) → IsProp (Agreed i j p es)
  agreed_prop i j p es u v = λ k. (
    ℕ_set _ _ u.0 v.0 k,
    ℕ_set _ _ u.1 v.1 k,
    Bool-set _ _ u.2 v.2 k,
    Bool-set _ _ u.3 v.3 k,
    Bool-set _ _ u.4 v.4 k,
  )

  pub key_prop : IsProp (OneKey w)
  key_prop = Π_prop (λ i. Π_prop (λ j. Π_prop (λ p. Π_prop (λ q. →_prop (→_prop (×₃_prop
      (→_prop (agreed_prop i j q w.transcript))
      (→_prop (×_prop (agreed_prop i j p w.transcript) (Bool-set _ _)))
      (→_prop (→_prop (×_prop le_prop (→_prop (pair_set p q)))))))))))

  joined_prop : (i j : ℕ) (p : Pair) (v : World) → IsProp (Joined i j p v)
  joined_prop i j p v = ×₃_prop (option_set _ _) (option_set _ _) (Π_prop (λ b. →_prop (×₃_prop (Bool-set _ _) (Bool-set _ _) (→_prop (Bool-set _ _)))))

  pub way_prop : IsProp (WayOn w)
  way_prop = →_prop (Π_prop (λ i. Π_prop (λ j. →_prop (→_prop (→_prop (→_prop (joined_prop i j _ _)))))))

  pub open_prop : IsProp (WayOpen w)
  open_prop = →_prop (Π_prop (λ i. Π_prop (λ j. Π_prop (λ o. →_prop (→_prop (→_prop (→_prop (×_prop (Bool-set _ _) (joined_prop i j _ _)))))))))
