-- An array of which the first n elements count: a rule applied to one of them.
use Rattle.std.proofs.Common.{◌≡◌, ℕ, zero, suc, ◌<◌, ◌≤◌, Bool, true, false, cond, ◌&&◌, ltb, List, [], ◌∷◌, length, get_or, take, set, replicate, sym, refl, ap, ◌∙◌, arith, length-take, get_or-take, le-ltb, lt-ltb}
use Rattle.std.proofs.lemmas.List.{get_or_default}
use Rattle.frame.proofs.Small.{and_left, and_right}
use Rattle.protocol.specs.Rules.{Out, quiet, within}
use Rattle.endpoint.specs.declared.effect.Effect.{Effect}
use Rattle.endpoint.specs.Effects.{out_of}
use Rattle.endpoint.specs.Tables.{all_of}

-- ---- a test of every element

both : (a b : Bool) → a ≡ true → b ≡ true → (a && b) ≡ true
both a b p q = ap (λ (x : Bool). x && b) p ∙ q

module _ {A : Type 0} (test : A → Bool) where
  pub all_set : (xs : List A) (i : ℕ) (y : A) → all_of test xs ≡ true → test y ≡ true → all_of test (set xs i y) ≡ true
  unfolding all_of
  all_set [] i y h k = refl
  all_set (x ∷ xs) zero y h k = both (test y) (all_of test xs) k (and_right (test x) (all_of test xs) h)
  all_set (x ∷ xs) (suc i) y h k =
      both (test x) (all_of test (set xs i y)) (and_left (test x) (all_of test xs) h) (all_set xs i y (and_right (test x) (all_of test xs) h) k)

  pub all_at : (xs : List A) (i : ℕ) (d : A) → all_of test xs ≡ true → i < length xs → test (get_or xs i d) ≡ true
  unfolding all_of
  all_at [] i d h k = let none : ⊥ = omega arith in absurd none
  all_at (x ∷ xs) zero d h k = and_left (test x) (all_of test xs) h
  all_at (x ∷ xs) (suc i) d h k = all_at xs i d (and_right (test x) (all_of test xs) h) (omega arith)

  pub all_new : (n : ℕ) (x : A) → test x ≡ true → all_of test (replicate n x) ≡ true
  unfolding all_of
  all_new zero x h = refl
  all_new (suc n) x h = both (test x) (all_of test (replicate n x)) h (all_new n x h)

-- ---- the elements that count

module _ {A : Type 0} (n : ℕ) (xs : List A) (fits : n ≤ length xs) where
  pub counted : length (take n xs) ≡ n
  counted = simp length-take (omega arith)

  seen : (i : ℕ) (d e : A) → i < n → get_or (take n xs) i e ≡ get_or xs i d
  seen i d e h = get_or-take n xs i e h ∙ get_or_default xs i e d (omega arith)

  -- an element that counts: the rule's outcome is put back; d is any default
  pub applied : {S : Type 0} (rule : A → Out A) (put : A → S) (y : S) (i : ℕ) (d e z : A) (r : Effect) →
      i < n → out_of r z ≡ rule (get_or xs i d) → out_of r (put z) ≡ cond (ltb i (length (take n xs))) (within put (rule (get_or (take n xs) i e))) (quiet y)
  applied rule put y i d e z r h o =
      let there : ltb i (length (take n xs)) ≡ true = ap (ltb i) counted ∙ lt-ltb i n h in
      rw there (ap (within put) (o ∙ ap rule (sym (seen i d e h))))

  -- one that does not: nothing comes of it
  pub unapplied : {S : Type 0} (rule : A → Out A) (put : A → S) (y : S) (i : ℕ) (e : A) →
      n ≤ i → quiet y ≡ cond (ltb i (length (take n xs))) (within put (rule (get_or (take n xs) i e))) (quiet y)
  unapplied rule put y i e h =
      let past : ltb i (length (take n xs)) ≡ false = ap (ltb i) counted ∙ le-ltb i n h in
      rw past refl
