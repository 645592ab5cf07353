-- An array of which the first n elements count, seen and changed at one place.
use Rattle.std.proofs.Common.{◌≡◌, ℕ, zero, suc, ◌<◌, ◌≤◌, List, [], ◌∷◌, length, get_or, take, set, replicate, sym, refl, ap, ◌∙◌, arith, length-take, get_or-take}
use lib.Seq.{take-set-lt}
use Rattle.std.proofs.lemmas.List.{get_or_default}

pub get_d_past : {A : Type 0} (xs : List A) (i : ℕ) (d : A) → length xs ≤ i → d ≡ get_or xs i d
get_d_past [] i d h = refl
get_d_past (x ∷ xs) zero d h = absurd (omega arith)
get_d_past (x ∷ xs) (suc i) d h = get_d_past xs i d (omega arith)

pub set_past : {A : Type 0} (xs : List A) (i : ℕ) (v : A) → length xs ≤ i → xs ≡ set xs i v
set_past [] i v h = refl
set_past (x ∷ xs) zero v h = absurd (omega arith)
set_past (x ∷ xs) (suc i) v h = ap (λ (ys : List _). x ∷ ys) (set_past xs i v (omega arith))

pub take_new : {A : Type 0} (n m : ℕ) (x : A) → n ≤ m → take n (replicate m x) ≡ replicate n x
take_new zero m x h = refl
take_new (suc n) zero x h = absurd (omega arith)
take_new (suc n) (suc m) x h = ap (λ (ys : List _). x ∷ ys) (take_new n m x (omega arith))

-- as many new ones as counted before
pub take_anew : {A : Type 0} (n : ℕ) (xs : List A) (x : A) → take n (replicate (length xs) x) ≡ replicate (length (take n xs)) x
take_anew zero xs x = refl
take_anew (suc n) [] x = refl
take_anew (suc n) (y ∷ xs) x = ap (λ (ys : List _). x ∷ ys) (take_anew n xs x)

module _ {A : Type 0} (n : ℕ) (xs : List A) (fits : n ≤ length xs) where
  pub counted : length (take n xs) ≡ n
  counted = simp length-take (omega arith)

  -- an element that counts, whatever the defaults
  pub seen : (i : ℕ) (d e : A) → i < n → get_or xs i d ≡ get_or (take n xs) i e
  seen i d e h = get_or_default xs i d e (omega arith) ∙ sym (get_or-take n xs i e h)

  pub unseen : (i : ℕ) (e : A) → n ≤ i → e ≡ get_or (take n xs) i e
  unseen i e h = get_d_past (take n xs) i e (let l = counted in omega arith)

  pub put : (i : ℕ) (v : A) → i < n → take n (set xs i v) ≡ set (take n xs) i v
  put i v h = take-set-lt n xs i v h

  pub not_put : (i : ℕ) (v : A) → n ≤ i → take n xs ≡ set (take n xs) i v
  not_put i v h = set_past (take n xs) i v (let l = counted in omega arith)
