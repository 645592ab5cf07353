-- One more line comes, and is played.
use Rattle.std.proofs.Common.{◌≡◌, ℕ, ◌+◌, List, [], ◌∷◌, ◌++◌, map, length, Some, Ok, Option, Result, refl, sym, subst, arith, length-append}
use Rattle.std.specs.Iterator.{Yields}
use Rattle.std.proofs.lemmas.List.{length-map, map_push}
use Rattle.console.specs.declared.answer.Answer.{Answer as Printed}
use Rattle.terminal.specs.Lines.{PlaysAll}

yields_more : {S I : Type 0} (gives : S → Option I → S → Type 0) (s : S) (is : List I) (t : S) → Yields gives s is t → (i : I) (u : S) → gives t (Some i) u → Yields gives s (is ++ i ∷ []) u
yields_more gives s [] t came i u next = (u, subst (λ r. gives r (Some i) u) (sym came) next, refl)
yields_more gives s (k ∷ is) t (r, first, came) i u next = (r, first, yields_more gives r is t came i u next)

module _ {A K : Type 0} (plays : ℕ → List ℕ → A → K → Printed → A → K → Type 0) where
  then : (n : ℕ) (ls : List (List ℕ)) (y : A) (ks : K) (z : A) (js : K) → PlaysAll plays n ls y ks z js → (m : ℕ) → m ≡ n + length ls → (l : List ℕ) (a : Printed) (x : A) (hs : K) → plays m l z js a x hs → PlaysAll plays n (ls ++ l ∷ []) y ks x hs
  then n [] y ks z js (same, keys) m at l a x hs next =
      let here : m ≡ n = omega arith in
      (a, x, hs, subst (λ (k : ℕ). plays k l y ks a x hs) here (subst (λ (w : A). plays m l w ks a x hs) same (subst (λ (w : K). plays m l z w a x hs) keys next)), (refl, refl))
  then n (k ∷ ls) y ks z js (b, w, gs, first, rest) m at l a x hs next = (b, w, gs, first, then (n + 1) ls w gs z js rest m (omega arith) l a x hs next)

-- so many lines have come, which left the source at `to`, and all are played
pub record Played {S X E A K : Type 0} (gives : S → Option (Result X E) → S → Type 0) (text : X → List ℕ) (plays : ℕ → List ℕ → A → K → Printed → A → K → Type 0) (from : S) (y : A) (ks : K) (count : ℕ) (to : S) (z : A) (js : K) : Type 0 where
  pub read : List X
  pub counted : length read ≡ count
  pub came : Yields gives from (map (λ line. Ok line) read) to
  pub all : PlaysAll plays 1 (map text read) y ks z js

pub none_played : {S X E A K : Type 0} (gives : S → Option (Result X E) → S → Type 0) (text : X → List ℕ) (plays : ℕ → List ℕ → A → K → Printed → A → K → Type 0) (from to : S) (y : A) (ks : K) (count : ℕ) → from ≡ to → 0 ≡ count → Played gives text plays from y ks count to y ks
none_played gives text plays from to y ks count same none = record { read = []; counted = none; came = same; all = (refl, refl) }

-- the line numbered n + 1 is played on what w and i say, which has stayed as it was
pub next_line : {S X E A K W I : Type 0} (gives : S → Option (Result X E) → S → Type 0) (text : X → List ℕ) (plays : W → I → ℕ → List ℕ → A → K → Printed → A → K → Type 0) (w v : W) (i j : I) (from : S) (y : A) (ks : K) (count n : ℕ) (to : S) (z : A) (js : K) →
    Played gives text (plays w i) from y ks count to z js → v ≡ w → j ≡ i → n ≡ count → (l : X) (u : S) → gives to (Some (Ok l)) u → (a : Printed) (x : A) (hs : K) → plays v j (n + 1) (text l) z js a x hs → Played gives text (plays w i) from y ks (count + 1) u x hs
next_line gives text plays w v i j from y ks count n to z js so same at number l u given a x hs next =
    let here = subst (λ m. plays w i (m + 1) (text l) z js a x hs) number (subst (λ k. plays w k (n + 1) (text l) z js a x hs) at (subst (λ o. plays o j (n + 1) (text l) z js a x hs) same next)) in
    record {
      read = so.read ++ l ∷ [];
      counted = omega (arith, length-append so.read (l ∷ []), so.counted);
      came = rw map_push (yields_more gives from (map (λ line. Ok line) so.read) to so.came (Ok l) u given);
      all = rw map_push (then (plays w i) 1 (map text so.read) y ks z js so.all (count + 1) (omega (arith, length-map so.read text, so.counted)) (text l) a x hs here);
    }
