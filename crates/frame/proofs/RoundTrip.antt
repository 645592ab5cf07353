-- From a message to its row and back, and from a row to its message and back.
use Rattle.std.proofs.Common.{◌≡◌, ℕ, zero, suc, ◌+◌, ◌<◌, Bool, true, not, ◌&&◌, ◌||◌, eqb, ltb, List, [], ◌∷◌, length, get_or, drop, sym, refl, ap, ◌∙◌, arith, drop-cons, ltb-true, eqb-true}
use Rattle.std.proofs.lemmas.List.{at_drop_all, get_or_past}
use Rattle.frame.proofs.Small.{and_left, and_right}
use Rattle.frame.specs.declared.message.Direction.TheVariants.{Up, Down}
use Rattle.frame.specs.declared.message.Message.{Message}
use Rattle.frame.specs.declared.message.Message.TheVariants.{Begin, Reply, Take, Taken, Renew, Load, All}
use Rattle.frame.specs.Row.{code, place, lengths, flag, direction_of, is_small, has_shape, is_message, message_of}

-- ---- a message, written and read

pub message_of-code : (m : Message) → message_of (code m) ≡ m
message_of-code (Begin g h a) = refl
message_of-code (Reply p) = refl
message_of-code (Take n c p) = refl
message_of-code (Taken p) = refl
message_of-code (Renew r n c p) = refl
message_of-code (Load Up c b p) = refl
message_of-code (Load Down c b p) = refl
message_of-code (All g n c b) = refl

code-has_shape : (m : Message) → has_shape (code m) ≡ true
code-has_shape (Begin g h a) = refl
code-has_shape (Reply p) = refl
code-has_shape (Take n c p) = refl
code-has_shape (Taken p) = refl
code-has_shape (Renew r n c p) = refl
code-has_shape (Load Up c b p) = refl
code-has_shape (Load Down c b p) = refl
code-has_shape (All g n c b) = refl

and_both : (a b : Bool) → a ≡ true → b ≡ true → (a && b) ≡ true
and_both a b p q = ap (λ (x : Bool). x && b) p ∙ q

pub code-is_message : (m : Message) → is_small (code m) ≡ true → is_message (code m) ≡ true
code-is_message m small = and_both (is_small (code m)) (has_shape (code m)) small (code-has_shape m)

-- ---- a row, read and written

-- n places of a row, from the i-th on
abbrev places : ℕ → ℕ → List ℕ → List ℕ
places i zero row = []
places i (suc n) row = place row i ∷ places (suc i) n row

places_are : (n i : ℕ) (row : List ℕ) → i + n ≡ length row → places i n row ≡ drop i row
places_are zero i row e = sym (at_drop_all (λ (l : List ℕ). l) row i (omega arith))
places_are (suc n) i row e =
    ap (λ (l : List ℕ). place row i ∷ l) (places_are n (suc i) row (omega arith)) ∙ sym (drop-cons row i 0 (omega arith))

whole : (n : ℕ) (row : List ℕ) → length row ≡ n → places 0 n row ≡ row
whole n row e = places_are n 0 row (omega arith)

flag_of_direction : (n : ℕ) → n < 2 → flag (direction_of n) ≡ n
flag_of_direction zero h = refl
flag_of_direction (suc zero) h = refl
flag_of_direction (suc (suc n)) h = omega arith

module _ (row : List ℕ) (good : is_message row ≡ true) where
  shape : has_shape row ≡ true
  shape = and_right (is_small row) (has_shape row) good

  long : length row ≡ get_or lengths (place row 0) 0
  long = eqb-true _ _ (and_left (eqb (length row) (get_or lengths (place row 0) 0)) (not (eqb (place row 0) 5) || ltb (place row 1) 2) shape)

  flagged : (not (eqb (place row 0) 5) || ltb (place row 1) 2) ≡ true
  flagged = and_right (eqb (length row) (get_or lengths (place row 0) 0)) (not (eqb (place row 0) 5) || ltb (place row 1) 2) shape

  by_kind : (k : ℕ) → place row 0 ≡ k → code (message_of row) ≡ places 0 (get_or lengths k 0) row
  by_kind zero e = rw e refl
  by_kind (suc zero) e = rw e refl
  by_kind (suc (suc zero)) e = rw e refl
  by_kind (suc (suc (suc zero))) e = rw e refl
  by_kind (suc (suc (suc (suc zero)))) e = rw e refl
  by_kind (suc (suc (suc (suc (suc zero))))) e =
      let f : place row 1 < 2 = ltb-true _ _ (rw e at flagged) in
      rw (e, flag_of_direction (place row 1) f) refl
  by_kind (suc (suc (suc (suc (suc (suc zero)))))) e = rw e refl
  by_kind (suc (suc (suc (suc (suc (suc (suc k))))))) e =
      let l : length row ≡ 0 = long ∙ ap (λ (n : ℕ). get_or lengths n 0) e in
      let z : place row 0 ≡ 0 = get_or_past row 0 0 (omega arith) in
      let none : ⊥ = omega arith in absurd none

  pub code-message_of : code (message_of row) ≡ row
  code-message_of = by_kind (place row 0) refl ∙ whole (get_or lengths (place row 0) 0) row long

-- the row of a message that was read
pub row_again : (row : List ℕ) (m : Message) → is_message row ≡ true → m ≡ message_of row → code m ≡ row
row_again row m good e = ap code e ∙ code-message_of row good

-- its numbers are small
pub code-is_small : (row : List ℕ) (m : Message) → is_message row ≡ true → m ≡ message_of row → is_small (code m) ≡ true
code-is_small row m good e = ap is_small (row_again row m good e) ∙ and_left (is_small row) (has_shape row) good
