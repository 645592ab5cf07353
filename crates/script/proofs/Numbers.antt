-- The steps of reading a line that is to have just so many numbers.
use Rattle.std.proofs.Common.{◌≡◌, ℕ, zero, suc, ◌+◌, ◌-◌, ◌<◌, ◌≤◌, List, [], ◌∷◌, ◌++◌, map, length, get_or, take, drop, set, Bool, true, false, not, Some, None, Option, MatchOption, Bor, sym, refl, ap, ◌∙◌, arith}
use Rattle.std.proofs.lemmas.List.{append_assoc, append-nil, drop_at, drop-map, get_or_at, length-drop, length-map, length_push, length-set, length-take, map_push, take_all, take_more_set}
use Rattle.std.specs.Option.{is_some}
use Rattle.std.specs.Bool.{then_some}
use Rattle.script.specs.Line.{Part, Number, number_of, numbers_from, part_by, parts, words}

first_part : (line w rest : List ℕ) (o : Option ℕ) → words line ≡ w ∷ words rest → o ≡ number_of w → parts line ≡ part_by w o ∷ parts rest
first_part line w rest o e is = ap (map (λ w. part_by w (number_of w))) e ∙ ap (λ (p : Option ℕ). part_by w p ∷ parts rest) (sym is)

no_part : (line : List ℕ) → words line ≡ [] → parts line ≡ []
no_part line e = ap (map (λ w. part_by w (number_of w))) e

no_numbers : (ns : List ℕ) (ps : List Part) → 0 < length ns → ps ≡ map Number ns → ((n : ℕ) (qs : List Part) → ps ≡ Number n ∷ qs → ⊥) → ⊥
no_numbers [] ps h is never = omega arith
no_numbers (n ∷ ns) ps h is never = never n (map Number ns) is

numbers_are : (k : ℕ) (ns front all : List ℕ) → length ns ≡ k → all ≡ front ++ ns → map Number ns ≡ numbers_from (length front) k all
numbers_are zero [] front all long is = refl
numbers_are zero (n ∷ ns) front all long is = absurd (omega arith)
numbers_are (suc k) [] front all long is = absurd (omega arith)
numbers_are (suc k) (n ∷ ns) front all long is =
    let here : get_or all (length front) 0 ≡ n = ap (λ (l : List ℕ). get_or l (length front) 0) is ∙ get_or_at front n ns 0 (length front) refl in
    let far : length (front ++ n ∷ []) ≡ suc (length front) = length_push front n ∙ omega arith in
    let on : map Number ns ≡ numbers_from (suc (length front)) k all =
    numbers_are k ns (front ++ n ∷ []) all (omega arith) (is ∙ sym (append_assoc front (n ∷ []) ns)) ∙ ap (λ (i : ℕ). numbers_from i k all) far in
    cc

-- the first i of n numbers are read into `all`, and `rest` is left
pub record Sofar (n : ℕ) (line rest all : List ℕ) (i : ℕ) : Type 0 where
  pub long : length all ≡ n
  pub read : parts line ≡ map Number (take i all) ++ parts rest

module _ {n : ℕ} {line rest all : List ℕ} {i : ℕ} (so : Sofar n line rest all i) where
  left : i ≤ n → (ns : List ℕ) → parts line ≡ map Number ns → parts rest ≡ map Number (drop i ns)
  left h ns e =
      let xs : List ℕ = take i all in
      let far : length (map Number xs) ≡ i = length-map xs Number ∙ length-take i all ∙ omega (arith, so.long) in
      sym (drop_at (map Number xs) (parts rest) i far) ∙ ap (drop i) (sym so.read ∙ e) ∙ drop-map Number i ns

  counts : i ≤ n → (ns : List ℕ) → parts line ≡ map Number ns → length (parts rest) ≡ length ns - i
  counts h ns e = ap length (left h ns e) ∙ length-map (drop i ns) Number ∙ length-drop i ns

  pub too_few : i < n → ((m : ℕ) (ps : List Part) → parts rest ≡ Number m ∷ ps → ⊥) → (ns : List ℕ) → length ns ≡ n → parts line ≡ map Number ns → ⊥
  too_few h never ns long is = no_numbers (drop i ns) (parts rest) (omega (arith, length-drop i ns)) (left (omega arith) ns is) never

  pub too_many : i ≤ n → n ≤ i → (w after : List ℕ) → words rest ≡ w ∷ words after → (ns : List ℕ) → length ns ≡ n → parts line ≡ map Number ns → ⊥
  too_many h k w after e ns long is = omega (arith, counts h ns is, ap length (first_part rest w after _ e refl))

  pub one_number : i < n → (after : List ℕ) (x : ℕ) → parts rest ≡ Number x ∷ parts after → Sofar n line after (set all i x) (i + 1)
  one_number h after x e = record {
    long = length-set all i x ∙ so.long;
    read =
        so.read ∙ ap (λ (l : List Part). map Number (take i all) ++ l) e
        ∙ sym (append_assoc (map Number (take i all)) (Number x ∷ []) (parts after))
        ∙ ap (λ (l : List Part). l ++ parts after) (sym (ap (map Number) (take_more_set all i x (omega (arith, so.long))) ∙ map_push Number (take i all) x));
  }

  pub all_numbers : n ≤ i → words rest ≡ [] → parts line ≡ numbers_from 0 n all
  all_numbers h e =
      so.read ∙ ap (λ (l : List Part). map Number (take i all) ++ l) (no_part rest e) ∙ append-nil (map Number (take i all))
      ∙ ap (map Number) (take_all i all (omega (arith, so.long))) ∙ numbers_are n all [] all so.long refl

  -- there is another word, or none
  pub whole_line : i ≤ n → n ≤ i → (next : Option (Bor (List ℕ) × Bor (List ℕ))) → MatchOption next (words rest ≡ []) (λ p. (words rest ≡ p.0.now ∷ words p.1.now) × (0 < length p.0.now)) → (none : Bool) → is_some next ≡ not none →
      MatchOption (then_some none all) ((ns : List ℕ) → length ns ≡ n → parts line ≡ map Number ns → ⊥) (λ ns. parts line ≡ numbers_from 0 n ns)
  whole_line h k None e true is = all_numbers k e
  whole_line h k None e false is = absurd (cc)
  whole_line h k (Some p) e true is = absurd (cc)
  whole_line h k (Some p) e false is = too_many h k p.0.now p.1.now e.0
