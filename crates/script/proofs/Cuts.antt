-- The steps of cutting a line into words.
use Rattle.std.proofs.Common.{◌≡◌, ℕ, zero, suc, ◌+◌, ◌<◌, ◌≤◌, Bool, true, false, cond, ◌&&◌, ◌||◌, eqb, List, [], ◌∷◌, ◌++◌, length, get_or, take, drop, Some, None, Option, MatchOption, unwrap_or, sym, refl, ap, ◌∙◌, arith, add-one}
use Rattle.std.proofs.lemmas.List.{drop_more, length-drop, at_drop_more, at_drop_all, length-take-le, take_more}
use Rattle.std.proofs.lemmas.Bool.{false≢true}
use Rattle.std.proofs.lemmas.Bool.Decides.{nat_tests}
use Rattle.script.specs.Line.{starts_blank, word_then, words_after, words}

-- a word of one byte or more
pub then_some : (w : List ℕ) (ws : List (List ℕ)) → 0 < length w → word_then w ws ≡ w ∷ ws
then_some [] ws h = absurd (omega arith)
then_some (b ∷ bs) ws h = refl

-- a blank at the byte i of the line l
pub blank_here : (l : List ℕ) (i : ℕ) → i < length l → starts_blank (drop i l) ≡ (eqb (get_or l i 0) 32 || (eqb (get_or l i 0) 9 || (eqb (get_or l i 0) 13 && eqb (i + 1) (length l))))
blank_here l i h =
    let last : eqb (length (drop (i + 1) l)) 0 ≡ eqb (i + 1) (length l) = grind (arith, nat_tests, length-drop (i + 1) l) in
    at_drop_more starts_blank l i 0 h ∙ ap (λ (t : Bool). eqb (get_or l i 0) 32 || (eqb (get_or l i 0) 9 || (eqb (get_or l i 0) 13 && t))) last

abbrev pub IsBlankAt : List ℕ → ℕ → Type 0
IsBlankAt l k = starts_blank (drop k l) ≡ true

abbrev pub IsDarkAt : List ℕ → ℕ → Type 0
IsDarkAt l k = starts_blank (drop k l) ≡ false

-- where the first blank stands, if there is one
abbrev pub Ends : List ℕ → Option ℕ → Type 0
Ends l o = MatchOption o ((k : ℕ) → 0 ≤ k → k < length l → IsDarkAt l k) (λ i. (0 ≤ i) × (i < length l) × IsBlankAt l i × ((k : ℕ) → 0 ≤ k → k < i → IsDarkAt l k))

module _ (l : List ℕ) where
  step : (w : List ℕ) (t : _) (i : ℕ) → i < length l → starts_blank (drop i l) ≡ t → words_after w (drop i l) ≡ cond t (word_then w (words (drop (i + 1) l))) (words_after (w ++ get_or l i 0 ∷ []) (drop (i + 1) l))
  step w t i h e =
      let here : starts_blank (get_or l i 0 ∷ drop (i + 1) l) ≡ t = ap starts_blank (sym (drop_more l i 0 h)) ∙ e in
      at_drop_more (words_after w) l i 0 h ∙ rw here refl

  -- none of the first k bytes is a blank
  grow : (k : ℕ) → k ≤ length l → ((j : ℕ) → 0 ≤ j → j < k → IsDarkAt l j) → words_after (take k l) (drop k l) ≡ words l
  grow zero h dark = refl
  grow (suc k) h dark =
      let on : words_after (take (k + 1) l) (drop (k + 1) l) ≡ words l =
      ap (λ (w : List ℕ). words_after w (drop (k + 1) l)) (take_more l k 0 (omega arith))
      ∙ sym (step (take k l) false k (omega arith) (dark k (omega arith) (omega arith))) ∙ grow k (omega arith) (λ j f b. dark j f (omega arith)) in
      rw (← add-one k) on

  module _ (some : 0 < length l) (dark : starts_blank l ≡ false) where
    word_to : (e : ℕ) → 0 < e → e ≤ length l → ((k : ℕ) → 0 ≤ k → k < e → IsDarkAt l k) → words_after (take e l) (drop e l) ≡ word_then (take e l) (words (drop e l)) → (words l ≡ take e l ∷ words (drop e l)) × (0 < length (take e l))
    word_to e pos h word cut =
        let long : 0 < length (take e l) = omega (arith, length-take-le e l h) in
        (sym (grow e h word) ∙ cut ∙ then_some (take e l) (words (drop e l)) long, long)

    -- the word ends with the line, or before a blank
    pub one_word : (o : Option ℕ) → Ends l o → (words l ≡ take (unwrap_or o (length l)) l ∷ words (drop (unwrap_or o (length l)) l)) × (0 < length (take (unwrap_or o (length l)) l))
    one_word None word =
        let w : List ℕ = take (length l) l in
        word_to (length l) some (omega arith) word (at_drop_all (words_after w) l (length l) (omega arith) ∙ sym (at_drop_all (λ r. word_then w (words r)) l (length l) (omega arith)))
    one_word (Some i) (f, b, blank, word) =
        let w : List ℕ = take i l in
        let past : 0 ≡ i → ⊥ = λ e. false≢true (sym dark ∙ ap (λ (k : ℕ). starts_blank (drop k l)) e ∙ blank) in
        word_to i (omega arith) (omega arith) word (step w true i b blank ∙ ap (word_then w) (sym (step [] true i b blank)))
