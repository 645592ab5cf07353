-- What is written reads back, in one way.
use Rattle.std.proofs.Common.{◌≡◌, ℕ, ◌^◌, ◌<◌, Bool, true, false, cond, not, ◌&&◌, eqb, ltb, List, [], ◌∷◌, ◌++◌, map, length, get_or, Some, None, decimal, sym, refl, ap, ◌∙◌, arith, rules}
use Rattle.std.specs.Str.{all_ascii_digits}
use Rattle.std.proofs.lemmas.Fmt.{decimal_nonempty, digits_decimal, digits_value-decimal}
use Rattle.std.proofs.lemmas.Bool.{and_parts, lt-ltb, ltb-true, not-true}
use Rattle.std.proofs.lemmas.Bool.Decides.{nat_tests}
use Rattle.script.specs.declared.command.Command.{Command}
use Rattle.script.specs.declared.command.Form.{Form}
use Rattle.script.specs.Line.{Part, Number, Word, amount, is_number, number_of, part_by, parts, words}
use Rattle.script.specs.Commands.{Begins, opening, quiet, written}
use Rattle.script.proofs.Readings.{reads_once}
use Rattle.script.proofs.Spaced.{AllWhole, Whole, own, solid, whole_number, words_spaced}
use Rattle.script.specs.Laws.{CommandsRead, NumbersRead, OneReading, Small, line_text, word_text}

pub numbers_read : NumbersRead
numbers_read n small =
    let is : is_number (decimal n) ≡ true = ap (λ (t : Bool). t && all_ascii_digits (decimal n)) (lt-ltb 0 (length (decimal n)) (decimal_nonempty n small)) ∙ digits_decimal own n small in
    let same : amount (decimal n) ≡ n = omega (arith, digits_value-decimal own n small) in
    ap (λ (t : Bool). cond t (Some (amount (decimal n))) None) is ∙ ap (λ (m : ℕ). Some m) same

same_command : (c d : Command) → written c ≡ written d → c ≡ d
same_command c d e = search rules

same_form : (f g : Form) (n m : ℕ) (ps qs : List Part) → opening f n ++ ps ≡ opening g m ++ qs → f ≡ g
same_form f g n m ps qs e = search rules

pub one_reading : OneReading
one_reading line =
    let ps : List Part = parts line in
    reads_once (λ c. ps ≡ written c) (Begins ps) (λ c d x y. same_command c d (sym x ∙ y)) (λ f g (n, qs, x) (m, rs, y). same_form f g n m qs rs (sym x ∙ y)) (quiet (words line))

loud_digits : (w : List ℕ) → all_ascii_digits w ≡ true → 0 < length w → eqb (get_or w 0 0) 35 ≡ false
loud_digits [] h some = absurd (omega arith)
loud_digits (b ∷ w) h some = grind (arith, nat_tests)

-- a part whose text is one word, which reads as the part and begins no comment
record Plain (p : Part) : Type 0 where
  whole : Whole (word_text p)
  back : part_by (word_text p) (number_of (word_text p)) ≡ p
  loud : eqb (get_or (word_text p) 0 0) 35 ≡ false

abbrev AllPlain : List Part → Type 0
AllPlain [] = Unit {0}
AllPlain (p ∷ ps) = Plain p × AllPlain ps

wholes : (ps : List Part) → AllPlain ps → AllWhole (map word_text ps)
wholes [] h = tt
wholes (p ∷ ps) (h, hs) = (h.whole, wholes ps hs)

words_line : (ps : List Part) → AllPlain ps → words (line_text ps) ≡ map word_text ps
words_line ps h = words_spaced (map word_text ps) (wholes ps h)

parts_back : (ps : List Part) → AllPlain ps → map (λ w. part_by w (number_of w)) (map word_text ps) ≡ ps
parts_back [] h = refl
parts_back (p ∷ ps) (h, hs) = cc (h.back, parts_back ps hs)

parts_line : (ps : List Part) → AllPlain ps → parts (line_text ps) ≡ ps
parts_line ps h = ap (map (λ w. part_by w (number_of w))) (words_line ps h) ∙ parts_back ps h

loud_line : (ps : List Part) → AllPlain ps → 0 < length ps → quiet (words (line_text ps)) ≡ false
loud_line [] h some = absurd (omega arith)
loud_line (p ∷ ps) (h, hs) some = ap quiet (words_line (p ∷ ps) (h, hs)) ∙ h.loud

-- the words among the parts are such
abbrev worded : List Part → Bool
worded [] = true
worded (Number n ∷ ps) = worded ps
worded (Word w ∷ ps) = (solid w && (ltb 0 (length w) && (not (is_number w) && not (eqb (get_or w 0 0) 35)))) && worded ps

plain_number : (n : ℕ) → n < 2 ^ 64 → Plain (Number n)
plain_number n small =
    record {
      whole = whole_number n small;
      back = ap (part_by (decimal n)) (numbers_read n small);
      loud = loud_digits (decimal n) (digits_decimal own n small) (decimal_nonempty n small);
    }

plain_word : (w : List ℕ) → (solid w && (ltb 0 (length w) && (not (is_number w) && not (eqb (get_or w 0 0) 35)))) ≡ true → Plain (Word w)
plain_word w h =
    let (a, h₁) = and_parts _ _ h in
    let (b, h₂) = and_parts _ _ h₁ in
    let (c, d) = and_parts _ _ h₂ in
    record {
      whole = record { dark = a; some = ltb-true 0 (length w) b };
      back = ap (λ (t : Bool). part_by w (cond t (Some (amount w)) None)) (not-true (is_number w) c);
      loud = not-true (eqb (get_or w 0 0) 35) d;
    }

plain_parts : (ps : List Part) → Small ps → worded ps ≡ true → AllPlain ps
plain_parts [] small h = tt
plain_parts (Number n ∷ ps) (one, small) h = (plain_number n one, plain_parts ps small h)
plain_parts (Word w ∷ ps) small h = let (here, on) = and_parts _ _ h in (plain_word w here, plain_parts ps small on)

worded_command : (c : Command) → (worded (written c) ≡ true) × (0 < length (written c))
worded_command c = search rules

pub commands_read : CommandsRead
commands_read c small =
    let (ok, some) = worded_command c in
    let plain = plain_parts (written c) small ok in
    (loud_line (written c) plain some, parts_line (written c) plain)
