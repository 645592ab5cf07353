-- The steps of reading a number.
use Rattle.std.proofs.Common.{◌≡◌, ℕ, ◌+◌, ◌-◌, ◌*◌, ◌^◌, ◌<◌, min, Bool, true, ◌&&◌, List, length, get_or, take, drop, sym, ap, ◌∙◌, arith}
use Rattle.std.specs.Str.Parse.{digits_value}
use Rattle.std.specs.Char.{is_ascii_digit, digit_value as value_of_digit}
use Rattle.std.specs.Str.{all_ascii_digits}
use Rattle.std.proofs.lemmas.Int.Digits.{digits_value_more}
use Rattle.std.proofs.lemmas.List.{at_drop_more}
use Rattle.std.proofs.lemmas.Bool.Decides.{nat_tests}

-- the first i bytes of w are digits, and n is their number
pub record Sofar (w : List ℕ) (i n : ℕ) : Type 0 where
  pub digits : all_ascii_digits (drop i w) ≡ all_ascii_digits w
  pub count : n ≡ min (digits_value 10 (take i w)) (2 ^ 64 - 1)

digit_value : (b : ℕ) → is_ascii_digit b ≡ true → value_of_digit b ≡ b - 48
digit_value b e = grind (arith, nat_tests)

module _ {w : List ℕ} {i n : ℕ} (so : Sofar w i n) where
  pub one_more : (m : ℕ) → i < length w → is_ascii_digit (get_or w i 0) ≡ true → m ≡ min (n * 10 + (get_or w i 0 - 48)) (2 ^ 64 - 1) → Sofar w (i + 1) m
  one_more m h e is = record {
    digits = ap (λ (t : Bool). t && all_ascii_digits (drop (i + 1) w)) (sym e) ∙ sym (at_drop_more all_ascii_digits w i 0 h) ∙ so.digits;
    count = omega (arith, digits_value_more 10 w i h, digit_value (get_or w i 0) e, so.count);
  }
