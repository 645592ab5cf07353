-- The steps of reading and writing hex digits.
use Rattle.std.proofs.Common.{◌≡◌, ◌≢◌, ℕ, ◌+◌, ◌-◌, ◌*◌, ◌^◌, ◌/◌, ◌%◌, ◌<◌, ◌≤◌, ◌⊎◌, inl, inr, true, false, List, [], ◌∷◌, ◌++◌, length, get_or, take, drop, Some, None, Ok, Option, subst, sym, refl, ap, ◌∙◌, arith}
use Rattle.std.specs.Option.{option_map}
use Rattle.std.proofs.lemmas.List.{append_assoc, length-append, length-drop}
use Rattle.std.proofs.lemmas.Bool.{cond-true, lt-ltb}
use Rattle.std.specs.declared.fmt.Formatter.{Formatter}
use Rattle.std.specs.Char.{digit_char}
use Rattle.std.specs.Fmt.{DisplaysOnOk, HasWritten, digits, format_spec, padded_integral}
use Rattle.std.proofs.Output.{has_written_of_eq, has_written_append}
use Rattle.std.proofs.lemmas.Fmt.{hex_byte}
use Rattle.std.proofs.lemmas.List.{flat_map_more, take_more}
use Rattle.console.specs.Hex.{byte_of, hex_bytes, hex_text, in_front, message_bytes, nibble_of, of_message}

-- the bytes are read, and the digits `rest` are left
pub record Sofar (ds bytes rest : List ℕ) : Type 0 where
  pub read : hex_bytes ds ≡ option_map (λ bs. bytes ++ bs) (hex_bytes rest)
  pub small : length bytes + length rest / 2 ≤ 140
  pub even : length rest % 2 ≡ 0

map_same : (o : Option (List ℕ)) → o ≡ option_map (λ bs. [] ++ bs) o
map_same None = refl
map_same (Some bs) = refl

pub at_first : (ds : List ℕ) → length ds % 2 ≢ 1 → length ds ≤ 280 → Sofar ds [] ds
at_first ds even small = record {
  read = map_same (hex_bytes ds);
  small = omega arith;
  even = omega arith;
}

moved : (xs : List ℕ) (b : ℕ) (o : Option (List ℕ)) → option_map (λ bs. xs ++ bs) (in_front (Some b) o) ≡ option_map (λ bs. (xs ++ b ∷ []) ++ bs) o
moved xs b None = refl
moved xs b (Some bs) = ap (λ (l : List ℕ). Some l) (sym (append_assoc xs (b ∷ []) bs))

in_front-some : (o : Option ℕ) (p : Option (List ℕ)) (bs : List ℕ) → in_front o p ≡ Some bs → (b : ℕ) × (cs : List ℕ) × (p ≡ Some cs) × (bs ≡ b ∷ cs)
in_front-some None p bs is = absurd (cc)
in_front-some (Some b) None bs is = absurd (cc)
in_front-some (Some b) (Some cs) bs is = (b, cs, refl, sym (cc))

-- two digits write a byte
two_for_each : (ds bs : List ℕ) → hex_bytes ds ≡ Some bs → length ds ≡ 2 * length bs
two_for_each [] bs is = let e : [] ≡ bs = cc in rw (sym e) refl
two_for_each (x ∷ []) bs is = absurd (cc)
two_for_each (x ∷ y ∷ ds) bs is =
    let more = in_front-some (byte_of (nibble_of x) (nibble_of y)) (hex_bytes ds) bs is in
    rw (more.3) (omega (arith, two_for_each ds more.1 more.2))

-- a run of an odd length, or longer than any message, writes none
unwritten : (ds : List ℕ) (o : Option (List ℕ)) → hex_bytes ds ≡ o → (length ds % 2 ≡ 1) ⊎ (280 < length ds) → of_message o ≡ None
unwritten ds None is wrong = refl
unwritten ds (Some bs) is (inl odd) = absurd (omega (arith, two_for_each ds bs is))
unwritten ds (Some bs) is (inr long) = cond-true _ _ _ (lt-ltb 140 (length bs) (omega (arith, two_for_each ds bs is)))

pub no_message : (ds : List ℕ) → (length ds % 2 ≡ 1) ⊎ (280 < length ds) → None ≡ message_bytes ds
no_message ds wrong = sym (unwritten ds (hex_bytes ds) refl wrong)

module _ (ds bytes : List ℕ) where
  next : (rest : List ℕ) (o : Option ℕ) → 2 ≤ length rest → Sofar ds bytes rest → o ≡ byte_of (nibble_of (get_or rest 0 0)) (nibble_of (get_or rest 1 0)) →
      hex_bytes ds ≡ option_map (λ bs. bytes ++ bs) (in_front o (hex_bytes (drop 2 rest)))
  next [] o two so is = absurd (omega arith)
  next (x ∷ []) o two so is = absurd (omega arith)
  next (x ∷ y ∷ rest) o two so is = so.read ∙ ap (λ (p : Option ℕ). option_map (λ bs. bytes ++ bs) (in_front p (hex_bytes rest))) (sym is)

  pub one_byte : (rest : List ℕ) (b : ℕ) → 2 ≤ length rest → Sofar ds bytes rest → Some b ≡ byte_of (nibble_of (get_or rest 0 0)) (nibble_of (get_or rest 1 0)) → length bytes < 140 → Sofar ds (bytes ++ b ∷ []) (drop 2 rest)
  one_byte rest b two so is room = record {
    read = next rest (Some b) two so is ∙ moved bytes b (hex_bytes (drop 2 rest));
    small = omega (arith, length-append bytes (b ∷ []), length-drop 2 rest, so.small);
    even = omega (arith, length-drop 2 rest, so.even);
  }

-- ---- writing

pub two_digits : (o : Option (List ℕ)) (b : ℕ) → b < 256 → o ≡ Some (digits 16 false b) → option_map (padded_integral (format_spec 32 0 4 2 (2 ^ 64 - 1)) false []) o ≡ Some (hex_text (b ∷ []))
two_digits o b small is =
    ap (option_map (padded_integral (format_spec 32 0 4 2 (2 ^ 64 - 1)) false [])) is ∙ ap (λ (t : List ℕ). Some t) (hex_byte false b small)

-- f has come to g by the first i bytes, and g to h by the two digits of the next one
pub put_byte : {W : Type 0} (took : W → List ℕ → W → Type 0) (f g h : Formatter W) (bs : List ℕ) (i : ℕ) (o : Option (List ℕ)) → i < length bs → o ≡ Some (hex_text (get_or bs i 0 ∷ [])) →
    HasWritten took f (hex_text (take i bs)) g → DisplaysOnOk took g (Ok tt) o h → HasWritten took f (hex_text (take (i + 1) bs)) h
put_byte took f g h bs i o l two so next =
    let b : ℕ = get_or bs i 0 in
    let written = subst (λ (p : Option (List ℕ)). DisplaysOnOk took g (Ok tt) p h) two next in
    let more : hex_text (take i bs) ++ hex_text (b ∷ []) ≡ hex_text (take (i + 1) bs) = flat_map_more (λ x. digit_char (x / 16) ∷ digit_char (x % 16) ∷ []) [] (take i bs) b ∙ sym (ap hex_text (take_more bs i 0 l)) in
    has_written_of_eq took f _ _ h more (has_written_append took f _ g _ h so (written so.plain (refl {a = true})))
