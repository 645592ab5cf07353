-- What is written reads back, in one way, and what is left out is no row.
use Rattle.std.proofs.Common.{◌≡◌, ℕ, zero, suc, ◌+◌, ◌*◌, ◌/◌, ◌%◌, ◌^◌, ◌<◌, ◌≤◌, true, false, not, ◌||◌, eqb, ltb, List, [], ◌∷◌, length, get_or, Some, None, Ok, Err, codes, decimal, Option, sym, refl, ap, ◌∙◌, arith, lit≤, rules}
use Rattle.std.specs.Char.{is_ascii_hexdigit, digit_char, digit_value}
use Rattle.std.proofs.lemmas.Bool.{and_from, and_right, cond-false, ne_eqb, le-ltb}
use Rattle.std.proofs.lemmas.Bool.Decides.{nat_tests}
use Rattle.frame.specs.declared.message.Refusal.TheVariants.{NoRow}
use Rattle.octets.specs.Cutting.{cut, cut_kind}
use Rattle.octets.specs.Layout.{layout, total, widths}
use Rattle.script.specs.Line.{Number, number_of, part_by}
use Rattle.script.specs.Commands.{quiet}
use Rattle.script.proofs.Reading.{numbers_read}
use Rattle.script.proofs.Readings.{reads_once}
use Rattle.script.proofs.Spaced.{Whole, solid, whole_number, words_spaced}
use Rattle.console.specs.declared.command.Command.{Command}
use Rattle.console.specs.declared.command.Command.TheVariants as command
use Rattle.console.specs.declared.command.Form.{Form}
use Rattle.console.specs.Commands.{Begins, Says, spelling}
use Rattle.console.specs.Hex.{byte_of, hex_bytes, hex_text, in_front, message_bytes, nibble_of, of_message}
use Rattle.console.specs.Laws.{Bytes, CommandsRead, DigitsRead, LongIsNoRow, OneReading, OthersAreNoRow, written}

-- ---- digits

digit_read : (d : ℕ) → d < 16 → nibble_of (digit_char d) ≡ Some d
digit_read d h =
    let is : is_ascii_hexdigit (digit_char d) ≡ true = grind (arith, nat_tests) in
    let worth : digit_value (digit_char d) ≡ d = grind (arith, nat_tests) in
    rw (is, worth) refl

byte_read : (b : ℕ) → b < 256 → byte_of (nibble_of (digit_char (b / 16))) (nibble_of (digit_char (b % 16))) ≡ Some b
byte_read b h =
    let joined : (b / 16) * 16 + b % 16 ≡ b = omega arith in
    ap (λ (o : Option ℕ). byte_of o (nibble_of (digit_char (b % 16)))) (digit_read (b / 16) (omega arith))
    ∙ ap (λ (o : Option ℕ). byte_of (Some (b / 16)) o) (digit_read (b % 16) (omega arith)) ∙ ap (λ (n : ℕ). Some n) joined

pub digits_read : DigitsRead
digits_read [] f = refl
digits_read (b ∷ bs) f =
    ap (λ (o : Option ℕ). in_front o (hex_bytes (hex_text bs))) (byte_read b (f 0))
    ∙ ap (in_front (Some b)) (digits_read bs (λ i. f (suc i)))

-- ---- no row

-- the longest layout has 140 bytes
short : (kind : ℕ) → total (widths (layout kind)) ≤ 140
short zero = lit≤ tt
short (suc zero) = lit≤ tt
short (suc (suc zero)) = lit≤ tt
short (suc (suc (suc zero))) = lit≤ tt
short (suc (suc (suc (suc zero)))) = lit≤ tt
short (suc (suc (suc (suc (suc zero))))) = lit≤ tt
short (suc (suc (suc (suc (suc (suc zero)))))) = lit≤ tt
short (suc (suc (suc (suc (suc (suc (suc k))))))) = lit≤ tt

pub long_is_no_row : LongIsNoRow
unfolding cut
long_is_no_row bs h =
    let kind : ℕ = get_or bs 0 7 in
    let apart : eqb (length bs) (total (widths (layout kind))) ≡ false = ne_eqb _ _ (λ e. omega (arith, short kind)) in
    cond-false _ (Ok (cut_kind kind bs)) (Err NoRow) (and_right (ltb kind 7) _ apart)

left_out : (bs : List ℕ) → of_message (Some bs) ≡ None → 140 < length bs
left_out bs e = grind (arith, nat_tests)

pub others_are_no_row : OthersAreNoRow
others_are_no_row digits bs is none = long_is_no_row bs (left_out bs (sym (ap of_message is) ∙ none))

-- ---- written lines

part_read : (n : ℕ) → n < 2 ^ 64 → part_by (decimal n) (number_of (decimal n)) ≡ Number n
part_read n small = ap (part_by (decimal n)) (numbers_read n small)

dark_digit : (d : ℕ) → d < 16 → not (eqb (digit_char d) 32 || (eqb (digit_char d) 9 || eqb (digit_char d) 13)) ≡ true
dark_digit d h = grind (arith, nat_tests)

dark_hex : (bs : List ℕ) → Bytes bs → solid (hex_text bs) ≡ true
dark_hex [] f = refl
dark_hex (b ∷ bs) f =
    let small : b < 256 = f 0 in
    and_from _ _ (dark_digit (b / 16) (omega arith)) (and_from _ _ (dark_digit (b % 16) (omega arith)) (dark_hex bs (λ i. f (suc i))))

some_hex : (bs : List ℕ) → 0 < length bs → 0 < length (hex_text bs)
some_hex [] h = absurd (omega arith)
some_hex (b ∷ bs) h = omega arith

whole_hear : Whole (codes "hear")
whole_hear = record { dark = refl; some = omega arith }

whole_act : Whole (codes "act")
whole_act = record { dark = refl; some = omega arith }

few : (bs : List ℕ) → length bs ≤ 140 → of_message (Some bs) ≡ Some bs
few bs h = cond-false _ _ _ (le-ltb 140 (length bs) h)

pub commands_read : CommandsRead
commands_read (command.Hear (Some x)) (some, few_bytes, bytes) =
    let digits : Whole (hex_text x) = record { dark = dark_hex x bytes; some = some_hex x some } in
    let apart = words_spaced (written (command.Hear (Some x))) (whole_hear, (digits, tt)) in
    let back : message_bytes (hex_text x) ≡ Some x = ap of_message (digits_read x bytes) ∙ few x few_bytes in
    (refl, (hex_text x ∷ [], apart, (omega arith, back)))
commands_read (command.Hear None) small = (refl, ([], refl, (omega arith, refl)))
commands_read (command.Act act) (a, b, c) =
    let apart = words_spaced (written (command.Act act)) (whole_act, (whole_number act.kind a, (whole_number act.peer b, (whole_number act.body c, tt)))) in
    let ka = part_read act.kind a in
    let pb = part_read act.peer b in
    let bc = part_read act.body c in
    (refl, (decimal act.kind ∷ decimal act.peer ∷ decimal act.body ∷ [], apart, cc))

-- ---- one reading

same_command : (ws : List (List ℕ)) (c d : Command) → Says ws c → Says ws d → c ≡ d
same_command ws (command.Hear x) (command.Hear y) (rest, e, (k, f)) (tail, i, (l, g)) = cc
same_command ws (command.Hear x) (command.Act a) (rest, e, (k, f)) (tail, i, g) = search rules
same_command ws (command.Act a) (command.Hear y) (rest, e, f) (tail, i, (l, g)) = search rules
same_command ws (command.Act a) (command.Act b) (rest, e, f) (tail, i, g) =
    let same : command.Act (record { kind = a.kind; peer = a.peer; body = a.body }) ≡ command.Act (record { kind = b.kind; peer = b.peer; body = b.body }) = cc in same

same_form : (f g : Form) (rest tail : List (List ℕ)) → spelling f ∷ rest ≡ spelling g ∷ tail → f ≡ g
same_form f g rest tail e = search rules

pub one_reading : OneReading
one_reading ws = reads_once (Says ws) (Begins ws) (same_command ws) (λ f g (rest, x) (tail, y). same_form f g rest tail (sym x ∙ y)) (quiet ws)
