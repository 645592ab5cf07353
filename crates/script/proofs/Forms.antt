-- The forms of a line are told apart by their first words.
use Rattle.std.proofs.Common.{◌≡◌, ℕ, List, [], ◌∷◌, ◌++◌, map, length, IsErrAnd, Err, codes, Result, sym, refl, ap, ◌∙◌, rules}
use Rattle.std.proofs.lemmas.Result.{err_from_is_err_and}
use Rattle.script.specs.declared.command.Command.{Command}
use Rattle.script.specs.declared.command.Command.TheVariants as command
use Rattle.script.specs.declared.command.Form.{Form}
use Rattle.script.specs.declared.command.Form.TheVariants as form
use Rattle.script.specs.declared.command.Keyword.{Keyword}
use Rattle.script.specs.declared.command.Keyword.TheVariants as keyword
use Rattle.script.specs.declared.fault.Malformed.{Malformed}
use Rattle.script.specs.declared.fault.Malformed.TheVariants.{NotACommand, Expected}
use Rattle.script.specs.Line.{Part, Number, Word}
use Rattle.script.specs.Commands.{Answered, Begins, opening, spelling, written}

-- how many numbers follow the opening
abbrev pub arity : Form → ℕ
arity form.Invite = 1
arity form.Send = 2
arity form.Broadcast = 1
arity form.Rotate = 0
arity form.Rekey = 1
arity form.ForgetGate = 0
arity form.SendUp = 2
arity form.ForgetHand = 0
arity form.Hear = 2
arity form.Begin = 5

abbrev Unlike : ℕ → List Part → Type 0
Unlike k ps = (ns : List ℕ) → length ns ≡ k → ps ≡ map Number ns → ⊥

none : (ps : List Part) → Unlike 0 ps → ps ≡ [] → ⊥
none ps never = never [] refl

one : (ps : List Part) → Unlike 1 ps → (a : ℕ) → ps ≡ Number a ∷ [] → ⊥
one ps never a = never (a ∷ []) refl

two : (ps : List Part) → Unlike 2 ps → (a b : ℕ) → ps ≡ Number a ∷ Number b ∷ [] → ⊥
two ps never a b = never (a ∷ b ∷ []) refl

five : (ps : List Part) → Unlike 5 ps → (a b c d e : ℕ) → ps ≡ Number a ∷ Number b ∷ Number c ∷ Number d ∷ Number e ∷ [] → ⊥
five ps never a b c d e = never (a ∷ b ∷ c ∷ d ∷ e ∷ []) refl

-- the search goes through the commands, and tells each other one from f by its words
no_such : (f : Form) (n : ℕ) (ps : List Part) → Unlike (arity f) ps → (c : Command) → opening f n ++ ps ≡ written c → ⊥
no_such form.Invite n ps never c e = let row = one ps never in search rules
no_such form.Send n ps never c e = let row = two ps never in search rules
no_such form.Broadcast n ps never c e = let row = one ps never in search rules
no_such form.Rotate n ps never c e = let row = none ps never in search rules
no_such form.Rekey n ps never c e = let row = one ps never in search rules
no_such form.ForgetGate n ps never c e = let row = none ps never in search rules
no_such form.SendUp n ps never c e = let row = two ps never in search rules
no_such form.ForgetHand n ps never c e = let row = none ps never in search rules
no_such form.Hear n ps never c e = let row = two ps never in search rules
no_such form.Begin n ps never c e = let row = five ps never in search rules

-- every command has a form
begins : (c : Command) → (f : Form) × Begins (written c) f
begins (command.Invite gate hand) = (form.Invite, (gate, Number hand ∷ [], refl))
begins (command.Send gate hand body) = (form.Send, (gate, Number hand ∷ Number body ∷ [], refl))
begins (command.Broadcast gate body) = (form.Broadcast, (gate, Number body ∷ [], refl))
begins (command.Rotate gate) = (form.Rotate, (gate, [], refl))
begins (command.Rekey gate hand) = (form.Rekey, (gate, Number hand ∷ [], refl))
begins (command.ForgetGate gate) = (form.ForgetGate, (gate, [], refl))
begins (command.SendUp hand gate body) = (form.SendUp, (hand, Number gate ∷ Number body ∷ [], refl))
begins (command.ForgetHand hand) = (form.ForgetHand, (hand, [], refl))
begins (command.Hear hand place) = (form.Hear, (0, Number hand ∷ Number place ∷ [], refl))
begins (command.Begin gate hand anonce) = (form.Begin, (0, Number gate ∷ Number hand ∷ Number anonce.kind ∷ Number anonce.node ∷ Number anonce.index ∷ [], refl))

-- a line that begins as none does
no_form : (ps : List Part) → ((f : Form) → Begins ps f → ⊥) → Answered ps (Err NotACommand)
no_form ps never = ((λ c e. let (f, (n, qs, is)) = begins c in never f (n, qs, e ∙ is)), never)

abbrev NoNumber : List Part → Type 0
NoNumber ps = (n : ℕ) (qs : List Part) → ps ≡ Number n ∷ qs → ⊥

abbrev NoKeyword : List Part → Type 0
NoKeyword ps = (k : Keyword) (qs : List Part) → ps ≡ Word (spelling k) ∷ qs → ⊥

-- r is that refusal
told : (ps : List Part) (r : Result Command (Malformed Form)) (e : Malformed Form) → IsErrAnd r (λ y. y ≡ e) → e ≡ NotACommand → Answered ps (Err NotACommand) → Answered ps r
told ps r e by is h = let p = err_from_is_err_and r by in rw (p.1, p.2, is) h

pub no_opening : (ps : List Part) → NoNumber ps → (r : Result Command (Malformed Form)) (e : Malformed Form) → IsErrAnd r (λ y. y ≡ e) → (e ≡ NotACommand) × NoKeyword ps → Answered ps r
no_opening ps number r e by (is, word) =
    told ps r e by is (no_form ps (λ f b.
    let hand = word keyword.Hand in
    let hears = word keyword.Hears in
    let begins = word keyword.Begins in
    search rules))

pub no_gate_verb : (n : ℕ) (ps : List Part) (r : Result Command (Malformed Form)) (e : Malformed Form) → IsErrAnd r (λ y. y ≡ e) → (e ≡ NotACommand) × NoKeyword ps → Answered (Number n ∷ ps) r
no_gate_verb n ps r e by (is, never) =
    told (Number n ∷ ps) r e by is (no_form (Number n ∷ ps) (λ f b.
    let invites = never keyword.Invites in
    let sends = never keyword.Sends in
    let all = never keyword.All in
    let turns = never keyword.Turns in
    let words = never keyword.Words in
    let forgets = never keyword.Forgets in
    search rules))

pub no_hand_verb : (n : ℕ) (ps : List Part) (r : Result Command (Malformed Form)) (e : Malformed Form) → IsErrAnd r (λ y. y ≡ e) → (e ≡ NotACommand) × NoKeyword ps → Answered (Word (codes "hand") ∷ Number n ∷ ps) r
no_hand_verb n ps r e by (is, never) =
    told (Word (codes "hand") ∷ Number n ∷ ps) r e by is (no_form (Word (codes "hand") ∷ Number n ∷ ps) (λ f b.
    let sends = never keyword.Sends in
    let forgets = never keyword.Forgets in
    search rules))

-- after the words ws come a keyword and then qs, which is not what the form goes on with
pub refuses : (ws ps qs : List Part) (k : Keyword) → ps ≡ Word (spelling k) ∷ qs → (f : Form) (n : ℕ) (verb : Keyword) → k ≡ verb → ws ++ Word (spelling verb) ∷ qs ≡ opening f n ++ qs → (r : Result Command (Malformed Form)) (e : Malformed Form) → IsErrAnd r (λ y. y ≡ e) → (e ≡ Expected f) × Unlike (arity f) qs → Answered (ws ++ ps) r
refuses ws ps qs k told f n verb is same r e by why =
    let begun : ws ++ ps ≡ opening f n ++ qs = ap (λ (l : List Part). ws ++ l) (told ∙ ap (λ (v : Keyword). Word (spelling v) ∷ qs) is) ∙ same in
    let p = err_from_is_err_and r by in
    rw (p.1, p.2, why.0) ((λ c w. no_such f n qs why.1 c (sym begun ∙ w)), (n, qs, begun))
