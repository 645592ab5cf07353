-- A step of the code as an event of the world.
use Rattle.std.proofs.Common.{◌≡◌, ℕ, zero, suc, ◌-◌, ◌<◌, ◌≤◌, min, Bool, true, false, cond, not, ◌&&◌, T, eqb, ltb, List, [], ◌∷◌, map, reverse, length, get_or, set, sym, refl, ap, ◌∙◌, subst, arith, le-ltb, lt-ltb}
use Rattle.std.proofs.lemmas.List.{get_or-map, reverse-reverse, get_or-reverse}
use Rattle.frame.specs.declared.message.Node.{Node}
use Rattle.frame.specs.declared.message.Node.TheVariants.{Gate, Hand}
use Rattle.frame.specs.declared.message.Nonce.{Nonce}
use Rattle.frame.specs.declared.message.Message.{Message}
use Rattle.frame.specs.declared.message.Message.TheVariants.{Begin, Reply, Take, Taken, Renew, Load, All}
use Rattle.frame.specs.Row.{code, is_message, message_of}
use Rattle.protocol.specs.declared.acts.HandAct.{HandAct}
use Rattle.protocol.specs.declared.acts.GateAct.{GateAct}
use Rattle.protocol.specs.Held.{HandState, GateState}
use Rattle.protocol.specs.Rules.{Out, quiet, hand_hears, hand_acts, gate_acts}
use Rattle.protocol.specs.Calls.{is_tagged, verdict, unless, hand_may, gate_may, hand_does, gate_does, hand_verdict, hand_hears_row, gate_hears_row}
use Rattle.protocol.specs.World.{Entry, World, gate, hand, put_gate, put_hand, heard_by, is_sent, may_be_heard, hearer, GateActs, HandActs, Hears, happens}
use Rattle.promise.proofs.Base.{In, in_here, in_more}
use Rattle.simulator.specs.declared.log.Line.{Line}
use Rattle.simulator.specs.Model.{entry_of}
use Rattle.simulator.specs.Play.{no_entry, is_there, is_from_here, is_absent}

cond_idle : {A : Type 0} (b : Bool) (x y : A) → x ≡ y → cond b x y ≡ y
cond_idle true x y e = e
cond_idle false x y e = refl

not_both : (a b : Bool) → b ≡ false → not (a && b) ≡ true
not_both true b e = ap not e
not_both false b e = refl

set_back : {A : Type 0} (xs : List A) (i : ℕ) (d : A) → set xs i (get_or xs i d) ≡ xs
set_back [] i d = refl
set_back (x ∷ xs) zero d = refl
set_back {A = A} (x ∷ xs) (suc i) d = ap (λ (ys : List A). x ∷ ys) (set_back xs i d)

module _ (w : World) where
  gate_idle : (g : ℕ) (o : Out GateState) → o ≡ quiet (gate g w) → put_gate g o w ≡ w
  gate_idle g o e =
      ap (λ (x : Out GateState). put_gate g x w) e
      ∙ ap (λ (gs : List GateState). record { gates = gs; hands = w.hands; transcript = w.transcript; deliveries = w.deliveries }) (set_back w.gates g _)

  hand_idle : (h : ℕ) (o : Out HandState) → o ≡ quiet (hand h w) → put_hand h o w ≡ w
  hand_idle h o e =
      ap (λ (x : Out HandState). put_hand h x w) e
      ∙ ap (λ (hs : List HandState). record { gates = w.gates; hands = hs; transcript = w.transcript; deliveries = w.deliveries }) (set_back w.hands h _)

  -- ---- acts

  module _ (g : ℕ) (a : GateAct) where
    pub gate_acts_lem : (v : World) (n : ℕ) → g < length w.gates → n ≡ length w.hands → gate_may n a ≡ true →
        v ≡ put_gate g (gate_does g n a (gate g w)) w → (is_absent (GateActs g a) w ≡ false) × (v ≡ happens (GateActs g a) w)
    gate_acts_lem v n lt e may p = (
      (λ i. not (lt-ltb g (length w.gates) lt i && gate_may (sym e i) a)) ∙ ap not may,
      p ∙ (λ i. put_gate g (gate_does g (e i) a (gate g w)) w)
          ∙ sym (ap (λ (t : Bool). cond t (put_gate g (gate_does g (length w.hands) a (gate g w)) w) w) (lt-ltb g (length w.gates) lt)),
    )

    pub no_gate_acts : length w.gates ≤ g → (is_absent (GateActs g a) w ≡ true) × (happens (GateActs g a) w ≡ w)
    no_gate_acts le = (
      ap (λ (t : Bool). not (t && gate_may (length w.hands) a)) (le-ltb g (length w.gates) le),
      ap (λ (t : Bool). cond t (put_gate g (gate_does g (length w.hands) a (gate g w)) w) w) (le-ltb g (length w.gates) le),
    )

    gate_does_nothing : (n : ℕ) → gate_may n a ≡ false → (y : GateState) → gate_does g n a y ≡ quiet y
    unfolding gate_does
    gate_does_nothing n may y = ap (λ (t : Bool). cond t (gate_acts g a y) (quiet y)) may

    pub gate_may_not : (n : ℕ) → n ≡ length w.hands → gate_may n a ≡ false → (is_absent (GateActs g a) w ≡ true) × (happens (GateActs g a) w ≡ w)
    gate_may_not n e may =
        let barred = ap (λ (k : ℕ). gate_may k a) (sym e) ∙ may in (
          not_both (ltb g (length w.gates)) (gate_may (length w.hands) a) barred,
          cond_idle (ltb g (length w.gates)) _ w (gate_idle g (gate_does g (length w.hands) a (gate g w)) (gate_does_nothing (length w.hands) barred (gate g w))),
        )

  module _ (h : ℕ) (a : HandAct) where
    pub hand_acts_lem : (v : World) (n : ℕ) → h < length w.hands → n ≡ length w.gates → hand_may n a ≡ true →
        v ≡ put_hand h (hand_does n a (hand h w)) w → (is_absent (HandActs h a) w ≡ false) × (v ≡ happens (HandActs h a) w)
    hand_acts_lem v n lt e may p = (
      (λ i. not (lt-ltb h (length w.hands) lt i && hand_may (sym e i) a)) ∙ ap not may,
      p ∙ (λ i. put_hand h (hand_does (e i) a (hand h w)) w)
          ∙ sym (ap (λ (t : Bool). cond t (put_hand h (hand_does (length w.gates) a (hand h w)) w) w) (lt-ltb h (length w.hands) lt)),
    )

    pub no_hand_acts : length w.hands ≤ h → (is_absent (HandActs h a) w ≡ true) × (happens (HandActs h a) w ≡ w)
    no_hand_acts le = (
      ap (λ (t : Bool). not (t && hand_may (length w.gates) a)) (le-ltb h (length w.hands) le),
      ap (λ (t : Bool). cond t (put_hand h (hand_does (length w.gates) a (hand h w)) w) w) (le-ltb h (length w.hands) le),
    )

    hand_does_nothing : (n : ℕ) → hand_may n a ≡ false → (y : HandState) → hand_does n a y ≡ quiet y
    unfolding hand_does
    hand_does_nothing n may y = ap (λ (t : Bool). cond t (hand_acts a y) (quiet y)) may

    pub hand_may_not : (n : ℕ) → n ≡ length w.gates → hand_may n a ≡ false → (is_absent (HandActs h a) w ≡ true) × (happens (HandActs h a) w ≡ w)
    hand_may_not n e may =
        let barred = ap (λ (k : ℕ). hand_may k a) (sym e) ∙ may in (
          not_both (ltb h (length w.hands)) (hand_may (length w.gates) a) barred,
          cond_idle (ltb h (length w.hands)) _ w (hand_idle h (hand_does (length w.gates) a (hand h w)) (hand_does_nothing (length w.gates) barred (hand h w))),
        )

  -- ---- a row is heard

  module _ (s : ℕ) (m : Message) where
    pub gate_hears_lem : (v : World) (g n : ℕ) → may_be_heard m w.transcript ≡ true → is_from_here m w ≡ true → hearer s m ≡ Gate g → g < length w.gates → n ≡ length w.hands →
        v ≡ put_gate g (gate_hears_row g n (code m) true (gate g w)) w → (is_absent (Hears s m) w ≡ false) × (v ≡ happens (Hears s m) w)
    gate_hears_lem v g n may from is lt e p =
        let there = lt-ltb g (length w.gates) lt in (
          (λ i. not (from i && is_there (is i) w)) ∙ ap not there,
          p ∙ (λ i. put_gate g (gate_hears_row g (e i) (code m) true (gate g w)) w)
              ∙ sym (ap (λ (t : Bool). cond t (heard_by (hearer s m) (code m) w) w) may ∙ ap (λ (k : Node). heard_by k (code m) w) is
              ∙ ap (λ (t : Bool). cond t (put_gate g (gate_hears_row g (length w.hands) (code m) true (gate g w)) w) w) there),
        )

    pub hand_hears_lem : (v : World) (h n : ℕ) → may_be_heard m w.transcript ≡ true → is_from_here m w ≡ true → hearer s m ≡ Hand h → h < length w.hands → n ≡ length w.gates →
        v ≡ put_hand h (hand_hears_row n h (code m) true (hand h w)) w → (is_absent (Hears s m) w ≡ false) × (v ≡ happens (Hears s m) w)
    hand_hears_lem v h n may from is lt e p =
        let there = lt-ltb h (length w.hands) lt in (
          (λ i. not (from i && is_there (is i) w)) ∙ ap not there,
          p ∙ (λ i. put_hand h (hand_hears_row (e i) h (code m) true (hand h w)) w)
              ∙ sym (ap (λ (t : Bool). cond t (heard_by (hearer s m) (code m) w) w) may ∙ ap (λ (k : Node). heard_by k (code m) w) is
              ∙ ap (λ (t : Bool). cond t (put_hand h (hand_hears_row (length w.gates) h (code m) true (hand h w)) w) w) there),
        )

    pub no_gate_hears : (g : ℕ) → hearer s m ≡ Gate g → length w.gates ≤ g → (is_absent (Hears s m) w ≡ true) × (happens (Hears s m) w ≡ w)
    no_gate_hears g is le =
        let gone = le-ltb g (length w.gates) le in (
          not_both (is_from_here m w) (is_there (hearer s m) w) (ap (λ (k : Node). is_there k w) is ∙ gone),
          cond_idle (may_be_heard m w.transcript) (heard_by (hearer s m) (code m) w) w (ap (λ (k : Node). heard_by k (code m) w) is
              ∙ ap (λ (t : Bool). cond t (put_gate g (gate_hears_row g (length w.hands) (code m) true (gate g w)) w) w) gone),
        )

    pub no_hand_hears : (h : ℕ) → hearer s m ≡ Hand h → length w.hands ≤ h → (is_absent (Hears s m) w ≡ true) × (happens (Hears s m) w ≡ w)
    no_hand_hears h is le =
        let gone = le-ltb h (length w.hands) le in (
          not_both (is_from_here m w) (is_there (hearer s m) w) (ap (λ (k : Node). is_there k w) is ∙ gone),
          cond_idle (may_be_heard m w.transcript) (heard_by (hearer s m) (code m) w) w (ap (λ (k : Node). heard_by k (code m) w) is
              ∙ ap (λ (t : Bool). cond t (put_hand h (hand_hears_row (length w.gates) h (code m) true (hand h w)) w) w) gone),
        )

  -- a begin as from a gate that is not there is refused
  refused : (message tag : Bool) (y : HandState) (o : Out HandState) → unless (verdict message false tag) y o ≡ quiet y
  refused true tag y o = refl
  refused false tag y o = refl

  not_below : (g n k : ℕ) → ltb g n ≡ false → ltb g (min n k) ≡ false
  not_below g n k e = grind arith

  foreign_begin : (g h n : ℕ) (a : Nonce) (y : HandState) → ltb g n ≡ false → hand_hears_row n h (code (Begin g h a)) true y ≡ quiet y
  unfolding hand_hears_row hand_verdict
  foreign_begin g h n a y e =
      let row = code (Begin g h a) in
      ap (λ (t : Bool). unless (verdict (is_message row) (t && eqb h h) true) y (hand_hears h (message_of row) y)) (not_below g n (length y.peers) e)
      ∙ refused (is_message row) true y (hand_hears h (message_of row) y)

  pub from_nowhere : (s : ℕ) (m : Message) → is_from_here m w ≡ false → (is_absent (Hears s m) w ≡ true) × (happens (Hears s m) w ≡ w)
  from_nowhere s (Begin g h a) e = (
    ap (λ (t : Bool). not (t && ltb h (length w.hands))) e,
    cond_idle (ltb h (length w.hands)) _ w (hand_idle h (hand_hears_row (length w.gates) h (code (Begin g h a)) true (hand h w)) (foreign_begin g h (length w.gates) a (hand h w) e)),
  )
  from_nowhere s (Reply p) e = grind arith
  from_nowhere s (Take n c p) e = grind arith
  from_nowhere s (Taken p) e = grind arith
  from_nowhere s (Renew r n c p) e = grind arith
  from_nowhere s (Load d c b p) e = grind arith
  from_nowhere s (All g n c b) e = grind arith

-- ---- the n-th message that was sent

pub nth_sent : (xs : List Line) (n : ℕ) (l : Line) → n < length xs → l ≡ get_or xs n l → get_or (reverse (reverse (map entry_of xs))) n no_entry ≡ entry_of l
nth_sent xs n l lt e =
    ap (λ (es : List Entry). get_or es n no_entry) (reverse-reverse (map entry_of xs)) ∙ get_or-map entry_of xs n l no_entry lt ∙ ap entry_of (sym e)

in_at : (es : List Entry) (i : ℕ) (d : Entry) → i < length es → In (get_or es i d).message es
in_at [] i d h = absurd (omega arith)
in_at (e ∷ es) zero d h = in_here e.node e.message es
in_at (e ∷ es) (suc i) d h = in_more e.node e.message es (get_or es i d).message (in_at es i d (omega arith))

sent_may : (m : Message) (es : List Entry) → In m es → may_be_heard m es ≡ true
sent_may m es t = go (is_tagged m) (is_sent m es) t
  where
    go : (b c : Bool) → T c → cond b c true ≡ true
    go true true t = refl
    go true false t = elim t [ ]
    go false c t = refl

pub may_again : (es : List Entry) (n : ℕ) (m : Message) → n < length es → m ≡ (get_or (reverse es) n no_entry).message → may_be_heard m es ≡ true
may_again es n m lt is =
    sent_may m es
    (subst (λ (x : Message). In x es) (ap (λ (x : Entry). x.message) (sym (get_or-reverse es n no_entry lt)) ∙ sym is) (in_at es (length es - 1 - n) no_entry (omega arith)))
