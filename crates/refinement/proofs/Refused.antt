-- Refused bytes change nothing.
use Rattle.std.proofs.Common.{◌≡◌, ℕ, min, Bool, true, false, cond, List, length, set, Some, None, Ok, Err, Option, Result, sym, refl, ap, ◌∙◌}
use Rattle.frame.specs.declared.message.Message.{Message}
use Rattle.frame.specs.declared.message.Message.TheVariants.{Begin, Reply, Take, Taken, Renew, Load, All}
use Rattle.frame.specs.declared.message.Refusal.{Refusal}
use Rattle.frame.specs.Row.{code, is_message, message_of}
use Rattle.frame.proofs.RoundTrip.{code-message_of}
use Rattle.octets.specs.declared.parts.Cut.{Cut}
use Rattle.octets.specs.Cutting.{cut}
use Rattle.octets.specs.Laws.{row_of, with_body}
use Rattle.protocol.specs.Held.{HandState, GateState}
use Rattle.protocol.specs.Rules.{Out}
use Rattle.protocol.specs.Calls.{is_for_hand, is_for_gate, verdict, unless, hand_verdict, gate_verdict, hand_hears_row, gate_hears_row}
use Rattle.promise.proofs.Base.{none_some, some_inj}
use Rattle.sealing.specs.Secrets.{Secrets}
use Rattle.sealing.specs.Seal.{Sealed, opened_body}
use Rattle.sealing.specs.declared.keys.PairKeys.{PairKeys}
use Rattle.link.specs.declared.keys.GateKeys.{GateKeys}
use Rattle.link.specs.declared.keys.TagKey.{TagKey}
use Rattle.link.specs.declared.keys.TagKey.TheVariants.{Missing, Mismatch, Key}
use Rattle.link.specs.Keys.{Reception, refused, nothing, received, Heard, unopened, tag_right, opened_with, group_with, can_draw}
use Rattle.link.specs.Hands.{gate_keys, with_offered_keys, begun_keys, hand_tag_key, hand_keys_after, hand_by_row, hand_tagged, hand_message, hand_row, hand_cut, hand_hears_bytes}
use Rattle.link.specs.Gates.{GateRing, gate_tag_key, gate_keys_after, gate_by_row, gate_tagged, gate_row, gate_cut, gate_hears_bytes}
use Rattle.link.specs.Theorems.{RefusedBytesAreQuiet}

-- ---- the verdict

-- what was refused did not happen
refused_all : {A K : Type 0} (y : A) (ks : K) (v : Option Refusal) (o : Out A) (seal : Message → Sealed) (e : Refusal) → v ≡ Some e →
    received v (unless v y o) ks seal ≡ refused e y ks
refused_all y ks v o seal e h = ap (λ v. received v (unless v y o) ks seal) h

pub verdict_message : (m o a : Bool) → verdict m o a ≡ None → m ≡ true
verdict_message true o a e = refl
verdict_message false o a e = absurd (none_some _ (sym e))

pub verdict_ours : (m o a : Bool) → verdict m o a ≡ None → o ≡ true
verdict_ours true true a e = refl
verdict_ours true false a e = absurd (none_some _ (sym e))
verdict_ours false o a e = absurd (none_some _ (sym e))

-- a row that was not refused is that of its message
pub hand_row_is : (g s : ℕ) (row : List ℕ) (y : HandState) → hand_verdict g s row true y ≡ None → code (message_of row) ≡ row
unfolding hand_verdict
hand_row_is g s row y h = code-message_of row (verdict_message (is_message row) (is_for_hand (min g (length y.peers)) s (message_of row)) true h)

pub gate_row_is : (g s : ℕ) (row : List ℕ) (y : GateState) → gate_verdict g s row true y ≡ None → code (message_of row) ≡ row
unfolding gate_verdict
gate_row_is g s row y h = code-message_of row (verdict_message (is_message row) (is_for_gate g (min s (length y.peers)) (message_of row)) true h)

-- ---- a handheld

module _ (v : Secrets) (s : ℕ) (x : List ℕ) (c : Cut) (y : HandState) (ks : List GateKeys) (e : Refusal) where
  abbrev HandRefused : Reception HandState (List GateKeys) → Type 0
  HandRefused r = r.refusal ≡ Some e → r ≡ refused e y ks

  hand_by_row_lem : (h : Heard) → HandRefused (hand_by_row s h y ks)
  unfolding hand_hears_row
  hand_by_row_lem h = refused_all y ks (hand_verdict (length y.peers) s h.row h.genuine y) _ _ e

  -- only a body can make of a message none
  hand_keys_kept : (q : List ℕ) (m : Message) (b : ℕ) → hand_verdict (length y.peers) s (code m) true y ≡ None →
      hand_verdict (length y.peers) s (code (with_body b m)) true y ≡ Some e → hand_keys_after q m y ks ≡ ks
  hand_keys_kept q (Begin g h n) b fine bad = refl
  hand_keys_kept q (Reply p) b fine bad = refl
  hand_keys_kept q (Take n d p) b fine bad = absurd (none_some e (sym fine ∙ bad))
  hand_keys_kept q (Taken p) b fine bad = refl
  hand_keys_kept q (Renew r n d p) b fine bad = absurd (none_some e (sym fine ∙ bad))
  hand_keys_kept q (Load d n z p) b fine bad = refl
  hand_keys_kept q (All g n d z) b fine bad = refl

  module _ (fine : hand_verdict (length y.peers) s (row_of c) true y ≡ None) where
    abbrev mh : Message
    mh = message_of (row_of c)

    hand_tagged_lem : (t : TagKey) → HandRefused (hand_tagged v s x c t y ks)
    unfolding hand_hears_row
    hand_tagged_lem Missing = hand_by_row_lem (unopened true c)
    hand_tagged_lem Mismatch = hand_by_row_lem (unopened false c)
    hand_tagged_lem (Key k) = by_tag (tag_right v.hash k x c)
      where
        by_tag : (b : Bool) → HandRefused (hand_by_row s (cond b (record { row = code (opened_with v.hash k c); genuine = true }) (unopened false c)) y (cond b (hand_keys_after (group_with v.hash k c) mh y ks) ks))
        by_tag false = hand_by_row_lem (unopened false c)
        by_tag true = λ h.
            let kept = hand_keys_kept (group_with v.hash k c) mh (opened_body v.hash k mh c.body) (ap (λ l. hand_verdict (length y.peers) s l true y) (hand_row_is (length y.peers) s (row_of c) y fine) ∙ fine) h in
            refused_all y _ (hand_verdict (length y.peers) s (code (opened_with v.hash k c)) true y) _ _ e h ∙ ap (refused e y) kept

    hand_message_lem : (m : Message) → HandRefused (hand_message v s x c m y ks)
    hand_message_lem (Begin g h n) = by_draw (can_draw v y.draws)
      where
        by_draw : (b : Bool) → HandRefused (cond b (hand_by_row s (unopened true c) y (set ks g (with_offered_keys (begun_keys v s g c.nonces.anonce y) (gate_keys g ks)))) (nothing y ks))
        by_draw true h = absurd (none_some e (sym fine ∙ h))
        by_draw false h = absurd (none_some e h)
    hand_message_lem (Reply p) = hand_tagged_lem (hand_tag_key y ks c.nonces.anonce c.nonces.snonce (Reply p))
    hand_message_lem (Take n d p) = hand_tagged_lem (hand_tag_key y ks c.nonces.anonce c.nonces.snonce (Take n d p))
    hand_message_lem (Taken p) = hand_tagged_lem (hand_tag_key y ks c.nonces.anonce c.nonces.snonce (Taken p))
    hand_message_lem (Renew r n d p) = hand_tagged_lem (hand_tag_key y ks c.nonces.anonce c.nonces.snonce (Renew r n d p))
    hand_message_lem (Load d n b p) = hand_tagged_lem (hand_tag_key y ks c.nonces.anonce c.nonces.snonce (Load d n b p))
    hand_message_lem (All g n d b) = hand_tagged_lem (hand_tag_key y ks c.nonces.anonce c.nonces.snonce (All g n d b))

  hand_row_lem : (o : Option Refusal) → hand_verdict (length y.peers) s (row_of c) true y ≡ o → HandRefused (hand_row v s x c o y ks)
  hand_row_lem (Some r) f h = ap (λ z. refused z y ks) (some_inj r e h)
  hand_row_lem None f h = hand_message_lem f (message_of (row_of c)) h

hand_cut_lem : (v : Secrets) (s : ℕ) (x : List ℕ) (d : Result Cut Refusal) (y : HandState) (ks : List GateKeys) (e : Refusal) → (hand_cut v s x d y ks).refusal ≡ Some e →
    hand_cut v s x d y ks ≡ refused e y ks
hand_cut_lem v s x (Err r) y ks e h = ap (λ z. refused z y ks) (some_inj r e h)
hand_cut_lem v s x (Ok c) y ks e h = hand_row_lem v s x c y ks e (hand_verdict (length y.peers) s (row_of c) true y) refl h

-- ---- a gate

module _ (v : Secrets) (g : ℕ) (x : List ℕ) (c : Cut) (y : GateState) (r : GateRing) (e : Refusal) where
  abbrev GateRefused : Reception GateState GateRing → Type 0
  GateRefused z = z.refusal ≡ Some e → z ≡ refused e y r

  gate_by_row_lem : (h : Heard) → GateRefused (gate_by_row g h y r)
  unfolding gate_hears_row
  gate_by_row_lem h = refused_all y r (gate_verdict g (length y.peers) h.row h.genuine y) _ _ e

  gate_keys_kept : (o : PairKeys) (m : Message) (b : ℕ) → gate_verdict g (length y.peers) (code m) true y ≡ None →
      gate_verdict g (length y.peers) (code (with_body b m)) true y ≡ Some e → gate_keys_after o m y r ≡ r
  gate_keys_kept o (Begin i h n) b fine bad = refl
  gate_keys_kept o (Reply p) b fine bad = absurd (none_some e (sym fine ∙ bad))
  gate_keys_kept o (Take n d p) b fine bad = refl
  gate_keys_kept o (Taken p) b fine bad = absurd (none_some e (sym fine ∙ bad))
  gate_keys_kept o (Renew d n k p) b fine bad = refl
  gate_keys_kept o (Load d n z p) b fine bad = refl
  gate_keys_kept o (All i n d z) b fine bad = refl

  module _ (fine : gate_verdict g (length y.peers) (row_of c) true y ≡ None) where
    abbrev mg : Message
    mg = message_of (row_of c)

    gate_tagged_lem : (t : TagKey) → GateRefused (gate_tagged v g x c t y r)
    unfolding gate_hears_row
    gate_tagged_lem Missing = gate_by_row_lem (unopened true c)
    gate_tagged_lem Mismatch = gate_by_row_lem (unopened false c)
    gate_tagged_lem (Key k) = by_tag (tag_right v.hash k x c)
      where
        by_tag : (b : Bool) → GateRefused (gate_by_row g (cond b (record { row = code (opened_with v.hash k c); genuine = true }) (unopened false c)) y (cond b (gate_keys_after (record { nonces = c.nonces; key = k }) mg y r) r))
        by_tag false = gate_by_row_lem (unopened false c)
        by_tag true = λ h.
            let kept = gate_keys_kept (record { nonces = c.nonces; key = k }) mg (opened_body v.hash k mg c.body) (ap (λ l. gate_verdict g (length y.peers) l true y) (gate_row_is g (length y.peers) (row_of c) y fine) ∙ fine) h in
            refused_all y _ (gate_verdict g (length y.peers) (code (opened_with v.hash k c)) true y) _ _ e h ∙ ap (refused e y) kept

  gate_row_lem : (o : Option Refusal) → gate_verdict g (length y.peers) (row_of c) true y ≡ o → GateRefused (gate_row v g x c o y r)
  gate_row_lem (Some d) f h = ap (λ z. refused z y r) (some_inj d e h)
  gate_row_lem None f h = gate_tagged_lem f (gate_tag_key v y r c.nonces.anonce c.nonces.snonce (message_of (row_of c))) h

gate_cut_lem : (v : Secrets) (g : ℕ) (x : List ℕ) (d : Result Cut Refusal) (y : GateState) (r : GateRing) (e : Refusal) → (gate_cut v g x d y r).refusal ≡ Some e →
    gate_cut v g x d y r ≡ refused e y r
gate_cut_lem v g x (Err d) y r e h = ap (λ z. refused z y r) (some_inj d e h)
gate_cut_lem v g x (Ok c) y r e h = gate_row_lem v g x c y r e (gate_verdict g (length y.peers) (row_of c) true y) refl h

pub refused_bytes_are_quiet : RefusedBytesAreQuiet
unfolding hand_hears_bytes gate_hears_bytes
refused_bytes_are_quiet v n x e = (λ y ks h. hand_cut_lem v n x (cut x) y ks e h, λ y r h. gate_cut_lem v n x (cut x) y r e h)
