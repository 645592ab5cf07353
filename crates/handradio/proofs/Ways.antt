-- The way of bytes through a handheld, step by step.
use Rattle.std.proofs.Common.{◌≡◌, ℕ, true, List, length, None, Ok, Option, Result, sym, refl, ap, ◌∙◌}
use Rattle.frame.specs.declared.message.Nonce.{Nonce}
use Rattle.frame.specs.declared.message.Message.{Message}
use Rattle.frame.specs.declared.message.Message.TheVariants.{Begin, Reply, Take, Taken, Renew, Load, All}
use Rattle.frame.specs.declared.message.Refusal.{Refusal}
use Rattle.frame.specs.Row.{message_of}
use Rattle.octets.specs.declared.parts.Cut.{Cut}
use Rattle.octets.specs.Cutting.{cut}
use Rattle.protocol.specs.Held.{HandState}
use Rattle.protocol.specs.Calls.{hand_verdict}
use Rattle.sealing.specs.Secrets.{Secrets}
use Rattle.link.specs.declared.keys.GateKeys.{GateKeys}
use Rattle.link.specs.declared.keys.TagKey.{TagKey}
use Rattle.link.specs.Hands.{hand_tag_key, hand_tagged, hand_message, hand_row, hand_cut, hand_hears_bytes}

module _ (v : Secrets) (s : ℕ) (x : List ℕ) (y : HandState) (ks : List GateKeys) where
  by_cut : (z : Result Cut Refusal) → z ≡ cut x → hand_cut v s x z y ks ≡ hand_hears_bytes v s x y ks
  unfolding hand_hears_bytes
  by_cut z e = ap (λ (w : Result Cut Refusal). hand_cut v s x w y ks) e

  -- the row that is judged is the one that was cut; n gates count
  by_verdict : (c : Cut) (w : Option Refusal) (n : ℕ) (row : List ℕ) → Ok c ≡ cut x → n ≡ length y.peers → row ≡ c.row → hand_verdict n s row true y ≡ w →
      hand_row v s x c w y ks ≡ hand_hears_bytes v s x y ks
  by_verdict c w n row parts many same verdict =
      ap (λ (u : Option Refusal). hand_row v s x c u y ks)
      (sym verdict ∙ ap (λ (k : ℕ). hand_verdict k s row true y) many ∙ ap (λ (r : List ℕ). hand_verdict (length y.peers) s r true y) same)
      ∙ by_cut (Ok c) parts

  tagged : (c : Cut) (m : Message) → ((g h : ℕ) (n : Nonce) → m ≡ Begin g h n → ⊥) →
      hand_tagged v s x c (hand_tag_key y ks c.nonces.anonce c.nonces.snonce m) y ks ≡ hand_message v s x c m y ks
  tagged c (Begin g h n) not = absurd (not g h n refl)
  tagged c (Reply p) not = refl
  tagged c (Take n k p) not = refl
  tagged c (Taken p) not = refl
  tagged c (Renew r n k p) not = refl
  tagged c (Load d n b p) not = refl
  tagged c (All g n k b) not = refl

  -- any message
  by_message : (c : Cut) (m : Message) (n : ℕ) (row : List ℕ) → Ok c ≡ cut x → n ≡ length y.peers → row ≡ c.row → hand_verdict n s row true y ≡ None →
      m ≡ message_of row → hand_message v s x c m y ks ≡ hand_hears_bytes v s x y ks
  by_message c m n row parts many same verdict is =
      ap (λ (u : Message). hand_message v s x c u y ks) (is ∙ ap message_of same) ∙ by_verdict c None n row parts many same verdict

  -- one that is no begin, by the key of its tag
  pub by_tag : (c : Cut) (t : TagKey) (m : Message) (n : ℕ) (row : List ℕ) → Ok c ≡ cut x → n ≡ length y.peers → row ≡ c.row → hand_verdict n s row true y ≡ None →
      m ≡ message_of row → ((g h : ℕ) (a : Nonce) → m ≡ Begin g h a → ⊥) → t ≡ hand_tag_key y ks c.nonces.anonce c.nonces.snonce m →
      hand_tagged v s x c t y ks ≡ hand_hears_bytes v s x y ks
  by_tag c t m n row parts many same verdict is not key =
      ap (λ (u : TagKey). hand_tagged v s x c u y ks) key ∙ tagged c m not ∙ by_message c m n row parts many same verdict is
