-- The numbers of a message that was read are small.
use Rattle.std.proofs.Common.{◌≡◌, ℕ, ◌^◌, true, ltb, List, sym, ap, ◌∙◌}
use Rattle.frame.specs.declared.message.Pair.{Pair}
use Rattle.frame.specs.declared.message.Direction.{Direction}
use Rattle.frame.specs.declared.message.Message.{Message}
use Rattle.frame.specs.declared.message.Message.TheVariants.{Renew, Load, All}
use Rattle.frame.specs.Row.{code, is_small, is_message, message_of}
use Rattle.frame.proofs.Small.{small_first, small_rest}
use Rattle.frame.proofs.RoundTrip.{code-is_small}

pub read_is_small : (row : List ℕ) (m : Message) → is_message row ≡ true → m ≡ message_of row → is_small (code m) ≡ true
read_is_small = code-is_small

module _ (m : Message) (small : is_small (code m) ≡ true) where
  seen_as : (n : Message) → m ≡ n → is_small (code n) ≡ true
  seen_as n e = ap (λ (x : Message). is_small (code x)) (sym e) ∙ small

  -- whatever it is matched as: a round, and the counters that are heard
  pub small_round : (r n c : ℕ) (p : Pair) → m ≡ Renew r n c p → ltb r (2 ^ 49) ≡ true
  small_round r n c p e = small_first _ _ (small_rest _ _ (seen_as _ e))

  pub small_load : (d : Direction) (c b : ℕ) (p : Pair) → m ≡ Load d c b p → ltb c (2 ^ 49) ≡ true
  small_load d c b p e = small_first _ _ (small_rest _ _ (small_rest _ _ (seen_as _ e)))

  pub small_all : (g n c b : ℕ) → m ≡ All g n c b → ltb c (2 ^ 49) ≡ true
  small_all g n c b e = small_first _ _ (small_rest _ _ (small_rest _ _ (small_rest _ _ (seen_as _ e))))
