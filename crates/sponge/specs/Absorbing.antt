-- What a sponge of SHAKE256 holds of the message that it absorbs.
use Rattle.std.specs.Prelude.{ℕ, List}

-- the state that every whole block so far has entered, and the bytes behind them, which wait for the rest of their block
pub record Absorbing : Type 0 where
  pub lanes : List ℕ
  pub waiting : List ℕ
