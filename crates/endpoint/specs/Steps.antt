-- Steps on what is held for one peer, by a rule.
use Rattle.std.specs.Prelude.{◌≡◌, Bool, true}
use Rattle.protocol.specs.Rules.{Out}
use Rattle.endpoint.specs.declared.effect.Effect.{Effect}
use Rattle.endpoint.specs.Effects.{out_of}

-- whatever comes of the step, from where the test holds, is what the rule has
abbrev pub Follows : {A : Type 0} → (test : A → Bool) → (rule : A → Out A) → (step : A → Effect → A → Type 0) → Type 0
Follows {A} test rule step = (x y : A) (e : Effect) → test x ≡ true → step x e y → out_of e y ≡ rule x

-- and the test holds afterwards
abbrev pub Keeps : {A : Type 0} → (test : A → Bool) → (step : A → Effect → A → Type 0) → Type 0
Keeps {A} test step = (x y : A) (e : Effect) → test x ≡ true → step x e y → test y ≡ true
