-- What is printed of an effect or a refusal is printed of what the definitions answer.
use Rattle.std.proofs.Common.{◌≡◌, Ok, Err, Option, Result, refl, subst}
use Rattle.frame.specs.declared.message.Message.{Message}
use Rattle.frame.specs.declared.message.Refusal.{Refusal}
use Rattle.link.specs.declared.effect.SealedEffect.{SealedEffect}
use Rattle.link.specs.Answers.{answered}
use Rattle.link.specs.Keys.{Answer}
use Rattle.console.specs.declared.answer.Answer.{Answer as Printed}
use Rattle.console.specs.declared.delivery.Delivery.{Delivery}
use Rattle.console.specs.Text.{answer_text}
use Rattle.terminal.specs.Lines.{Comes, effect_text}

pub comes : {A K : Type 0} (from : Message → Option Delivery) (r : Result SealedEffect Refusal) (a : Printed) (z : A) (ks : K) (o : Answer A K) → answer_text a ≡ effect_text from r → answered r z ks ≡ o → Comes from o a z ks
comes from (Ok e) a z ks o text is = subst (λ o. Comes from o a z ks) is (record { text = text; held = refl; keys = refl })
comes from (Err r) a z ks o text is = subst (λ o. Comes from o a z ks) is (record { text = text; held = refl; keys = refl })
