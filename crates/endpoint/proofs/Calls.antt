-- A call, put together: what is checked, what comes of the rule, and what is written.
use Rattle.std.proofs.Common.{◌≡◌, ℕ, List, [], length, replicate, None, Ok, Err, Option, Result, refl, sym, ap, ◌∙◌}
use Rattle.frame.specs.declared.message.Message.{Message}
use Rattle.frame.specs.declared.message.Refusal.{Refusal}
use Rattle.frame.specs.Row.{padded}
use Rattle.frame.specs.Refusals.{refusal_number}
use Rattle.protocol.specs.Rules.{Out}
use Rattle.protocol.specs.Calls.{Call, call_of, code_of, row_of}
use Rattle.endpoint.specs.declared.effect.Effect.{Effect}
use Rattle.endpoint.specs.declared.call.Heard.{Heard}
use Rattle.endpoint.specs.Effects.{listed, out_of, hearing_of, acting_of, code_answered, effect_answered, Writes, HearsRow}

module _ {A : Type 0} where
  abbrev call : A → ℕ → ℕ → ℕ → List ℕ → List ℕ → Call A
  call x k m n s t = record { held = x; code = k; said = m; delivered = n; says = s; delivers = t }

  -- an effect, written behind its code
  written : (x : A) (k : ℕ) (e : Effect) (r : Heard) (s t : List ℕ) →
      r.code ≡ k → Writes e.says s r.says → Writes e.delivers t r.takes → hearing_of r x s t ≡ call_of k (out_of e x)
  written x k e r s t code said delivered =
      ap (λ (i : ℕ). call x i r.says r.takes s t) code ∙ ap (λ (i : ℕ). call x k i r.takes s t) said.1
      ∙ ap (λ (i : ℕ). call x k (length (row_of (listed e.says))) i s t) delivered.1
      ∙ ap (λ (l : List ℕ). call x k (length (row_of (listed e.says))) (length (row_of (listed e.delivers))) l t) said.0
      ∙ ap (λ (l : List ℕ). call x k (length (row_of (listed e.says))) (length (row_of (listed e.delivers))) (padded 12 (row_of (listed e.says))) l) delivered.0

  -- a row that is heard or refused: what came of it, written
  pub heard : (v : Option Refusal) (x : A) (o : Out A) (a : Result Effect Refusal) (r : Heard) (s t : List ℕ) → HearsRow v o a x →
      r.code ≡ code_answered a → Writes (effect_answered a).says s r.says → Writes (effect_answered a).delivers t r.takes → hearing_of r x s t ≡ call_of (code_of v) o
  heard v x o (Ok e) r s t h code said delivered =
      written x 0 e r s t code said delivered ∙ ap (call_of 0) h.1 ∙ ap (λ (w : Option Refusal). call_of (code_of w) o) (sym h.0)
  heard v x o (Err f) r s t h code said delivered =
      written x (refusal_number f) (record { says = None; delivers = None }) r s t code said delivered
      ∙ ap (call_of (refusal_number f)) h.1 ∙ ap (λ (w : Option Refusal). call_of (code_of w) o) (sym h.0)

  -- an act, which delivers nothing
  pub acted : (x : A) (o : Out A) (e : Effect) (m : ℕ) (s : List ℕ) → out_of e x ≡ o → o.delivers ≡ [] → Writes e.says s m → acting_of m x s ≡ call_of 0 o
  acted x o e m s out none said =
      let nothing : listed e.delivers ≡ [] = ap (λ (w : Out A). w.delivers) out ∙ none in
      written x 0 e (record { code = 0; says = m; takes = 0 }) s (replicate 12 0) refl said
      (ap (λ (l : List Message). padded 12 (row_of l)) (sym nothing), ap (λ (l : List Message). length (row_of l)) (sym nothing))
      ∙ ap (call_of 0) out
