-- What the code of an end answers, put together from what the rules gave and what was sealed.
use Rattle.std.proofs.Common.{◌≡◌, ℕ, List, [], map, Some, None, Option, Ok, Err, Result, sym, ap, ◌∙◌}
use Rattle.frame.specs.declared.message.Message.{Message}
use Rattle.frame.specs.declared.message.Refusal.{Refusal}
use Rattle.protocol.specs.Rules.{Out, quiet}
use Rattle.endpoint.specs.declared.effect.Effect.{Effect}
use Rattle.endpoint.specs.Effects.{listed, out_of}
use Rattle.sealing.specs.Secrets.{Hash}
use Rattle.sealing.specs.Seal.{Sealed, octets_sealed}
use Rattle.link.specs.declared.effect.SealedEffect.{SealedEffect}
use Rattle.link.specs.Keys.{Answer, answer_of, received}
use Rattle.link.specs.Answers.{texts, answered}

-- a refusal that is handed on is the one that came
pub handed_on : {A K : Type 0} (r : Result SealedEffect Refusal) (e : Refusal) (x : A) (ks : K) →
    (d : Refusal) × (r ≡ Err d) × (d ≡ e) → answered r x ks ≡ answered (Err e) x ks
handed_on r e x ks p =
    ap (λ (s : Result SealedEffect Refusal). answered s x ks) p.1 ∙ ap (λ (d : Refusal). answered (Err d) x ks) p.2

module _ {A K : Type 0} (H : Hash) (seal : K → Message → Sealed) where
  abbrev answer : Option Refusal → A → K → List (List ℕ) → List Message → Answer A K
  answer v x ks s d = record { refusal = v; held = x; keys = ks; says = s; delivers = d }

  -- refused: nothing came of it
  pub refused_by : (v : Option Refusal) (e : Refusal) (o : Out A) (x : A) (ks now' : K) → v ≡ Some e → quiet x ≡ o → now' ≡ ks →
      answered (Err e) x now' ≡ answer_of H (received v o ks (seal ks))
  refused_by v e o x ks now' ve out same =
      ap (λ (k : K). answer (Some e) x k [] []) same
      ∙ ap (λ (w : Out A). answer_of H (received (Some e) w ks (seal ks))) out
      ∙ ap (λ (w : Option Refusal). answer_of H (received w o ks (seal ks))) (sym ve)

  -- heard, or done: what the rules gave, and what was said sealed with the keys held then
  pub heard_by_lem : (v : Option Refusal) (e : Effect) (o : Out A) (x : A) (ks now' : K) (r : SealedEffect) →
      v ≡ None → out_of e x ≡ o → texts r.says ≡ map (octets_sealed H) (map (seal now') (listed e.says)) → r.delivers ≡ e.delivers → now' ≡ ks →
      answered (Ok r) x now' ≡ answer_of H (received v o ks (seal ks))
  heard_by_lem v e o x ks now' r ve out says delivers same =
      ap (λ (d : Option Message). answer None x now' (texts r.says) (listed d)) delivers
      ∙ ap (λ (t : List (List ℕ)). answer None x now' t (listed e.delivers)) says
      ∙ ap (λ (k : K). answer None x k (map (octets_sealed H) (map (seal k) (listed e.says))) (listed e.delivers)) same
      ∙ ap (λ (w : Out A). answer_of H (received None w ks (seal ks))) out
      ∙ ap (λ (w : Option Refusal). answer_of H (received w o ks (seal ks))) (sym ve)
