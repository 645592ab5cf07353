-- What the rules say of a gate, answered with the keys that it holds then.
use Rattle.std.proofs.Common.{◌≡◌, ℕ, List, length, map, None, Option, Ok, ap, ◌∙◌}
use Rattle.frame.specs.declared.message.Refusal.{Refusal}
use Rattle.protocol.specs.Held.{GateState}
use Rattle.protocol.specs.Rules.{Out}
use Rattle.endpoint.specs.declared.effect.Effect.{Effect}
use Rattle.endpoint.specs.Effects.{listed, out_of}
use Rattle.gateway.specs.declared.gateway.Gateway.{Gateway}
use Rattle.gateway.specs.State.{state_of}
use Rattle.sealing.specs.Secrets.{Hash}
use Rattle.sealing.specs.Seal.{octets_sealed}
use Rattle.link.specs.declared.effect.SealedEffect.{SealedEffect}
use Rattle.link.specs.Keys.{answer_of, received}
use Rattle.link.specs.Answers.{texts, answered}
use Rattle.link.specs.Gates.{GateRing, gate_seals}
use Rattle.link.proofs.Outcomes.{heard_by_lem}
use Rattle.gateradio.specs.declared.held.GateLink.{GateLink}
use Rattle.gateradio.proofs.Counts.{many_kept, ring_at}

-- q: the bytes of the group key that is held then
module _ (H : Hash) (l : GateLink) (after : Gateway) (q : List ℕ) where
  pub sealed_by : (v : Option Refusal) (e : Effect) (o : Out GateState) (ks : GateRing) (r : SealedEffect) →
      v ≡ None → out_of e (state_of after) ≡ o → length o.held.peers ≡ length (state_of l.end).peers → ring_at q l.keys l.end.many ≡ ks →
      texts r.says ≡ map (octets_sealed H) (map (gate_seals (ring_at q l.keys after.many)) (listed e.says)) → r.delivers ≡ e.delivers →
      answered (Ok r) (state_of after) (ring_at q l.keys after.many) ≡ answer_of H (received v o ks (gate_seals ks))
  sealed_by v e o ks r verdict out size ring says delivers =
      let many = many_kept l.end after (ap (λ (u : Out GateState). length u.held.peers) out ∙ size) in
      heard_by_lem H gate_seals v e o (state_of after) ks (ring_at q l.keys after.many) r verdict out says delivers (ap (ring_at q l.keys) many ∙ ring)
