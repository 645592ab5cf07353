use Rattle.std.proofs.Common.{◌≡◌, ℕ, length, Some, None, sym, refl, ap, ◌∙◌}
use Rattle.std.proofs.lemmas.Result.{err_from_is_err_and}
use Rattle.protocol.specs.Held.{GateState}
use Rattle.protocol.specs.Rules.{Out, quiet}
use Rattle.protocol.specs.Calls.{gate_verdict, gate_hears_row}
use Rattle.endpoint.specs.Effects.{out_of}
use Rattle.gateway.specs.State.{state_of}
use Rattle.link.specs.Gates.{gate_seals}
use Rattle.link.proofs.Sizes.{gate_row_size}
use Rattle.link.proofs.Outcomes.{handed_on, refused_by}
use Rattle.gateradio.specs.State.{held_in, ring_of}
use Rattle.gateradio.proofs.Counts.{many_of, many_kept, ring_at}
use Rattle.gateradio.proofs.Sealed.{sealed_by}
use Rattle.gateradio.proofs.held.GateLink.hear_row.Goals as goal

pub returns-in_err-effect : goal.returns-in_err-effect
returns-in_err-effect g c =
    let l = c.args.self.now in
    let y = held_in l in
    let after = c.hear_row.new.self in
    let row = c.args.row.now in
    let t = c.args.genuine in
    let i = c.args.g in
    let e = c.in_err-effect.field-0.0 in
    let n = sym (many_of l.end) in
    let verdict : gate_verdict i (length y.peers) row t y ≡ Some e = ap (λ (k : ℕ). gate_verdict i k row t y) (sym n) ∙ c.in_err-effect.ensures.0 in
    let out : quiet (state_of after) ≡ gate_hears_row i (length y.peers) row t y = c.in_err-effect.ensures.1 ∙ ap (λ (k : ℕ). gate_hears_row i k row t y) n in
    let many = many_kept l.end after (ap (λ (o : Out GateState). length o.held.peers) out ∙ gate_row_size y i (length y.peers) row t) in
    handed_on c.from_residual.result e (state_of after) (ring_at l.group l.keys after.many) (err_from_is_err_and c.from_residual.result c.from_residual.ensures.1)
    ∙ refused_by (g.V.Vault.holds c.args.vault.now).hash gate_seals (gate_verdict i (length y.peers) row t y) e (gate_hears_row i (length y.peers) row t y) (state_of after) (ring_of l) (ring_at l.group l.keys after.many)
    verdict out (ap (ring_at l.group l.keys) many)

pub returns : goal.returns
returns g c =
    let l = c.args.self.now in
    let y = held_in l in
    let after = c.hear_row.new.self in
    let row = c.args.row.now in
    let t = c.args.genuine in
    let i = c.args.g in
    let e = c.in_ok-effect.effect in
    let n = sym (many_of l.end) in
    let verdict : gate_verdict i (length y.peers) row t y ≡ None = ap (λ (k : ℕ). gate_verdict i k row t y) (sym n) ∙ c.in_ok-effect.ensures.0 in
    let out : out_of e (state_of after) ≡ gate_hears_row i (length y.peers) row t y = c.in_ok-effect.ensures.1 ∙ ap (λ (k : ℕ). gate_hears_row i k row t y) n in
    sealed_by (g.V.Vault.holds c.args.vault.now).hash l after l.group (gate_verdict i (length y.peers) row t y) e (gate_hears_row i (length y.peers) row t y) (ring_of l) c.sealed.result
    verdict out (gate_row_size y i (length y.peers) row t) refl c.sealed.ensures.says c.sealed.ensures.delivers
