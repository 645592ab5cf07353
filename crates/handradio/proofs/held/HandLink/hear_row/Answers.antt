use Rattle.std.proofs.Common.{◌≡◌, ℕ, length, take, Some, None, sym, ap, ◌∙◌}
use Rattle.std.proofs.lemmas.Result.{err_from_is_err_and}
use Rattle.protocol.specs.Held.{HandState}
use Rattle.protocol.specs.Rules.{Out, quiet}
use Rattle.protocol.specs.Calls.{hand_verdict, hand_hears_row}
use Rattle.endpoint.specs.Effects.{out_of}
use Rattle.handset.specs.State.{state_of}
use Rattle.link.specs.Hands.{hand_seals}
use Rattle.link.proofs.Sizes.{hand_row_size}
use Rattle.link.proofs.Outcomes.{handed_on, refused_by, heard_by_lem}
use Rattle.handradio.specs.State.{held_in, ring_of}
use Rattle.handradio.proofs.Counts.{many_of, many_kept}
use Rattle.handradio.proofs.held.HandLink.hear_row.Goals as goal

pub returns-in_err-effect : goal.returns-in_err-effect
returns-in_err-effect g c =
    let l = c.args.self.now in
    let y = held_in l in
    let after = c.hear_row.new.self in
    let row = c.args.row.now in
    let t = c.args.genuine in
    let s = c.args.s in
    let n = sym (many_of l.end) in
    let verdict : hand_verdict (length y.peers) s row t y ≡ Some c.in_err-effect.field-0.0 = ap (λ (k : ℕ). hand_verdict k s row t y) (sym n) ∙ c.in_err-effect.ensures.0 in
    let out : quiet (state_of after) ≡ hand_hears_row (length y.peers) s row t y = c.in_err-effect.ensures.1 ∙ ap (λ (k : ℕ). hand_hears_row k s row t y) n in
    let many = many_kept l.end after (ap (λ (o : Out HandState). length o.held.peers) out ∙ hand_row_size y (length y.peers) s row t) in
    handed_on c.from_residual.result _ (state_of after) (take after.many l.keys) (err_from_is_err_and c.from_residual.result c.from_residual.ensures.1)
    ∙ refused_by (g.V.Vault.holds c.args.vault.now).hash hand_seals (hand_verdict (length y.peers) s row t y) c.in_err-effect.field-0.0 (hand_hears_row (length y.peers) s row t y) (state_of after) (ring_of l) (take after.many l.keys)
    verdict out (ap (λ (k : ℕ). take k l.keys) many)

pub returns : goal.returns
returns g c =
    let l = c.args.self.now in
    let y = held_in l in
    let after = c.hear_row.new.self in
    let row = c.args.row.now in
    let t = c.args.genuine in
    let s = c.args.s in
    let n = sym (many_of l.end) in
    let verdict : hand_verdict (length y.peers) s row t y ≡ None = ap (λ (k : ℕ). hand_verdict k s row t y) (sym n) ∙ c.in_ok-effect.ensures.0 in
    let out : out_of c.in_ok-effect.effect (state_of after) ≡ hand_hears_row (length y.peers) s row t y = c.in_ok-effect.ensures.1 ∙ ap (λ (k : ℕ). hand_hears_row k s row t y) n in
    let many = many_kept l.end after (ap (λ (o : Out HandState). length o.held.peers) out ∙ hand_row_size y (length y.peers) s row t) in
    heard_by_lem (g.V.Vault.holds c.args.vault.now).hash hand_seals (hand_verdict (length y.peers) s row t y) c.in_ok-effect.effect (hand_hears_row (length y.peers) s row t y) (state_of after) (ring_of l) (take after.many l.keys) c.sealed.result
    verdict out c.sealed.ensures.says c.sealed.ensures.delivers (ap (λ (k : ℕ). take k l.keys) many)
