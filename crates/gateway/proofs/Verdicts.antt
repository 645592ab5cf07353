-- A gateway's verdict is that of a listener with the handhelds that it holds.
use Rattle.std.proofs.Common.{◌≡◌, ℕ, min, Bool, List, sym, ap, ◌∙◌, arith}
use Rattle.protocol.specs.Calls.{is_for_gate, verdict_on, gate_verdict}
use Rattle.endpoint.proofs.Tables.{counted}
use Rattle.gateway.specs.declared.gateway.Gateway.{Gateway}
use Rattle.gateway.specs.State.{state_of}

-- k: the handhelds that count
pub verdict_by : (g s k : ℕ) (row : List ℕ) (genuine : Bool) (p : Gateway) → k ≡ min s p.many →
    verdict_on (is_for_gate g k) row genuine ≡ gate_verdict g s row genuine (state_of p)
unfolding gate_verdict
verdict_by g s k row genuine p few =
    ap (λ (n : ℕ). verdict_on (is_for_gate g n) row genuine) few
    ∙ sym (ap (λ (n : ℕ). verdict_on (is_for_gate g (min s n)) row genuine) (counted p.many p.peers (omega (arith, p.few, p.whole))))
