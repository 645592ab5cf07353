-- A handset's verdict is that of a listener with the gates that it holds.
use Rattle.std.proofs.Common.{◌≡◌, ℕ, min, Bool, List, sym, ap, ◌∙◌}
use Rattle.protocol.specs.Calls.{is_for_hand, verdict_on, hand_verdict}
use Rattle.endpoint.proofs.Tables.{counted}
use Rattle.handset.specs.declared.handset.Handset.{Handset}
use Rattle.handset.specs.State.{state_of}

-- k: the gates that count
pub verdict_by : (g s k : ℕ) (row : List ℕ) (genuine : Bool) (h : Handset) → k ≡ min g h.many →
    verdict_on (is_for_hand k s) row genuine ≡ hand_verdict g s row genuine (state_of h)
unfolding hand_verdict
verdict_by g s k row genuine h few =
    ap (λ (n : ℕ). verdict_on (is_for_hand n s) row genuine) few
    ∙ sym (ap (λ (n : ℕ). verdict_on (is_for_hand (min g n) s) row genuine) (counted h.many h.peers h.fits))
