-- The way of bytes through a gate.
use Rattle.std.proofs.Common.{◌≡◌, ℕ, true, List, length, None, Option, Ok, Result, sym, ap, ◌∙◌}
use Rattle.frame.specs.declared.message.Message.{Message}
use Rattle.frame.specs.declared.message.Refusal.{Refusal}
use Rattle.frame.specs.Row.{message_of}
use Rattle.octets.specs.declared.parts.Cut.{Cut}
use Rattle.octets.specs.Cutting.{cut}
use Rattle.protocol.specs.Held.{GateState}
use Rattle.protocol.specs.Calls.{gate_verdict}
use Rattle.sealing.specs.Secrets.{Secrets}
use Rattle.link.specs.declared.keys.TagKey.{TagKey}
use Rattle.link.specs.Gates.{GateRing, gate_tag_key, gate_tagged, gate_row, gate_cut, gate_hears_bytes}

-- bytes that are cut, and whose row is judged to be for this gate, go by the key of their tag; n handhelds count
pub by_tag : (v : Secrets) (g : ℕ) (x : List ℕ) (y : GateState) (r : GateRing) (c : Cut) (t : TagKey) (m : Message) (row : List ℕ) (n : ℕ) →
    Ok c ≡ cut x → row ≡ c.row → length y.peers ≡ n → gate_verdict g n row true y ≡ None → m ≡ message_of row →
    t ≡ gate_tag_key v y r c.nonces.anonce c.nonces.snonce m → gate_tagged v g x c t y r ≡ gate_hears_bytes v g x y r
unfolding gate_hears_bytes
by_tag v g x y r c t m row n parts is many verdict message key =
    ap (λ (u : TagKey). gate_tagged v g x c u y r) (key ∙ ap (gate_tag_key v y r c.nonces.anonce c.nonces.snonce) (message ∙ ap message_of is))
    ∙ ap (λ (u : Option Refusal). gate_row v g x c u y r)
    (sym verdict ∙ ap (λ (k : ℕ). gate_verdict g k row true y) (sym many) ∙ ap (λ (w : List ℕ). gate_verdict g (length y.peers) w true y) is)
    ∙ ap (λ (z : Result Cut Refusal). gate_cut v g x z y r) parts
