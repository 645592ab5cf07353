-- For how many handhelds a gate holds something.
use Rattle.std.proofs.Common.{◌≡◌, ℕ, ◌≤◌, List, length, take, sym, ◌∙◌, arith}
use Rattle.endpoint.proofs.Tables.{counted}
use Rattle.gateway.specs.declared.gateway.Gateway.{Gateway}
use Rattle.gateway.specs.State.{state_of}
use Rattle.link.specs.declared.keys.HandKeys.{HandKeys}
use Rattle.link.specs.Gates.{GateRing}

pub peers_fit : (e : Gateway) → e.many ≤ length e.peers
peers_fit e = omega (arith, e.few, e.whole)

pub many_of : (e : Gateway) → length (state_of e).peers ≡ e.many
many_of e = counted e.many e.peers (peers_fit e)

-- no more and no fewer than before, if the rules say so
pub many_kept : (e f : Gateway) → length (state_of f).peers ≡ length (state_of e).peers → f.many ≡ e.many
many_kept e f h = sym (many_of f) ∙ h ∙ many_of e

-- the keys as an end with so many handhelds holds them
abbrev pub ring_at : (group : List ℕ) → List HandKeys → ℕ → GateRing
ring_at q ks n = record { group = q; peers = take n ks }
