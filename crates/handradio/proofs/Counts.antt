-- A handheld holds keys for as many gates as the rules hold something for.
use Rattle.std.proofs.Common.{◌≡◌, length, sym, ◌∙◌}
use Rattle.endpoint.proofs.Tables.{counted}
use Rattle.handset.specs.declared.handset.Handset.{Handset}
use Rattle.handset.specs.State.{state_of}

pub many_of : (h : Handset) → length (state_of h).peers ≡ h.many
many_of h = counted h.many h.peers h.fits

-- no more and no fewer than before, if the rules say so
pub many_kept : (h k : Handset) → length (state_of k).peers ≡ length (state_of h).peers → k.many ≡ h.many
many_kept h k e = sym (many_of k) ∙ e ∙ many_of h
