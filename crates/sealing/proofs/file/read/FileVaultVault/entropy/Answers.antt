use Rattle.std.proofs.Common.{◌+◌, ◌*◌, ◌/◌, ℕ, List, length, drop, sym, ap, ◌∙◌, subst}
use Rattle.std.specs.Simd.{first_chunks}
use Rattle.sealing.proofs.Chunks.{Nth, nth_chunk}
use Rattle.sealing.proofs.file.read.FileVaultVault.entropy.Goals as goal

pub returns : goal.returns
returns c =
    let x : List ℕ = drop (c.args.self.now.first + 32 * c.args.self.now.peers) c.args.self.now.file.items in
    let chunks = c.as_chunks.ensures.front ∙ ap (λ (y : List ℕ). first_chunks 21 (length y / 21) y) c.all_entropy.ensures in
    subst (Nth x c.args.n) (sym c.copied.ensures)
    (nth_chunk x c.args.n c.as_chunks.result.0.now c.get.result chunks c.get.ensures.lookup.0 c.get.ensures.lookup.1)
