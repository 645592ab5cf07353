-- The bytes that wait for the rest of their block: the block completed, more bytes behind them, and the last block.
use Rattle.std.proofs.Common.{◌≡◌, ℕ, ◌+◌, ◌-◌, ◌<◌, ◌≤◌, List, [], ◌++◌, length, take, drop, sym, ap, append_assoc, arith, length-append, length-drop, length-take}
use borrow.Rule.Slice.PartMut.{put_mid}
use Rattle.std.proofs.lemmas.List.{drop_all, append-nil}
use Rattle.std.proofs.lemmas.Slice.{take-put_mid}
use Rattle.sponge.specs.Sponge.{absorb_block, delimited, shake_suffix, padded, absorbed, squeezed}
use Rattle.sponge.specs.Absorbing.{Absorbing}
use Rattle.sponge.specs.Output.{output}
use Rattle.sponge.proofs.Blocks.{absorbed_block, absorbed_last}

pub completed : (d filled : ℕ) (block head copied lanes state more : List ℕ) → length block ≡ 136 → length (take filled block) + length head ≡ 136 → filled < 136 → copied ≡ head
    → state ≡ absorb_block 136 (put_mid filled (136 - filled) block copied) lanes
    → absorbed 136 d more state ≡ absorbed 136 d (take filled block ++ (head ++ more)) lanes
completed d filled block head copied lanes state more size whole room copy entered =
    let none : length (drop filled block) ≤ 136 - filled = simp length-drop (omega arith) in
    let end = drop_all (136 - filled) (drop filled block) none in
    let nil = append-nil copied in
    let full : length (take filled block ++ head) ≡ 136 = simp length-append whole in
    let step = absorbed_block d (take filled block ++ head) more lanes full in
    let group = append_assoc (take filled block) head more in
    cc

pub put_behind : (filled : ℕ) (block tail copied more : List ℕ) → length block ≡ 136 → filled < 136 → copied ≡ tail
    → take (filled + length tail) (put_mid filled (filled + length tail - filled) block copied) ++ more ≡ take filled block ++ (tail ++ more)
put_behind filled block tail copied more size room copy =
    let inside : filled ≤ length block = omega arith in
    let end : filled + length tail ≡ filled + length copied = ap (λ z. filled + length z) (sym copy) in
    let written = take-put_mid filled (filled + length tail - filled) block copied (filled + length tail) end inside in
    let group = append_assoc (take filled block) tail more in
    cc

pub ended : (s : Absorbing) (n filled : ℕ) (block lanes last state out : List ℕ) → filled < 136
    → last ≡ padded 136 (delimited shake_suffix) (take filled block) → state ≡ absorb_block 136 last lanes → out ≡ squeezed 136 n state
    → record { lanes = lanes; waiting = take filled block } ≡ s
    → out ≡ output s [] n
unfolding output
ended s n filled block lanes last state out room padding entered read seen =
    let rest : List ℕ = take filled block in
    let short : length rest < 136 = simp length-take (omega arith) in
    let nil = append-nil rest in
    let step = absorbed_last 0x1f rest lanes short in
    rw (← seen) cc
