use Rattle.std.proofs.Common.{◌≡◌, ℕ, ◌+◌, ◌-◌, ◌*◌, ◌/◌, ◌≤◌, length, take, drop, ap, ◌∙◌, append_assoc, arith, length-drop, length-take}
use Rattle.std.proofs.lemmas.List.{drop_all, append-nil}
use Rattle.std.proofs.lemmas.Slice.{take-put_mid}
use Rattle.sponge.specs.Sponge.{trunc, squeezed}
use Rattle.sponge.proofs.Blocks.{length-trunc, squeezed_more, squeezed_last}
use Rattle.sponge.proofs.block.squeeze.Goals as goal

pub loop-i-preserved : goal.loop-i-preserved
loop-i-preserved c =
    let L : ℕ = length c.args.out.now in
    let at : ℕ = 136 * c.loop-i.i in
    let y : c.copy_from_slice.new.self ≡ trunc 17 c.loop-i.lanes = c.copy_from_slice.ensures.after ∙ c.next_block.ensures.block in
    let k : length c.loop-i.out ≡ L = c.loop-i.auto.out in
    let a : at ≤ length c.loop-i.out = omega arith in
    let more : 136 ≤ L - at = omega arith in
    let n : 136 * (c.loop-i.i + 1) ≡ at + length c.copy_from_slice.new.self = omega (arith, ap length y, length-trunc 17 c.loop-i.lanes) in
    let d : L - 136 * (c.loop-i.i + 1) ≡ L - at - 136 = omega arith in
    let written = take-put_mid at (136 * (c.loop-i.i + 1) - at) c.loop-i.out c.copy_from_slice.new.self (136 * (c.loop-i.i + 1)) n a in
    let step = squeezed_more (L - at) c.loop-i.lanes more in
    let group = append_assoc (take at c.loop-i.out) (trunc 17 c.loop-i.lanes) (squeezed 136 (L - at - 136) c.next_block.new.lanes) in
    let i = c.loop-i.invariant in
    cc

pub returns : goal.returns
returns c =
    let L : ℕ = length c.args.out.now in
    let at : ℕ = 136 * (c.saturating_sub-last.result / 136) in
    let end : 136 * c.loop-i.i ≡ at = omega arith in
    let k : length c.loop-i.out ≡ L = c.loop-i.auto.out in
    let few : L - at ≤ 136 = omega arith in
    let none : length (drop at c.loop-i.out) ≤ length c.loop-i.out - at = simp length-drop (omega arith) in
    let e = drop_all (length c.loop-i.out - at) (drop at c.loop-i.out) none in
    let z : length (take (length c.loop-i.out - at) (drop at c.loop-i.out)) ≡ L - at = simp (length-take, length-drop) (omega arith) in
    let y : c.copy_from_slice-2.new.self ≡ take (L - at) c.read.result =
    c.copy_from_slice-2.ensures.after ∙ ap (λ n. take n c.read.result) z in
    let n = append-nil c.copy_from_slice-2.new.self in
    let step = squeezed_last (L - at) c.loop-i.lanes few in
    let i = c.loop-i.invariant in
    cc
