use Rattle.std.proofs.Common.{◌≡◌, ◌+◌, ◌*◌, ◌≤◌, ◌++◌, length, get_or, sym, refl, ap, ◌∙◌, add-one, arith, rules}
use Rattle.std.proofs.lemmas.List.{places, get_or-take}
use Rattle.std.proofs.lemmas.Slice.{take-put_mid}
use Rattle.sponge.specs.Sponge.{trunc, to_bytes}
use Rattle.sponge.proofs.block.read.Goals as goal

pub loop-i-init : goal.loop-i-init
unfolding trunc
loop-i-init c = (refl, refl)

pub loop-i-preserved : goal.loop-i-preserved
unfolding trunc
loop-i-preserved c =
    let a : 8 * c.loop-i.i ≤ length c.loop-i.block = omega (arith, c.loop-i.invariant.0) in
    let y : c.copy_from_slice.new.self ≡ to_bytes (get_or c.args.lanes.now c.loop-i.i 0) = c.copy_from_slice.ensures.after ∙ c.to_le_bytes.ensures ∙ ap to_bytes (get_or-take 17 c.args.lanes.now c.loop-i.i 0 (omega arith)) in
    let l : 8 * (c.loop-i.i + 1) ≡ 8 * c.loop-i.i + length c.copy_from_slice.new.self = omega (arith, ap length y) in (
      search (rules, places),
      take-put_mid (8 * c.loop-i.i) _ c.loop-i.block c.copy_from_slice.new.self (8 * (c.loop-i.i + 1)) l a
          ∙ ap (λ z. z ++ c.copy_from_slice.new.self) c.loop-i.invariant.1
          ∙ ap (λ z. trunc c.loop-i.i c.args.lanes.now ++ z) y
          ∙ ap (λ n. trunc n c.args.lanes.now) (sym (add-one c.loop-i.i)),
    )
