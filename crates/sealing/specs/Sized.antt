-- SHAKE256 gives as many bytes as it is asked for.
use Rattle.std.specs.Prelude.{◌≡◌, ℕ, zero, suc, ◌+◌, ◌*◌, ◌/◌, ◌≤◌, List, length, replicate, refl}
use Rattle.std.proofs.Math.Nat.{min-eq_left}
use Rattle.std.proofs.Common.{arith, length-append, length-take}
use Rattle.sponge.specs.Sponge.{shake_suffix, delimited, absorbed, trunc, squeeze, squeezed, keccak, shake256}

length-trunc : (n : ℕ) (S : List ℕ) → length (trunc n S) ≡ 8 * n
unfolding trunc
length-trunc zero S = refl
length-trunc (suc n) S = rw (length-append, length-trunc n) (omega arith)

length-squeeze : (n : ℕ) (S : List ℕ) → length (squeeze 136 n S) ≡ 136 * n
unfolding squeeze
length-squeeze zero S = refl
length-squeeze (suc n) S = rw (length-append, length-trunc, length-squeeze n) (omega arith)

pub length-shake256 : (M : List ℕ) (n : ℕ) → length (shake256 M n) ≡ n
unfolding shake256 keccak squeezed
length-shake256 M n =
    let l = length-squeeze (n / 136 + 1) (absorbed 136 (delimited shake_suffix) M (replicate 25 0)) in
    let h : n ≤ 136 * (n / 136 + 1) = omega arith in
    rw (length-take, l) (min-eq_left h)
