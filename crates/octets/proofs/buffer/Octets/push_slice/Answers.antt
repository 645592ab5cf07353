use Rattle.std.proofs.Common.{◌≡◌, ℕ, ◌+◌, ◌-◌, List, length, take, drop, replicate, rules, arith, ap, ◌∙◌, drop-drop}
use Rattle.std.proofs.lemmas.List.{drop-replicate}
use Rattle.std.proofs.lemmas.Slice.{overwrites, drop-put_mid}
use Rattle.octets.specs.Buffer.{IsFilled, length_written}
use Rattle.octets.proofs.buffer.Octets.push_slice.Goals as goal

noughts_behind : (bytes : List ℕ) (len n : ℕ) → IsFilled bytes len → drop (len + n) bytes ≡ replicate (140 - (len + n)) 0
noughts_behind bytes len n h =
    let fewer : 140 - len - n ≡ 140 - (len + n) = omega arith in
    rw (← drop-drop n len bytes, h.noughts, drop-replicate, fewer)

-- what stands behind the part is not touched
pub invariant_of-self : goal.invariant_of-self
invariant_of-self c =
    let inside = c.self.inside in
    let n = length c.args.part.now in
    let written : length (take inside.len inside.bytes) ≡ inside.len = length_written inside.bytes inside.len c.self.invariant in
    let seen : length (take inside.len inside.bytes) ≡ length c.args.self.now = ap length c.self.view_is in
    record {
      fits = omega arith;
      whole = search (rules, overwrites);
      noughts =
          drop-put_mid inside.len _ inside.bytes c.copy_from_slice.new.self (inside.len + n) (omega arith) (omega arith) (omega arith)
          ∙ noughts_behind inside.bytes inside.len n c.self.invariant;
    }
