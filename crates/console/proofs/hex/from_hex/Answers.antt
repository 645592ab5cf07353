use Rattle.std.proofs.Common.{inl, inr, arith}
use Rattle.std.proofs.lemmas.List.{take_rest}
use Rattle.console.proofs.Digits.{at_first, no_message, one_byte}
use Rattle.console.proofs.hex.from_hex.Goals as goal
use Rattle.console.proofs.hex.from_hex.Goals.{then-digits-eq1-via-then-digits-eq1, then-digits-eq1-via-else-digits-eq1+then-digits-gt280}

pub returns-then-digits-eq1 : goal.returns-then-digits-eq1
returns-then-digits-eq1 c = no_message c.args.digits.now (elim c.then-digits-eq1.branch [ then-digits-eq1-via-then-digits-eq1 w ↦ inl (omega (arith, w.if-digits-eq1.true)) | then-digits-eq1-via-else-digits-eq1+then-digits-gt280 w ↦ inr (omega (arith, w.if-digits-gt280.true)) ])

pub loop-rest-init : goal.loop-rest-init
loop-rest-init c = rw (c.new-octets.ensures) (at_first c.args.digits.now (omega (arith, c.if-digits-eq1.false)) (omega (arith, c.if-digits-gt280.false)))

pub loop-rest-preserved : goal.loop-rest-preserved
loop-rest-preserved c =
    let pushed = c.in_ok-push.ensures in
    rw (take_rest c.loop-rest.rest.now 2, pushed.1) (one_byte _ _ _ _ c.in-len2-up.len_at_least c.loop-rest.invariant c.in_ok-byte.ensures pushed.0)
