use Rattle.std.proofs.Common.{inl, inr, ◌≡◌, ◌⊎◌, get_or, sym, ◌∙◌, arith}
use borrow.Author.Tests.{ltb-true}
use Rattle.octets.proofs.Cuts.{cut_empty, cut_by, cut_unknown}
use Rattle.octets.proofs.parts.Cut.parse.Goals as goal
use Rattle.octets.proofs.parts.Cut.parse.Goals.{in_default-via-then-bytes-lt1, in_default-via-else-bytes-lt1+in_default-1}

pub returns-in-0-clause-parts : goal.returns-in-0-clause-parts
returns-in-0-clause-parts c = c.begin.ensures.parts ∙ sym (cut_by 0 _ (omega arith) (omega arith))

pub returns-in-1-clause-parts : goal.returns-in-1-clause-parts
returns-in-1-clause-parts c =
    let kind : (get_or c.args.bytes.now 0 0 ≡ 1) ⊎ (get_or c.args.bytes.now 0 0 ≡ 3) = grind arith in
    elim kind [ inl e ↦ c.answer.ensures.reply ∙ sym (cut_by 1 _ (grind arith) e) | inr e ↦ c.answer.ensures.taken ∙ sym (cut_by 3 _ (grind arith) e) ]

pub returns-in-2-clause-parts : goal.returns-in-2-clause-parts
returns-in-2-clause-parts c = c.take.ensures.parts ∙ sym (cut_by 2 _ (omega arith) (omega arith))

pub returns-in-4-clause-parts : goal.returns-in-4-clause-parts
returns-in-4-clause-parts c = c.renew.ensures.parts ∙ sym (cut_by 4 _ (omega arith) (omega arith))

pub returns-in-5-clause-parts : goal.returns-in-5-clause-parts
returns-in-5-clause-parts c = c.load.ensures.parts ∙ sym (cut_by 5 _ (omega arith) (omega arith))

pub returns-in-6-clause-parts : goal.returns-in-6-clause-parts
returns-in-6-clause-parts c = c.all.ensures.parts ∙ sym (cut_by 6 _ (omega arith) (omega arith))

pub returns-in_default-clause-parts : goal.returns-in_default-clause-parts
returns-in_default-clause-parts c =
    elim c.in_default.branch [ in_default-via-then-bytes-lt1 w ↦ sym (cut_empty c.args.bytes.now (omega (arith, ltb-true))) | in_default-via-else-bytes-lt1+in_default-1 w ↦ sym (cut_unknown c.args.bytes.now (grind arith) (omega (arith, ltb-true))) ]
