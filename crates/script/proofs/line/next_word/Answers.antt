use Rattle.std.proofs.Common.{◌≢◌, length, sym, arith, rules, tests}
use Rattle.std.proofs.lemmas.Iterator.{first_from_Range}
use Rattle.std.proofs.lemmas.Bool.{eqb-false}
use Rattle.script.proofs.Cuts.{Ends, IsBlankAt, IsDarkAt, one_word}
use Rattle.script.proofs.line.next_word.Goals as goal

pub returns : goal.returns
returns c =
    let l = c.trim_start-line.result.now in
    let some : length l ≢ 0 = eqb-false (length l) 0 (sym c.if-is_empty.ensures) in
    let ends : Ends l c.find.result = first_from_Range _ _ _ _ (IsBlankAt l) (IsDarkAt l) c.find.ensures.ran (λ x q k. search (rules, tests)) (λ x q k. search (rules, tests)) in
    let word = one_word l (omega arith) c.trim_start-line.ensures.dark c.find.result ends in
    search rules
