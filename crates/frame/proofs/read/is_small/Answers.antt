use Rattle.std.proofs.Common.{◌^◌, ltb, ◌∙◌, rules, tests}
use Rattle.std.proofs.lemmas.Iterator.{YieldsList-from_slice}
use Rattle.std.proofs.lemmas.Iterator.Search.{all_from_yields_List}
use Rattle.frame.proofs.Small.{all_small}
use Rattle.frame.proofs.read.is_small.Goals as goal

pub returns : goal.returns
returns c =
    all_from_yields_List (λ x. ltb x (2 ^ 49)) _ _ _ c.all.ensures.ran (YieldsList-from_slice c.args.row.now cc) (λ x b f k. search (rules, tests))
    ∙ all_small c.args.row.now
