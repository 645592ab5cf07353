use Rattle.frame.proofs.Extended.{fits, padding_stays, holds_more}
use Rattle.frame.proofs.row.Row.then.Goals as goal

pub invariant_of-result : goal.invariant_of-result
invariant_of-result g c =
    let holds = c.self.view_is in
    let held = c.self.invariant in
    let same = c.copy_from_slice.ensures.len in
    (fits _ _ _ _ _ holds held.0 held.1 c.requires same, padding_stays _ _ _ _ _ holds held.0 held.1 c.requires same)

pub returns : goal.returns
returns g c =
    holds_more _ _ _ _ _ c.self.view_is c.self.invariant.0 c.self.invariant.1 c.requires c.copy_from_slice.ensures.len _ c.copy_from_slice.ensures.after
