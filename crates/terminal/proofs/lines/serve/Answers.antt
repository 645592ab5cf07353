use Rattle.std.proofs.Common.{◌∙◌, sym, ap, refl, rules}
use Rattle.terminal.specs.Lines.{Plays}
use Rattle.terminal.proofs.Playing.{next_line, none_played}
use Rattle.terminal.proofs.lines.serve.Goals as goal

pub loop-before-init : goal.loop-before-init
loop-before-init g c =
    let of = c.enumerate-before-items.ensures in
    let into = c.into_iter-before-iterator.ensures.into_iter_gives in
    (search rules, search rules, refl, refl, none_played _ _ _ _ _ _ _ _ (sym (ap (λ e. e.iter) into ∙ of.source)) (sym (ap (λ e. e.count) into ∙ of.count)))

pub returns-in_err-print-clause-played : goal.returns-in_err-print-clause-played
returns-in_err-print-clause-played g c =
    let (_, _, vault, index, so) = c.loop-before.invariant in
    let step = c.in-Some.ensures.steps in
    let played = next_line g.L.Iterator.next_gives (λ line. line.items) (λ w i. Plays (g.E.End.hears (g.V.Vault.holds w) i) (g.E.End.acts (g.V.Vault.holds w) i) g.E.End.delivered) _ _ _ _ _ _ _ _ _ _ _ _ so vault index step.1 c.in_ok-line.line c.next.new.self.iter (search rules) _ _ _ (rw c.as_slice.ensures.value at c.play_line-answer.ensures.plays) in
    (_, played.all)

pub loop-before-preserved : goal.loop-before-preserved
loop-before-preserved g c =
    let (_, _, vault, index, so) = c.loop-before.invariant in
    let step = c.in-Some.ensures.steps in
    let played = next_line g.L.Iterator.next_gives (λ line. line.items) (λ w i. Plays (g.E.End.hears (g.V.Vault.holds w) i) (g.E.End.acts (g.V.Vault.holds w) i) g.E.End.delivered) _ _ _ _ _ _ _ _ _ _ _ _ so vault index step.1 c.in_ok-line.line c.next.new.self.iter (search rules) _ _ _ (rw c.as_slice.ensures.value at c.play_line-answer.ensures.plays) in
    (search rules, search rules, c.play_line-answer.ensures.vault ∙ vault, c.play_line-answer.ensures.index ∙ index, rw step.2 played)
