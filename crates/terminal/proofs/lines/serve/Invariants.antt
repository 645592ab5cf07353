use Rattle.std.proofs.Common.{◌≡◌}
use Rattle.terminal.specs.Lines.{Plays}
use Rattle.terminal.proofs.Playing.{Played}
use Rattle.terminal.proofs.lines.serve.Given as goal

abbrev pub invariant-loop-before : goal.invariant-loop-before
invariant-loop-before g l =
    let v = g.V.Vault.holds l.initial.terminal.vault in
    let i = l.initial.terminal.index in
    (goal.iterator-loop-before g).can_next l.before-iterator
    × (goal.iterator-loop-before g).is_finite l.before-iterator
    × (l.terminal.vault ≡ l.initial.terminal.vault)
    × (l.terminal.index ≡ l.initial.terminal.index)
    × Played g.L.Iterator.next_gives (λ line. line.items) (Plays (g.E.End.hears v i) (g.E.End.acts v i) g.E.End.delivered) l.fn.lines (g.E.End.held l.initial.terminal.link) (g.E.End.ring l.initial.terminal.link) l.before-iterator.count l.before-iterator.iter (g.E.End.held l.terminal.link) (g.E.End.ring l.terminal.link)
