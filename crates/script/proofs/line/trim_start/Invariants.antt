use Rattle.std.proofs.Common.{◌≡◌, length}
use Rattle.script.specs.Line.{words}
use Rattle.script.proofs.line.trim_start.Given as goal

abbrev pub invariant-loop-line : goal.invariant-loop-line
invariant-loop-line l = words l.line ≡ words l.fn.line

abbrev pub decreases-loop-line : goal.decreases-loop-line
decreases-loop-line l = length l.line
