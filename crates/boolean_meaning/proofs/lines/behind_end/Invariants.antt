use Rattle.std.proofs.Common.{◌≡◌, ◌+◌, ◌≤◌, length}
use Rattle.boolean_programs.specs.Lines.{behind_end}
use Rattle.boolean_meaning.proofs.lines.behind_end.Given as goal

abbrev pub decreases-loop-line : goal.decreases-loop-line
decreases-loop-line l = length l.rest

abbrev pub invariant-loop-line : goal.invariant-loop-line
invariant-loop-line l = record { same : behind_end l.depth l.rest ≡ behind_end 0 l.lines; room : l.depth + length l.rest ≤ length l.lines }
