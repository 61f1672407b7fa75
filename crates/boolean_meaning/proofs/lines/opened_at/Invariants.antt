use Rattle.std.proofs.Common.{◌≡◌, ◌+◌, ◌≤◌, length, reverse}
use Rattle.boolean_programs.specs.Lines.{opened_at}
use Rattle.boolean_meaning.proofs.lines.opened_at.Given as goal

abbrev pub decreases-loop-line : goal.decreases-loop-line
decreases-loop-line l = length l.rest

abbrev pub invariant-loop-line : goal.invariant-loop-line
invariant-loop-line l = record { same : opened_at l.depth (reverse l.rest) ≡ opened_at 0 (reverse l.lines); room : l.depth + length l.rest ≤ length l.lines }
