use Rattle.std.proofs.Common.{◌≡◌, ◌≤◌, length, drop, reverse}
use Rattle.boolean_programs.specs.Lines.{first_line}
use Rattle.line_jumps.specs.private.Blocks.{lines_ahead, AreEnds}
use Rattle.line_jumps.proofs.jumps.lines_ahead.Given as goal

abbrev pub decreases-loop-place : goal.decreases-loop-place
decreases-loop-place l = l.place

abbrev pub invariant-loop-place : goal.invariant-loop-place
invariant-loop-place l = record {
  within : l.place ≤ length l.body;
  ahead : l.ahead.items ≡ reverse (lines_ahead (drop l.place l.body));
  ends : AreEnds (reverse l.blocks.items) (drop l.place l.body);
  next : l.next ≡ first_line (drop l.place l.body);
}
