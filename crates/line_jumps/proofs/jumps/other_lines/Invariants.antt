use Rattle.std.proofs.Common.{◌≡◌, ◌++◌, [], take, drop, reverse}
use Rattle.line_jumps.specs.Jumps.{others}
use Rattle.line_jumps.specs.private.Blocks.{lines_ahead, AreOpened}
use Rattle.line_jumps.proofs.jumps.other_lines.Given as goal

abbrev pub invariant-loop-line : goal.invariant-loop-line
invariant-loop-line l = record {
  ahead : l.ahead.items ≡ reverse (lines_ahead (drop l.line-index l.body));
  opened : AreOpened (reverse l.opened.items) (reverse (take l.line-index l.body));
  lines : others [] l.body ≡ l.lines.items ++ others (reverse (take l.line-index l.body)) (drop l.line-index l.body);
}
