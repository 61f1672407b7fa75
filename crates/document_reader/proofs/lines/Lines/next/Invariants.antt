use Rattle.std.proofs.Common.{◌≡◌, ◌≤◌, ◌+◌, ◌^◌, length}
use Rattle.document_reader.specs.LinesLeft.{left}
use Rattle.document_reader.proofs.lines.Lines.next.Given as goal

abbrev pub invariant-loop-self : goal.invariant-loop-self
invariant-loop-self l = record {
  room : l.self-inside.number + length l.self-inside.rest.now ≤ 2 ^ 63;
  left : left l.self-inside.number l.self-inside.rest.now ≡ l.fn.self;
}

abbrev pub decreases-loop-self : goal.decreases-loop-self
decreases-loop-self l = length l.self-inside.rest.now
