use Rattle.std.proofs.Common.{◌≡◌, ◌≤◌, ◌+◌, ◌^◌, length}
use Rattle.document_forms.specs.Lines.{lines}
use Rattle.document_reader.proofs.lines.Lines.after.Given as goal

abbrev pub invariant-loop-rest : goal.invariant-loop-rest
invariant-loop-rest l = record {
  room : l.number + length l.rest ≤ 2 ^ 63;
  after : length (lines l.rest) + l.number ≡ l.fn.self.after;
}

abbrev pub decreases-loop-rest : goal.decreases-loop-rest
decreases-loop-rest l = length l.rest
