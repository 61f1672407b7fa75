use Rattle.std.proofs.Common.{◌≡◌, drop}
use Rattle.document_forms.specs.Lines.{counts}
use Rattle.document_reader.proofs.lines.counts.Given as goal

abbrev pub invariant-loop-byte : goal.invariant-loop-byte
invariant-loop-byte l = counts (drop l.byte-index l.line) ≡ counts l.line
