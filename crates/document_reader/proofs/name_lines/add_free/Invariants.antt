use Rattle.std.proofs.Common.{◌≡◌, length}
use Rattle.std.specs.List.{list_all}
use Rattle.document_reader.specs.NameLines.{is_free}
use Rattle.document_reader.proofs.NameLineLemmas.{StillAdds}
use Rattle.document_reader.proofs.name_lines.add_free.Given as goal

abbrev pub invariant-loop-lexeme : goal.invariant-loop-lexeme
invariant-loop-lexeme l = record {
  free : list_all is_free l.left ≡ list_all is_free l.words;
  adds : StillAdds l.fn.table l.table l.left l.words l.twice;
}

abbrev pub decreases-loop-lexeme : goal.decreases-loop-lexeme
decreases-loop-lexeme l = length l.left
