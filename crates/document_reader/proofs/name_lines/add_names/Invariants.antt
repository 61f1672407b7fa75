use Rattle.std.proofs.Common.{length}
use Rattle.document_reader.proofs.NameLineLemmas.{StillAdds}
use Rattle.document_reader.proofs.name_lines.add_names.Given as goal

abbrev pub invariant-loop-lexeme : goal.invariant-loop-lexeme
invariant-loop-lexeme l = StillAdds l.fn.table l.table l.left l.words l.twice

abbrev pub decreases-loop-lexeme : goal.decreases-loop-lexeme
decreases-loop-lexeme l = length l.left
