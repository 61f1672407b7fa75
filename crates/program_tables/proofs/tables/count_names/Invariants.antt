use Rattle.std.proofs.Common.{◌≡◌, ◌+◌, length}
use Rattle.document_reader.specs.NameLines.{names_in}
use Rattle.program_tables.proofs.tables.count_names.Given as goal

abbrev pub invariant-loop-lexeme : goal.invariant-loop-lexeme
invariant-loop-lexeme l = l.count + length (names_in l.left) ≡ length (names_in l.words)

abbrev pub decreases-loop-lexeme : goal.decreases-loop-lexeme
decreases-loop-lexeme l = length l.left
