use Rattle.std.proofs.Common.{◌≡◌, ◌++◌, length}
use Rattle.document_reader.specs.NameLines.{names_in}
use Rattle.boolean_syntax.proofs.procs.add_texts.Given as goal

-- The names that are left are added to those that were.
abbrev pub invariant-loop-lexeme : goal.invariant-loop-lexeme
invariant-loop-lexeme l = l.texts.items ++ names_in l.left ≡ l.initial.texts.items ++ names_in l.words

abbrev pub decreases-loop-lexeme : goal.decreases-loop-lexeme
decreases-loop-lexeme l = length l.left
