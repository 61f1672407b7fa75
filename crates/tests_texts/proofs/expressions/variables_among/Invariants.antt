use Rattle.std.proofs.Common.{length}
use Rattle.tests_texts.proofs.expressions.variables_among.Given as goal

abbrev pub decreases-loop-lexeme : goal.decreases-loop-lexeme
decreases-loop-lexeme l = length l.left
