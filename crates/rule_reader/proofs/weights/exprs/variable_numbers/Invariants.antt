use Rattle.std.proofs.Common.{◌≡◌, ◌++◌, length}
use Rattle.rule_reader.specs.TreeReads.{variables_among, numbers_of}
use Rattle.rule_reader.proofs.weights.exprs.variable_numbers.Given as goal

abbrev pub invariant-loop-lexeme : goal.invariant-loop-lexeme
invariant-loop-lexeme l =
    l.numbers.items ++ numbers_of l.items (variables_among l.left) ≡ numbers_of l.items (variables_among l.words)

abbrev pub decreases-loop-lexeme : goal.decreases-loop-lexeme
decreases-loop-lexeme l = length l.left
