use Rattle.std.proofs.Common.{◌≡◌, length}
use Rattle.document_forms.specs.Names.{has_unknown}
use Rattle.rule_reader.specs.TreeReads.{variables_among}
use Rattle.rule_reader.proofs.weights.exprs.has_unknown_variable.Given as goal

abbrev pub invariant-loop-lexeme : goal.invariant-loop-lexeme
invariant-loop-lexeme l =
    has_unknown l.items (variables_among l.left) ≡ has_unknown l.items (variables_among l.words)

abbrev pub decreases-loop-lexeme : goal.decreases-loop-lexeme
decreases-loop-lexeme l = length l.left
