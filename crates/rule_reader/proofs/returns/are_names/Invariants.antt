use Rattle.std.proofs.Common.{◌≡◌, length}
use Rattle.std.specs.List.{list_all}
use Rattle.rule_reader.specs.private.Returns.{is_any_name}
use Rattle.rule_reader.proofs.returns.are_names.Given as goal

abbrev pub invariant-loop-lexeme : goal.invariant-loop-lexeme
invariant-loop-lexeme l = list_all is_any_name l.left ≡ list_all is_any_name l.words

abbrev pub decreases-loop-lexeme : goal.decreases-loop-lexeme
decreases-loop-lexeme l = length l.left
