use Rattle.std.proofs.Common.{◌≡◌, length}
use Rattle.rule_reader.specs.private.Returns.{are_pairs}
use Rattle.rule_reader.proofs.returns.are_moves.Given as goal

abbrev pub invariant-loop-rest : goal.invariant-loop-rest
invariant-loop-rest l = are_pairs l.left ≡ are_pairs l.words

abbrev pub decreases-loop-rest : goal.decreases-loop-rest
decreases-loop-rest l = length l.left
