use Rattle.std.proofs.Common.{◌≡◌, take}
use Rattle.relation_weights.specs.Actions.{numbers}
use Rattle.relation_weights.proofs.actions.numbers_of.Given as goal

abbrev pub invariant-loop-target : goal.invariant-loop-target
invariant-loop-target l = l.list.items ≡ numbers (take l.target-index l.targets)
