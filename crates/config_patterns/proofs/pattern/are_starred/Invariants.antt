use Rattle.std.proofs.Common.{◌≡◌, drop}
use Rattle.std.specs.List.{list_all}
use Rattle.config_patterns.specs.Edges.{is_starred}
use Rattle.config_patterns.proofs.pattern.are_starred.Given as goal

abbrev pub invariant-loop-item : goal.invariant-loop-item
invariant-loop-item l = list_all is_starred (drop l.item-index l.items) ≡ list_all is_starred l.items
