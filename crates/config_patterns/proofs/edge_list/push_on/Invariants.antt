use Rattle.std.proofs.Common.{◌≡◌, ◌++◌, suc, drop}
use Rattle.config_patterns.specs.Edges.{edges_on}
use Rattle.config_patterns.proofs.edge_list.push_on.Given as goal

abbrev pub invariant-loop-i : goal.invariant-loop-i
invariant-loop-i l = l.edges.items ++ edges_on l.from (suc l.i) (drop l.i l.items) ≡ l.initial.edges.items ++ edges_on l.from (suc l.from) (drop l.from l.items)
