use Rattle.std.proofs.Common.{◌≡◌, ◌++◌, suc, drop}
use Rattle.config_patterns.specs.Edges.{edges_from, edges_of}
use Rattle.config_patterns.proofs.edge_list.list_edges.Given as goal

abbrev pub invariant-loop-i : goal.invariant-loop-i
invariant-loop-i l = l.edges.items ++ edges_from (suc l.i) (drop l.i l.items) ≡ edges_of l.items
