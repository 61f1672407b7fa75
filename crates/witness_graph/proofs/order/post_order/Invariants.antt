use Rattle.std.proofs.Common.{◌+◌, ◌-◌, ◌*◌, length}
use Rattle.witness_graph.specs.private.Walking.{IsWalking, unlisted}
use Rattle.witness_graph.specs.private.Paging.{place_on}
use Rattle.witness_graph.proofs.order.post_order.Given as goal

abbrev pub invariant-walk : goal.invariant-walk
invariant-walk l = IsWalking l.nodes l.root l.stack.items l.order.items (place_on l.places)

-- each turn lists a node, or goes one deeper
abbrev pub decreases-walk : goal.decreases-walk
decreases-walk l = unlisted (l.root + 1) l.order.items * (l.root + 2) + (l.root + 1 - length l.stack.items)
