use Rattle.std.proofs.Common.{◌≡◌, map, take}
use Rattle.witness_graph.specs.Nodes.{node_at}
use Rattle.witness_graph.specs.Order.{renamed}
use Rattle.witness_graph.specs.private.Paging.{place_on}
use Rattle.witness_graph.proofs.order.renumber.Given as goal

abbrev pub invariant-loop-number : goal.invariant-loop-number
invariant-loop-number l = l.list.items ≡ map (λ k. renamed (place_on l.places) (node_at l.nodes k)) (take l.number-index l.order)
