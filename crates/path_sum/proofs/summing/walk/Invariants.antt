use Rattle.std.proofs.Common.{◌≡◌}
use Rattle.path_sum.specs.private.Growing.{state_of}
use Rattle.path_sum.specs.private.Rounds.{IsUnderWay, input_of}
use Rattle.path_sum.proofs.RoundLemmas.{left_of}
use Rattle.path_sum.proofs.summing.walk.Given as goal

abbrev pub invariant-rounds : goal.invariant-rounds
invariant-rounds g l =
    IsUnderWay (g.S.Semiring.operations l.system.semiring)
    (input_of g.S.Semiring.operations g.D.Direction.way l.system l.direction l.opening l.transitions.transitions l.graph.nodes l.pattern)
    l.graph.nodes (state_of l.sum) × (l.sum.nodes.graph ≡ l.graph)

abbrev pub decreases-rounds : goal.decreases-rounds
decreases-rounds g l =
    left_of (g.S.Semiring.operations l.system.semiring)
    (input_of g.S.Semiring.operations g.D.Direction.way l.system l.direction l.opening l.transitions.transitions l.graph.nodes l.pattern)
    l.graph.nodes (state_of l.sum)
