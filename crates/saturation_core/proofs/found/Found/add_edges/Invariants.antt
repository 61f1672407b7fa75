use Rattle.std.proofs.Common.{◌≡◌, ◌<◌, List, drop, length}
use Rattle.std.specs.Prelude.{Option}
use Rattle.saturation_laws.specs.declared.holding.Holding.{Holding}
use Rattle.saturation_laws.specs.Openings.{with_edges}
use Rattle.saturation_core.specs.private.Steps.{with_hands, IsKept}
use Rattle.saturation_core.proofs.found.Found.add_edges.Given as goal

abbrev pub invariant-loop-edge : goal.invariant-loop-edge
invariant-loop-edge g l =
    ((hands : List (Option (Holding g.row.S.Denot g.row.S-W.Denot g.row.S-Ret.Denot)))
    → with_edges (g.S.Semiring.operations l.semiring) (drop l.edge-index l.edges) (with_hands l.self hands)
    ≡ with_edges (g.S.Semiring.operations l.semiring) l.edges (with_hands l.initial.self hands))
    × IsKept (g.S.Semiring.operations l.semiring) l.self
    × (0 < length l.self.graph.nodes)
    × (l.self.graph.side ≡ l.initial.self.graph.side)
