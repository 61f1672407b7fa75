use Rattle.std.proofs.Common.{◌≡◌, ◌≤◌, List, drop, length}
use Rattle.std.specs.Prelude.{Option}
use Rattle.saturation_laws.specs.declared.holding.Holding.{Holding}
use Rattle.saturation_laws.specs.States.{apply_all}
use Rattle.saturation_core.specs.private.Steps.{with_hands, IsKept}
use Rattle.saturation_core.proofs.found.Found.apply_changes.Given as goal

abbrev pub invariant-loop-change : goal.invariant-loop-change
invariant-loop-change g l =
    ((hands : List (Option (Holding g.row.S.Denot g.row.S-W.Denot g.row.S-Ret.Denot)))
    → apply_all (g.S.Semiring.operations l.semiring) (drop l.change-index l.changes) (with_hands l.self hands)
    ≡ apply_all (g.S.Semiring.operations l.semiring) l.changes (with_hands l.initial.self hands))
    × IsKept (g.S.Semiring.operations l.semiring) l.self
    × (length l.initial.self.graph.nodes ≤ length l.self.graph.nodes)
    × (l.self.graph.side ≡ l.initial.self.graph.side)
