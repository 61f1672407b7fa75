use Rattle.std.proofs.Common.{◌≡◌, List, drop}
use Rattle.std.specs.Prelude.{Option}
use Rattle.saturation_laws.specs.declared.holding.Holding.{Holding}
use Rattle.saturation_laws.specs.States.{apply_all}
use Rattle.saturation_laws.specs.Openings.{pops_from}
use Rattle.saturation_core.specs.private.Steps.{with_hands, IsKept}
use Rattle.saturation_core.proofs.found.Found.add_pops.Given as goal

abbrev pub invariant-loop-k : goal.invariant-loop-k
invariant-loop-k g l =
    ((hands : List (Option (Holding g.row.S.Denot g.row.S-W.Denot g.row.S-Ret.Denot)))
    → apply_all (g.S.Semiring.operations l.system.semiring) (pops_from l.k (drop l.k l.system.rules)) (with_hands l.self hands)
    ≡ apply_all (g.S.Semiring.operations l.system.semiring) (pops_from 0 l.system.rules) (with_hands l.initial.self hands))
    × IsKept (g.S.Semiring.operations l.system.semiring) l.self
    × (l.self.graph.side ≡ l.initial.self.graph.side)
