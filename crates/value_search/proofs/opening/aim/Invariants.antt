use Rattle.std.proofs.Common.{◌≡◌, ℕ, suc, ◌<◌}
use Rattle.std.specs.Prelude.{Some, IsTrue}
use Rattle.semiring_laws.specs.Semiring.{Below}
use Rattle.config_patterns.specs.Edges.{leads_to}
use Rattle.value_search.specs.Views.{weights}
use Rattle.value_search.specs.Finds.{IsOnward}
use Rattle.value_search.proofs.EdgeLemmas.{IsPassed}
use Rattle.value_search.proofs.opening.aim.Given as goal

abbrev pub invariant-loop-k : goal.invariant-loop-k
invariant-loop-k g l =
    let p = l.system in
    let s = g.S.Semiring.operations p.semiring in
    IsOnward s p (Some l.target) l.initial.tables l.tables
    × (l.tables.hand ≡ s.one)
    × IsPassed l.target.items 0 l.k
    × ((h j : ℕ) → j < l.k → IsTrue (leads_to l.target.items j h) → Below s (weights s l.tables.target l.target.control h (suc j)) s.one)
