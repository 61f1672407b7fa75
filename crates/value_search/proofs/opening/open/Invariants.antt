use Rattle.std.proofs.Common.{◌≡◌, ℕ, ◌<◌, []}
use Rattle.std.specs.Prelude.{None, Some, slice_get}
use Rattle.semiring_laws.specs.Semiring.{Below}
use Rattle.pushdown_rules.specs.declared.rule.Rule.{Rule}
use Rattle.value_search.specs.Views.{weights}
use Rattle.value_search.specs.Finds.{IsOnward}
use Rattle.value_search.proofs.opening.open.Given as goal

abbrev pub invariant-loop-k : goal.invariant-loop-k
invariant-loop-k g l =
    let p = l.system in
    let s = g.S.Semiring.operations p.semiring in
    IsOnward s p None l.initial.tables l.tables
    × ((k : ℕ) → k < l.k → (r : Rule g.row.S.Denot g.row.S-W.Denot g.row.S-Ret.Denot) → slice_get p.rules k ≡ Some r → r.right ≡ []
    → Below s (weights s l.tables.base r.control r.symbol r.to) r.weight)
