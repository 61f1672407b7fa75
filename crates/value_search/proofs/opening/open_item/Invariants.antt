use Rattle.std.proofs.Common.{◌≡◌, ℕ, ◌+◌, ◌<◌, get_or}
use Rattle.std.specs.Prelude.{Some}
use Rattle.semiring_laws.specs.Semiring.{Below}
use Rattle.value_search.specs.Views.{weights}
use Rattle.value_search.specs.Finds.{IsOnward}
use Rattle.value_search.proofs.opening.open_item.Given as goal

abbrev pub invariant-loop-i : goal.invariant-loop-i
invariant-loop-i g l =
    let p = l.system in
    let s = g.S.Semiring.operations p.semiring in
    IsOnward s p (Some l.target) l.initial.tables l.tables
    × (l.tables.hand ≡ s.one)
    × ((j : ℕ) → j < l.i → Below s (weights s l.tables.target l.target.control (get_or l.set j 0) (l.k + 1)) s.one)
