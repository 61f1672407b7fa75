use Rattle.std.proofs.Common.{length}
use Rattle.std.specs.Prelude.{option_map}
use Rattle.pushdown_rules.specs.Rows.{pushes_over}
use Rattle.weight_tables.proofs.CallerLemmas.{IsRowWalk, to_go}
use Rattle.value_search.specs.Views.{found}
use Rattle.value_search.specs.Finds.{IsOnward}
use Rattle.value_search.specs.Met.{IsOverMet}
use Rattle.value_search.proofs.take.meet_row_over.Given as goal

abbrev pub invariant-row : goal.invariant-row
invariant-row g l =
    let p = l.system in
    let s = g.S.Semiring.operations p.semiring in
    let target = option_map (λ t. t.now) l.target in
    IsOnward s p target l.initial.tables l.tables × IsRowWalk (pushes_over l.at.symbol) p.rules l.next (λ k. IsOverMet s p target k l.at.from l.at.symbol l.at.to l.tables.base (found target l.tables))

abbrev pub decreases-row : goal.decreases-row
decreases-row g l = to_go (length l.system.rules) l.next
