use Rattle.std.proofs.Common.{◌^◌}
use Rattle.std.specs.Prelude.{None}
use Rattle.weighted_automata.specs.declared.place.Label.TheVariants.{Symbol}
use Rattle.weight_tables.specs.Entries.{is_from}
use Rattle.weight_tables.proofs.CallerLemmas.{IsRowWalk, to_go}
use Rattle.value_search.specs.Finds.{IsOnward}
use Rattle.value_search.specs.Met.{IsHeld, call_worth}
use Rattle.value_search.proofs.SecondLemmas.{IsSecondMet}
use Rattle.value_search.proofs.meet.meet_seconds.Given as goal

abbrev pub invariant-row : goal.invariant-row
invariant-row g l =
    let p = l.system in
    let s = g.S.Semiring.operations p.semiring in
    IsOnward s p None l.initial.tables l.tables
    × IsHeld s p None (call_worth s) l.k l.at.from l.at.symbol l.at.to l.tables
    × IsRowWalk (is_from l.at.to (Symbol l.below)) l.tables.base l.next (IsSecondMet s p l.k l.at.from l.at.symbol l.at.to l.below l.tables.base)

abbrev pub decreases-row : goal.decreases-row
decreases-row g l = to_go (2 ^ 32) l.next
