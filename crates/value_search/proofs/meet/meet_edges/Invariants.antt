use Rattle.std.proofs.Common.{suc, length}
use Rattle.std.specs.Prelude.{Some}
use Rattle.value_laws.specs.Settled.{first_worth}
use Rattle.weight_tables.proofs.CallerLemmas.{to_go}
use Rattle.value_search.specs.Finds.{IsOnward}
use Rattle.value_search.specs.Met.{IsHeld}
use Rattle.value_search.proofs.EdgeLemmas.{IsEdgeWalk}
use Rattle.value_search.proofs.SecondLemmas.{IsOpenMet}
use Rattle.value_search.proofs.meet.meet_edges.Given as goal

abbrev pub invariant-edges : goal.invariant-edges
invariant-edges g l =
    let p = l.system in
    let s = g.S.Semiring.operations p.semiring in
    IsOnward s p (Some l.target) l.initial.tables l.tables
    × IsHeld s p (Some l.target) (first_worth s) l.k l.at.from l.at.symbol l.at.to l.tables
    × IsEdgeWalk l.target.items l.at.to l.below l.next (IsOpenMet s p l.k l.at.from l.at.symbol l.at.to l.tables.target)

abbrev pub decreases-edges : goal.decreases-edges
decreases-edges g l = to_go (suc (length l.target.items)) l.next
