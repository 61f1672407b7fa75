use Rattle.std.proofs.Common.{◌≡◌, length}
use Rattle.weighted_automata.specs.declared.place.Label.TheVariants.{Symbol}
use Rattle.weight_tables.specs.Entries.{is_from}
use Rattle.weight_tables.specs.Tables.{entries_of}
use Rattle.weight_tables.proofs.CallerLemmas.{IsRowWalk, to_go}
use Rattle.walk_pairs.specs.Giving.{IsFallOn}
use Rattle.walk_pairs.specs.Lowerings.{ArePairsLowered}
use Rattle.walk_pairs.proofs.FallLemmas.{IsEntryMet}
use Rattle.walk_pairs.proofs.falls.fall_row.Given as goal

abbrev pub invariant-row : goal.invariant-row
invariant-row g l =
    let v = l.initial.tables in
    let s = g.S.Semiring.operations v.system.semiring in
    ArePairsLowered s (IsFallOn s v l.order l.layer l.stage l.from (λ h. h ≡ l.symbol) l.next) v l.tables
    × IsRowWalk (is_from l.from (Symbol l.symbol)) (entries_of l.layer v) l.at (IsEntryMet s v l.order l.layer l.stage l.from (λ h. h ≡ l.symbol) l.next l.tables.walk)

abbrev pub decreases-row : goal.decreases-row
decreases-row g l = to_go (length (entries_of l.layer l.initial.tables)) l.at
