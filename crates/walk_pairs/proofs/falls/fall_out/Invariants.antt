use Rattle.std.proofs.Common.{length}
use Rattle.weight_tables.specs.Entries.{is_out_of}
use Rattle.weight_tables.specs.Tables.{entries_of}
use Rattle.weight_tables.proofs.CallerLemmas.{IsRowWalk, to_go}
use Rattle.walk_pairs.specs.Giving.{IsFallOn}
use Rattle.walk_pairs.specs.Lowerings.{ArePairsLowered}
use Rattle.walk_pairs.specs.Ways.{TakesAt}
use Rattle.walk_pairs.proofs.FallLemmas.{IsEntryMet}
use Rattle.walk_pairs.proofs.falls.fall_out.Given as goal

abbrev pub invariant-out : goal.invariant-out
invariant-out g l =
    let v = l.initial.tables in
    let s = g.S.Semiring.operations v.system.semiring in
    ArePairsLowered s (IsFallOn s v l.order l.layer l.stage l.from (TakesAt l.pattern.items l.next) l.next) v l.tables
    × IsRowWalk (is_out_of l.from) (entries_of l.layer v) l.at (IsEntryMet s v l.order l.layer l.stage l.from (TakesAt l.pattern.items l.next) l.next l.tables.walk)

abbrev pub decreases-out : goal.decreases-out
decreases-out g l = to_go (length (entries_of l.layer l.initial.tables)) l.at
