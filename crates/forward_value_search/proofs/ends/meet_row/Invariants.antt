use Rattle.std.proofs.Common.{◌≡◌, ◌^◌}
use Rattle.weight_tables.proofs.CallerLemmas.{to_go}
use Rattle.forward_value_search.proofs.PlaceLemmas.{in_row}
use Rattle.forward_value_search.proofs.LoopLemmas.{IsLoop}
use Rattle.forward_value_search.proofs.MeetLemmas.{CallsMet}
use Rattle.forward_value_search.proofs.ends.meet_row.Given as goal

abbrev pub invariant-row : goal.invariant-row
invariant-row g l =
    IsLoop g.S.Semiring.operations l.system l.first (in_row l.fn.control l.fn.symbol) (CallsMet g.S.Semiring.operations l.system l.first l.k l.below l.end) l.initial.tables l.tables l.at
    × (l.tables.hand ≡ l.initial.tables.hand)

abbrev pub decreases-row : goal.decreases-row
decreases-row g l = to_go (2 ^ 32) l.at
