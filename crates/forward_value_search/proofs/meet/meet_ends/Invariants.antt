use Rattle.std.proofs.Common.{◌^◌}
use Rattle.weight_tables.proofs.CallerLemmas.{to_go}
use Rattle.forward_value_search.proofs.MeetLemmas.{EndsMet}
use Rattle.forward_value_search.proofs.PlaceLemmas.{is_end}
use Rattle.forward_value_search.proofs.LoopLemmas.{IsLoop}
use Rattle.forward_value_search.proofs.meet.meet_ends.Given as goal

abbrev pub invariant-ends : goal.invariant-ends
invariant-ends g l =
    IsLoop g.S.Semiring.operations l.system l.first (is_end l.callee) (EndsMet g.S.Semiring.operations l.system l.first l.k l.below l.row) l.initial.tables l.tables l.at

abbrev pub decreases-ends : goal.decreases-ends
decreases-ends g l = to_go (2 ^ 32) l.at
