use Rattle.std.proofs.Common.{◌≡◌, List, length}
use Rattle.std.specs.Prelude.{Option}
use Rattle.std.specs.VecDeque.{deque_len}
use Rattle.saturation_laws.specs.declared.holding.Holding.{Holding}
use Rattle.saturation_core.specs.private.Plans.{put_all}
use Rattle.saturation_core.specs.private.Steps.{with_hands}
use Rattle.saturation_core.proofs.PlanEqualsApply.{IsUnderWay}
use Rattle.saturation_core.proofs.found.Found.lower_all.Given as goal

abbrev pub invariant-steps : goal.invariant-steps
invariant-steps g l =
    ((hands : List (Option (Holding g.row.S.Denot g.row.S-W.Denot g.row.S-Ret.Denot))) → put_all l.rest.items (with_hands l.self hands)
    ≡ put_all l.initial.rest.items (with_hands l.initial.self hands))
    × IsUnderWay l.rest.items (length l.initial.rest.items) l.self l.initial.self

abbrev pub decreases-steps : goal.decreases-steps
decreases-steps g l = deque_len l.rest
