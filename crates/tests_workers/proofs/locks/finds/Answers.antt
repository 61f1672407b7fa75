use Rattle.std.proofs.Common.{ap, sym, ◌∙◌}
use Rattle.seat_lock.specs.Queue.{opened_by}
use Rattle.seat_lock.proofs.CallerLemmas.{grown-none}
use Rattle.tests_workers.proofs.locks.finds.Goals as goal

pub give-requires-clause-grown : goal.give-requires-clause-grown
give-requires-clause-grown g c =
    grown-none _ c.turn-held.result.seat.me.0 c.turn-held.result.value.lines.items _ (ap (λ z. opened_by z.stage) c.turn-held.ensures.turn) (ap (λ z. z.lines.items) c.value.ensures.value)
