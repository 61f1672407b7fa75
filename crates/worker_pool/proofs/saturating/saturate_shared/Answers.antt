use Rattle.worker_pool.proofs.ErrandLemmas.{worked_by_seats}
use Rattle.worker_pool.proofs.saturating.saturate_shared.Goals as goal

pub returns-then-is_closed-clause-closed : goal.returns-then-is_closed-clause-closed
returns-then-is_closed-clause-closed g c = c.is_closed.ensures.0 c.if-is_closed.true

pub returns-then-is_closed-clause-seats : goal.returns-then-is_closed-clause-seats
returns-then-is_closed-clause-seats g c =
    worked_by_seats c.args.workers c.in-Ok-close.shared.book.journal c.in_ok-pass.pass.seat.me.0.claims c.in-Ok-close.ensures.1.2 c.in-Ok-close.ensures.2 c.in_ok-pass.ensures.joined.claims
