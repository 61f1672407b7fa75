use Rattle.std.proofs.Common.{◌≡◌}
use Rattle.tests_workers.proofs.locks.wait_for.Given as goal

abbrev pub invariant-loop : goal.invariant-loop
invariant-loop g l = (l.pass.seat.table_id ≡ l.initial.pass.seat.table_id) × (l.pass.number ≡ l.initial.pass.number)
