use Rattle.std.proofs.Common.{◌≡◌}
use Rattle.tests_workers.proofs.locks.note_many.Given as goal

abbrev pub invariant-loop-text : goal.invariant-loop-text
invariant-loop-text g l = (l.pass.seat.table_id ≡ l.initial.pass.seat.table_id) × (l.pass.number ≡ l.initial.pass.number)
