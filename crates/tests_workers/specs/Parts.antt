-- The passes that a test hands to threads of its own.
use Rattle.std.specs.Prelude.{◌≡◌}
use Rattle.seat_lock.specs.declared.view.Journaled.{Ghosts}
use Rattle.seat_lock.specs.declared.lock.Pass.{Pass}

-- the pass is of the same lock, with the same number
abbrev pub IsSamePass : {T B E : Type 0} {J : Ghosts T B E} → Pass T B E J → Pass T B E J → Type 0
IsSamePass p q = (q.seat.table_id ≡ p.seat.table_id) × (q.number ≡ p.number)
