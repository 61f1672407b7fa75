-- The words of a client: what it sees of a pass.
use Rattle.std.specs.Prelude.{◌≡◌, ℕ, ◌+◌, List, Option}
use Rattle.seat_lock.specs.declared.view.Journaled.{Ghosts}
use Rattle.seat_lock.specs.declared.lock.Pass.{Pass}
use Rattle.seat_lock.specs.declared.lock.Held.{Held}
use Rattle.seat_lock.specs.declared.lock.SeatLock.{SeatLock}
use Rattle.seat_lock.specs.Queue.{Claim, FitsView, first_view, one_more, newcomer}
use Rattle.seat_lock.specs.Passes.{own_entries, joined_in}

module _ {T B E : Type 0} {J : Ghosts T B E} where
  -- the lock's base
  abbrev pub base_of : Pass T B E J → Option B
  base_of p = p.seat.me.0.base

  -- the journal as far as the pass has seen it
  abbrev pub seen : Pass T B E J → List E
  seen p = p.seat.me.0.seen

  -- the entries of the pass itself
  abbrev pub mine : Pass T B E J → List E
  mine p = own_entries p.seat.me.0.claims

  -- the number and the entries of each pass that was joined in
  abbrev pub taken_in : Pass T B E J → List (Claim E)
  taken_in p = joined_in p.seat.me.0.claims

  -- a value of this base and this journal fits the pass, and each pass that it joined in
  abbrev pub Fits : (E → ℕ) → Pass T B E J → B → List E → Type 0
  Fits number p base log = FitsView number p.seat.me.0 base log

  abbrev pub IsOf : Pass T B E J → SeatLock T B E → Type 0
  IsOf p lock = p.seat.table_id ≡ lock.table.shared.table_id

  -- pass 0 of a new lock for so many passes, whose value has this base
  abbrev pub IsFirst : SeatLock T B E → B → ℕ → Pass T B E J → Type 0
  IsFirst lock base seats p =
      (p.seat.table_id ≡ lock.table.shared.table_id) × (p.number ≡ 0) × (p.left + 1 ≡ seats) × (p.joined ≡ 1) × (p.made ≡ 1)
      × (p.seat.me.0 ≡ first_view base)

  -- pass 0, after it has made one more pass
  abbrev pub HasMadeOne : Pass T B E J → Pass T B E J → Type 0
  HasMadeOne old new =
      (new.seat.table_id ≡ old.seat.table_id) × (new.number ≡ 0) × (new.left + 1 ≡ old.left) × (new.joined ≡ old.joined) × (new.made ≡ old.made + 1)
      × (new.seat.me.0 ≡ one_more old.seat.me.0)

  -- the pass that it made: its number is that of the passes made before, and it has seen what pass 0 has
  abbrev pub IsMadeBy : Pass T B E J → Pass T B E J → Type 0
  IsMadeBy old p =
      (p.seat.table_id ≡ old.seat.table_id) × (p.number ≡ old.made) × (p.left ≡ 0) × (p.joined ≡ 1) × (p.seat.me.0 ≡ newcomer old.seat.me.0)

  -- pass 0, after it has joined another in
  abbrev pub HasTakenIn : Pass T B E J → Pass T B E J → Pass T B E J → Type 0
  HasTakenIn old other new =
      (new.seat.table_id ≡ old.seat.table_id) × (new.number ≡ 0) × (new.left ≡ old.left) × (new.joined ≡ old.joined + other.joined) × (new.made ≡ old.made)

  -- a turn of the pass
  abbrev pub IsTurnOf : Pass T B E J → Held T B E → Type 0
  IsTurnOf p h = (h.number ≡ p.number) × (h.left ≡ p.left) × (h.joined ≡ p.joined) × (h.made ≡ p.made) × (h.seat.table_id ≡ p.seat.table_id)

  -- the pass of a turn
  abbrev pub IsPassOf : Held T B E → Pass T B E J → Type 0
  IsPassOf h p = (p.number ≡ h.number) × (p.left ≡ h.left) × (p.joined ≡ h.joined) × (p.made ≡ h.made) × (p.seat.table_id ≡ h.seat.table_id)
