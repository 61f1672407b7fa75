-- The events that marks are, with the numbers of those that take, in order.
use Rattle.std.specs.Prelude.{ℕ, suc, ◌+◌, List, [], ◌∷◌, Bool, false, nat_eq, if◌then◌else◌}
use Rattle.saturation_core.specs.JournalEvents.{NumberedEvent}
use Rattle.saturation_core.specs.JournalEvents as event
use Rattle.saturation_core.specs.declared.journal.Mark.{Mark}
use Rattle.saturation_core.specs.declared.journal.Mark.TheVariants.{Take, Settle, GiveBack}

abbrev pub events_of : List Mark → List ℕ → List NumberedEvent
events_of [] ps = []
events_of (Take s ∷ ms) [] = []
events_of (Take s ∷ ms) (p ∷ ps) = event.Take s p ∷ events_of ms ps
events_of (Settle s ∷ ms) ps = event.Settle s ∷ events_of ms ps
events_of (GiveBack s ∷ ms) ps = event.GiveBack s ∷ events_of ms ps

-- how many of them take
abbrev pub taken : List Mark → ℕ
taken [] = 0
taken (Take s ∷ ms) = suc (taken ms)
taken (Settle s ∷ ms) = taken ms
taken (GiveBack s ∷ ms) = taken ms

abbrev pub is_taken_by : ℕ → Mark → Bool
is_taken_by k (Take s) = nat_eq s k
is_taken_by k (Settle s) = false
is_taken_by k (GiveBack s) = false

-- how many of them take for a seat
abbrev pub taken_by : ℕ → List Mark → ℕ
taken_by k [] = 0
taken_by k (m ∷ ms) = (if is_taken_by k m then 1 else 0) + taken_by k ms
