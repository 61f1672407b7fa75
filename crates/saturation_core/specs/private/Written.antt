-- Events with the places of their transitions.
use Rattle.std.specs.Prelude.{ℕ, ◌+◌, ◌<◌, List, [], ◌∷◌, Option, Some, Bool, true, false, nat_eq, length, option_map, slice_get, filter_map, if◌then◌else◌}
use Rattle.std.specs.List.{AllByRecursion}
use Rattle.weighted_automata.specs.declared.transitions.Entry.{Entry}
use Rattle.weighted_automata.specs.Entries.{places_of}
use Rattle.saturation_laws.specs.declared.event.Event.{Event}
use Rattle.saturation_laws.specs.declared.event.Event.TheVariants as event
use Rattle.saturation_core.specs.JournalEvents.{NumberedEvent, Take, Settle, GiveBack}

module _ {S W Map : Type 0} (ts : List (Entry S W Map)) where
  -- an event with the place of the transition that it takes
  abbrev pub event_at : NumberedEvent → Option Event
  event_at (Take seat k) = option_map (λ x. event.Take seat x) (slice_get (places_of ts) k)
  event_at (Settle seat) = Some (event.Settle seat)
  event_at (GiveBack seat) = Some (event.GiveBack seat)

  abbrev pub events_at : List NumberedEvent → List Event
  events_at es = filter_map event_at es

  -- the number is that of a transition
  abbrev pub IsThere : NumberedEvent → Type 0
  IsThere (Take seat k) = k < length ts
  IsThere (Settle seat) = Unit {0}
  IsThere (GiveBack seat) = Unit {0}

  abbrev pub AreThere : List NumberedEvent → Type 0
  AreThere es = AllByRecursion IsThere es

abbrev pub is_taking : NumberedEvent → Bool
is_taking (Take seat k) = true
is_taking (Settle seat) = false
is_taking (GiveBack seat) = false

abbrev pub is_taking_for : ℕ → NumberedEvent → Bool
is_taking_for s (Take seat k) = nat_eq seat s
is_taking_for s (Settle seat) = false
is_taking_for s (GiveBack seat) = false

-- how many take, and how many for a seat
abbrev pub takes_in : List NumberedEvent → ℕ
takes_in [] = 0
takes_in (e ∷ es) = (if is_taking e then 1 else 0) + takes_in es

abbrev pub takes_in_of : ℕ → List NumberedEvent → ℕ
takes_in_of s [] = 0
takes_in_of s (e ∷ es) = (if is_taking_for s e then 1 else 0) + takes_in_of s es
