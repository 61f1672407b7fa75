-- The events of one seat.
use Rattle.std.specs.Prelude.{ℕ, Bool, true, false, List, [], ◌∷◌, Option, Some, None}
use Rattle.weighted_automata.specs.declared.place.Place.{Place}
use Rattle.saturation_laws.specs.declared.event.Event.{Event}
use Rattle.saturation_laws.specs.declared.event.Event.TheVariants.{Take, Settle, GiveBack}

-- whether a seat has no hand after these events of its own, where it had none before
abbrev pub free_after : Bool → List Event → Bool
free_after free [] = free
free_after free (Take seat x ∷ es) = free_after false es
free_after free (Settle seat ∷ es) = free_after true es
free_after free (GiveBack seat ∷ es) = free_after true es

-- each place that a seat has taken is settled or given back
abbrev pub is_ended : List Event → Bool
is_ended es = free_after true es

-- the events of a seat that takes these places one after another, and settles each before it takes the next
abbrev pub turns_by : ℕ → List Place → List Event
turns_by seat [] = []
turns_by seat (x ∷ xs) = Take seat x ∷ Settle seat ∷ turns_by seat xs

-- a place that is taken and given back, if there is one
abbrev pub given_by : ℕ → Option Place → List Event
given_by seat None = []
given_by seat (Some x) = Take seat x ∷ GiveBack seat ∷ []
