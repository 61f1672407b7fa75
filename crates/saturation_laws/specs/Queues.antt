-- The queue of a state.
use Rattle.std.specs.Prelude.{List, [], ◌∷◌, ◌++◌, if◌then◌else◌}
use Rattle.weighted_automata.specs.declared.place.Place.{Place}
use Rattle.weighted_automata.specs.Places.{has_place}

-- the queue with a place last, unless it is there
abbrev pub queued : Place → List Place → List Place
queued x q = if has_place x q then q else q ++ x ∷ []
