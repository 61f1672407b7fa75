-- Transitions of which some wait, by their places.
use Rattle.std.specs.Prelude.{ℕ, List}
use Rattle.weighted_automata.specs.declared.place.Place.{Place}
use Rattle.weighted_automata.specs.declared.transitions.Entry.{Entry}

-- Transitions, the places that have room, and those that wait, in order; for how many more places that wait there is room, and for
-- how many more transitions there are marks.
pub record QueuedList (S W Map : Type 0) : Type 0 where
  pub transitions : List (Entry S W Map)
  pub room : List Place
  pub queue : List Place
  pub spare : ℕ
  pub marks : ℕ
