-- Transitions of which some wait, by their numbers.
use Rattle.std.specs.Prelude.{ℕ, ◌<◌, ◌≤◌, List, length, slice_get, filter_map}
use Rattle.std.specs.List.{AllByRecursion}
use Rattle.weighted_automata.specs.declared.place.Place.{Place}
use Rattle.weighted_automata.specs.declared.transitions.Entry.{Entry}
use Rattle.weighted_automata.specs.Entries.{places_of, HasDistinctPlaces}

module _ {S W Map : Type 0} where
  -- the places of the transitions with these numbers
  abbrev pub places_at : List (Entry S W Map) → List ℕ → List Place
  places_at ts ns = filter_map (slice_get (places_of ts)) ns

  -- Each number that waits is that of a transition, and each transition has a mark.
  pub record IsQueued (ts : List (Entry S W Map)) (numbers : List ℕ) (marks : ℕ) : Type 0 where
    pub distinct : HasDistinctPlaces ts
    pub there : AllByRecursion (λ k. k < length ts) numbers
    pub marked : length ts ≤ marks
