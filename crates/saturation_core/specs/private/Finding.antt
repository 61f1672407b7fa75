-- What a plan says of a place.
use Rattle.std.specs.Prelude.{ℕ, ◌+◌, List, Option, None, Some, option_map, slice_get}
use Rattle.weighted_automata.specs.declared.place.Place.{Place}
use Rattle.weighted_automata.specs.declared.transitions.Entry.{Entry}
use Rattle.saturation_core.specs.declared.plan.Planned.{Planned}

module _ {S W Map : Type 0} where
  -- the transition at the place, by the lowering of number k where one is named, whose nodes are numbered from n on
  abbrev pub found_at : Place → ℕ → List (Planned S W Map) → Option ℕ → Option (Entry S W Map) → Option (Entry S W Map)
  found_at x n ls None was = was
  found_at x n ls (Some k) was = option_map (λ l. record { place = x; weight = l.weight; node = n + k }) (slice_get ls k)
