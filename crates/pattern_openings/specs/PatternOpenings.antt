-- The opening of a pattern: its automaton, with the states of a saturation.
use Rattle.std.specs.Prelude.{◌≡◌, ◌⊎◌, ℕ, zero, suc, ◌+◌, ◌<◌, ◌≤◌, List, map, filter, length, All}
use Rattle.std.specs.List.{range_with_len}
use Rattle.weighted_automata.specs.declared.place.Place.{Place}
use Rattle.weighted_automata.specs.declared.place.Label.TheVariants.{Symbol}
use Rattle.config_patterns.specs.declared.item.Item.{Item}
use Rattle.config_patterns.specs.declared.edge.Edge.{Edge}
use Rattle.config_patterns.specs.Membership.{PatternValue}
use Rattle.config_patterns.specs.Edges.{edges_of, is_final_of}
use Rattle.saturation_laws.specs.declared.opening.Opening.{Opening}

-- A pattern over so many controls and symbols.
pub record IsOver (controls symbols : ℕ) (pattern : PatternValue) : Type 0 where
  pub control : pattern.control < controls
  pub sets : All (λ (x : Item). All (λ g. g < symbols) x.set) pattern.items

-- State 0 of a pattern is its control. State i, of its i-th item, stands behind the controls.
abbrev pub state_of : ℕ → ℕ → ℕ → ℕ
state_of controls control zero = control
state_of controls control (suc i) = controls + i

-- An edge of a pattern, and all of them in their order, where each state has a number.
abbrev pub place_by : (ℕ → ℕ) → Edge → Place
place_by number e = record { from = number e.from; label = Symbol e.symbol; to = number e.to }

abbrev pub places_by : (ℕ → ℕ) → List Item → List Place
places_by number items = map (place_by number) (edges_of items)

-- the edge between states of a saturation
abbrev pub place_of_edge : ℕ → ℕ → Edge → Place
place_of_edge controls control e = place_by (state_of controls control) e

-- the final states of a pattern, in order
abbrev pub finals_of_items : List Item → List ℕ
finals_of_items items = filter (is_final_of items) (range_with_len 0 (suc (length items)))

abbrev pub opening_of : ℕ → PatternValue → Opening
opening_of controls pattern = record {
  edges = places_by (state_of controls pattern.control) pattern.items;
  finals = map (state_of controls pattern.control) (finals_of_items pattern.items);
}

-- An edge on a symbol, from the control or an item's state to an item's state.
pub record IsEdgeOf (controls control items : ℕ) (x : Place) : Type 0 where
  pub from : (x.from ≡ control) ⊎ ((controls ≤ x.from) × (x.from < controls + items))
  pub reads : (g : ℕ) × (x.label ≡ Symbol g)
  pub to_item : controls ≤ x.to
  pub to_last : x.to < controls + items
