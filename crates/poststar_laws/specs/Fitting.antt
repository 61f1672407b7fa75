-- Which openings the forward direction fits, and the places that it can reach.
use Rattle.std.specs.Prelude.{ℕ, ◌+◌, ◌<◌, Bool, false, ◌&&◌, nat_le, nat_lt, List, [], ◌∷◌, ◌++◌, map, None, Some}
use Rattle.std.specs.List.{flat_map, list_all, range_with_len}
use Rattle.wpds_base.specs.Limits.{most_controls, most_items, most_rules}
use Rattle.weighted_automata.specs.declared.place.Label.{Label}
use Rattle.weighted_automata.specs.declared.place.Label.TheVariants.{Symbol, Empty}
use Rattle.weighted_automata.specs.declared.place.Place.{Place}
use Rattle.pushdown_rules.specs.declared.rule.Rule.{Rule}
use Rattle.pushdown_rules.specs.Pushdown.{Pushdown}
use Rattle.saturation_laws.specs.declared.opening.Opening.{Opening}
use Rattle.direction_parts.specs.Passes.{two_symbols, by_rule}
use Rattle.poststar_laws.specs.Middles.{count_pushes, middle_of, base_of}

-- more states than there are at the limits: controls, items and middle states
abbrev pub most_states : ℕ
most_states = most_controls + (most_items + most_rules)

-- A place between states that are that few.
pub record HasFewStates (x : Place) : Type 0 where
  pub from : x.from < most_states
  pub to : x.to < most_states

-- the label is one of so many symbols
abbrev pub reads_below : ℕ → Label → Bool
reads_below symbols (Symbol g) = nat_lt g symbols
reads_below symbols Empty = false

module _ {S W Map : Type 0} (items : ℕ) (p : Pushdown S W Map) where
  -- the edge goes over a symbol from a control or an item to an item
  abbrev pub is_item_edge : Place → Bool
  is_item_edge x = reads_below p.symbols x.label && (nat_lt x.from (base_of items p) && (nat_le p.controls x.to && nat_lt x.to (base_of items p)))

  -- so many items, as a pattern has at most, over which the edges go, and the final states are controls and items
  abbrev pub fits_post : Opening → Bool
  fits_post o = nat_le items most_items && (list_all is_item_edge o.edges && list_all (λ q. nat_lt q (base_of items p)) o.finals)

  -- the items and the middle states
  abbrev pub targets : List ℕ
  targets = range_with_len p.controls (items + count_pushes p.rules)

  abbrev pub to_each : ℕ → Label → List Place
  to_each from label = map (λ q. let x : Place = record { from = from; label = label; to = q } in x) targets

  -- nothing, and each symbol
  abbrev pub labels : List Label
  labels = Empty ∷ map (λ g. Symbol g) (range_with_len 0 p.symbols)

  abbrev pub from_control : ℕ → List Place
  from_control c = flat_map (to_each c) labels

  abbrev pub from_middle : ℕ → Rule S W Map → List Place
  from_middle k r = elim (two_symbols r.right) [ None ↦ [] | Some w ↦ to_each (middle_of (base_of items p) p.rules k) (Symbol w.1) ]

  -- from each control over each symbol or nothing, and from each middle state over the symbol that waits there, to each
  -- item and each middle state
  abbrev pub post_places : List Place
  post_places = flat_map from_control (range_with_len 0 p.controls) ++ by_rule from_middle 0 p.rules
