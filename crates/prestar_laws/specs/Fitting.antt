-- Which openings the backward direction fits, and the places that it can reach.
use Rattle.std.specs.Prelude.{ℕ, suc, Bool, ◌&&◌, nat_le, List, [], ◌∷◌, ◌++◌, map, if◌then◌else◌}
use Rattle.std.specs.List.{flat_map, list_all, range_with_len}
use Rattle.weighted_automata.specs.declared.place.Place.{Place}
use Rattle.pushdown_rules.specs.Pushdown.{Pushdown}
use Rattle.saturation_laws.specs.declared.opening.Opening.{Opening}
use Rattle.direction_parts.specs.Places.{arrow, reads_symbol}

-- the edge reads a symbol, and leads to a state that is no control
abbrev pub is_item_edge : ℕ → Place → Bool
is_item_edge controls x = reads_symbol x.label && nat_le controls x.to

abbrev pub fits_pre : {S W Map : Type 0} → Pushdown S W Map → Opening → Bool
fits_pre p o = list_all (is_item_edge p.controls) o.edges

-- the least number that is not below this one, and above each of these states
abbrev pub above : ℕ → List ℕ → ℕ
above n [] = n
above n (q ∷ qs) = above (if nat_le (suc q) n then n else suc q) qs

-- how many states there are: the controls, and those up to the last that the opening names
abbrev pub state_count : ℕ → Opening → ℕ
state_count controls o = above controls (map (λ x. x.to) o.edges ++ o.finals)

-- each control, with each symbol, to each state
abbrev pub arrows : ℕ → ℕ → ℕ → List Place
arrows controls symbols states = flat_map (λ c. flat_map (λ g. map (arrow c g) (range_with_len 0 states)) (range_with_len 0 symbols)) (range_with_len 0 controls)

abbrev pub pre_places : {S W Map : Type 0} → Pushdown S W Map → Opening → List Place
pre_places p o = arrows p.controls p.symbols (state_count p.controls o)
