-- Where places stand, by what they have in common.
use Rattle.std.specs.Prelude.{ℕ, List, map, Option, None, Some}
use Rattle.key_rows.specs.Numbers.{AreNumberRows, HasNumber, HasNumberSpace}
use Rattle.key_rows.specs.Rows.{AreRows, HasCell, HasSpace}
use Rattle.weighted_automata.specs.contracts.place.PlaceOrd.TheImpl.{ghosts as of_places}
use Rattle.weighted_automata.specs.declared.place.Label.TheVariants.{Symbol, Empty}
use Rattle.weighted_automata.specs.declared.place.Place.{Place}
use Rattle.weight_tables.specs.declared.index.PlaceIndex.{PlaceIndex}

-- what the places of a row have in common
abbrev pub row_of : Place → Place
row_of p = record { from = p.from; label = p.label; to = 0 }

-- where a place goes to that reads nothing
abbrev pub empty_target : Place → Option ℕ
empty_target p = elim p.label [ Symbol a ↦ None | Empty ↦ Some p.to ]

-- The rows of the index are those of these places.
pub record AreIndexed (ps : List Place) (index : PlaceIndex) : Type 0 where
  pub by_row : AreRows of_places.cmp (map (λ p. Some (row_of p)) ps) index.rows
  pub by_state : AreNumberRows (map (λ p. Some p.from) ps) index.states
  pub by_target : AreNumberRows (map empty_target ps) index.empties

-- The place has a cell in each.
pub record HasCells (index : PlaceIndex) (p : Place) : Type 0 where
  pub of_row : HasCell of_places.cmp index.rows (Some (row_of p))
  pub of_state : HasNumber index.states (Some p.from)
  pub of_target : HasNumber index.empties (empty_target p)

-- There is space for one place more.
pub record HasSpaces (index : PlaceIndex) : Type 0 where
  pub rows : HasSpace 1 index.rows
  pub states : HasNumberSpace 1 index.states
  pub empties : HasNumberSpace 1 index.empties
