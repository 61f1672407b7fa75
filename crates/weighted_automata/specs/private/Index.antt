-- Where places stand, by what they have in common.
use Rattle.std.specs.Prelude.{ℕ, List, map, Option, None, Some, IsTrue, IsSome, length}
use Rattle.key_rows.specs.Members.{KeyedMembers, number_of}
use Rattle.key_rows.specs.Numbers.{AreNumberRows, HasNumber, HasNumberSpace}
use Rattle.key_rows.specs.Rows.{AreRows, HasCell, HasSpace}
use Rattle.weighted_automata.specs.contracts.place.PlaceOrd.TheImpl.{ghosts as of_places}
use Rattle.weighted_automata.specs.contracts.index.SourceOrd.TheImpl.{ghosts as of_sources}
use Rattle.weighted_automata.specs.declared.place.Label.TheVariants.{Symbol, Empty}
use Rattle.weighted_automata.specs.declared.place.Place.{Place}
use Rattle.weighted_automata.specs.declared.index.Source.{Source}
use Rattle.weighted_automata.specs.declared.index.PlaceIndex.{PlaceIndex}
use Rattle.weighted_automata.specs.Places.{has_place}

-- where a place goes from, and what is read there
abbrev pub source_of : Place → Source
source_of p = record { state = p.from; label = p.label }

-- where a place goes to that reads nothing
abbrev pub empty_target : Place → Option ℕ
empty_target p = elim p.label [ Symbol a ↦ None | Empty ↦ Some p.to ]

-- The rows of the index are those of these places.
pub record AreIndexed (ps : List Place) (index : PlaceIndex) : Type 0 where
  pub by_source : AreRows of_sources.cmp (map (λ p. Some (source_of p)) ps) index.sources
  pub by_state : AreNumberRows (map (λ p. Some p.from) ps) index.states
  pub by_target : AreNumberRows (map empty_target ps) index.empties

-- The place has a cell in each.
pub record HasCells (index : PlaceIndex) (p : Place) : Type 0 where
  pub of_source : HasCell of_sources.cmp index.sources (Some (source_of p))
  pub of_state : HasNumber index.states (Some p.from)
  pub of_target : HasNumber index.empties (empty_target p)

-- There is space for so many places more.
pub record HasSpaces (n : ℕ) (index : PlaceIndex) : Type 0 where
  pub sources : HasSpace n index.sources
  pub states : HasNumberSpace n index.states
  pub empties : HasNumberSpace n index.empties

-- Each of these places can be added without memory.
pub record HasRoomFor (ps : List Place) (index : PlaceIndex) : Type 0 where
  pub cells : (p : Place) → IsTrue (has_place p ps) → HasCells index p
  pub spaces : HasSpaces (length ps) index

-- Each of these places is among those that ever waited.
abbrev pub AreAsked : List Place → KeyedMembers Place → Type 0
AreAsked ps asked = (p : Place) → IsTrue (has_place p ps) → IsSome (number_of of_places.cmp (λ x. x) p asked.members)
