-- Weights by place. Some wait: they were lowered, and not yet taken.
use Rattle.std.specs.Prelude.{◌≡◌, ℕ, zero, suc, ◌+◌, ◌<◌, ◌^◌, Bool, true, false, ◌&&◌, nat_eq, List, [], ◌∷◌, length, Option, None, Some, if◌then◌else◌}
use Rattle.std.specs.List.{AllByRecursion}
pub use Rattle.key_rows.specs.Rows.{index_where, index_from}
use Rattle.semiring_laws.specs.Semiring.{Operations, Fits}
use Rattle.weighted_automata.specs.declared.place.Label.{Label}
use Rattle.weighted_automata.specs.declared.place.Label.TheVariants.{Empty}
use Rattle.weighted_automata.specs.declared.place.Place.{Place}
use Rattle.weighted_automata.specs.Places.{same_label, same_place}

-- A place, its weight, and whether it waits.
pub record TableEntry (W : Type 0) : Type 0 where
  pub place : Place
  pub weight : W
  pub waits : Bool

module _ {W : Type 0} where
  -- the entry goes from the state, and reads the label
  abbrev pub is_from : ℕ → Label → TableEntry W → Bool
  is_from state label e = nat_eq e.place.from state && same_label e.place.label label

  -- the entry goes from the state, whatever it reads
  abbrev pub is_out_of : ℕ → TableEntry W → Bool
  is_out_of state e = nat_eq e.place.from state

  -- the entry goes to the state, and reads nothing
  abbrev pub is_empty_into : ℕ → TableEntry W → Bool
  is_empty_into state e = nat_eq e.place.to state && same_label e.place.label Empty

  -- where the entry of a place stands
  abbrev pub index_at : Place → List (TableEntry W) → Option ℕ
  index_at x es = index_where (λ e. same_place e.place x) es

  -- the entries once the one of a number was taken: it waits no more
  abbrev pub taken : ℕ → List (TableEntry W) → List (TableEntry W)
  taken t [] = []
  taken zero (e ∷ es) = record e { waits = false } ∷ es
  taken (suc t) (e ∷ es) = e ∷ taken t es

  -- no entry waits
  abbrev pub NoneWaits : List (TableEntry W) → Type 0
  NoneWaits es = AllByRecursion (λ e. e.waits ≡ false) es

  -- no place stands twice
  abbrev pub HasDistinctPlaces : List (TableEntry W) → Type 0
  HasDistinctPlaces [] = Unit {0}
  HasDistinctPlaces (e ∷ es) = (index_at e.place es ≡ None) × HasDistinctPlaces es

module _ {W Map : Type 0} (s : Operations W Map) where
  -- the weight of a place, and zero where it has no entry
  abbrev pub weight_in : List (TableEntry W) → Place → W
  weight_in [] x = s.zero
  weight_in (e ∷ es) x = if same_place e.place x then e.weight else weight_in es x

  -- the weight of a place that does not wait, and zero where it waits or has no entry
  abbrev pub settled_in : List (TableEntry W) → Place → W
  settled_in [] x = s.zero
  settled_in (e ∷ es) x = if same_place e.place x then (if e.waits then s.zero else e.weight) else settled_in es x

  -- an entry once a weight came to it: where that changes its own, it waits
  abbrev pub lowered_entry : W → TableEntry W → TableEntry W
  lowered_entry w e =
      if s.same (s.combine e.weight w) e.weight then e
      else record { place = e.place; weight = s.combine e.weight w; waits = true }

  -- the entries once a weight came to a place: where there is none, and the weight is not zero, one is added last, which waits
  abbrev pub lowered_in : Place → W → List (TableEntry W) → List (TableEntry W)
  lowered_in x w [] = if s.same w s.zero then [] else record { place = x; weight = w; waits = true } ∷ []
  lowered_in x w (e ∷ es) = if same_place e.place x then lowered_entry w e ∷ es else e ∷ lowered_in x w es

  -- What holds of the entries of each table.
  pub record IsTable (es : List (TableEntry W)) : Type 0 where
    pub distinct : HasDistinctPlaces es
    pub fits : AllByRecursion (λ e. Fits s e.weight) es
    pub few : length es < 2 ^ 32
