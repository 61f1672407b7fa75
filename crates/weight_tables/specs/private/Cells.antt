-- Weights by number, and the entries that they make with their places.
use Rattle.std.specs.Prelude.{ℕ, zero, suc, Bool, true, false, List, [], ◌∷◌, map}
use Rattle.weighted_automata.specs.declared.place.Place.{Place}
use Rattle.weight_tables.specs.declared.cell.Cell.{Cell}
use Rattle.weight_tables.specs.Entries.{TableEntry}

module _ {W : Type 0} where
  -- which of them wait
  abbrev pub waits_in : List (Cell W) → List Bool
  waits_in [] = []
  waits_in (c ∷ cs) = c.waits ∷ waits_in cs

  -- with another weight at a number, which waits
  abbrev pub written : ℕ → W → List (Cell W) → List (Cell W)
  written t w [] = []
  written zero w (c ∷ cs) = record { weight = w; waits = true } ∷ cs
  written (suc t) w (c ∷ cs) = c ∷ written t w cs

  -- without the mark of a number
  abbrev pub cleared : ℕ → List (Cell W) → List (Cell W)
  cleared t [] = []
  cleared zero (c ∷ cs) = record { weight = c.weight; waits = false } ∷ cs
  cleared (suc t) (c ∷ cs) = c ∷ cleared t cs

  -- each place with the weight of its number
  abbrev pub entries_in : List Place → List (Cell W) → List (TableEntry W)
  entries_in [] cs = []
  entries_in (p ∷ ps) [] = []
  entries_in (p ∷ ps) (c ∷ cs) = record { place = p; weight = c.weight; waits = c.waits } ∷ entries_in ps cs

  -- the entries with another weight at a number, which waits
  abbrev pub changed : ℕ → W → List (TableEntry W) → List (TableEntry W)
  changed t w [] = []
  changed zero w (e ∷ es) = record { place = e.place; weight = w; waits = true } ∷ es
  changed (suc t) w (e ∷ es) = e ∷ changed t w es

  -- the weights of entries by number
  abbrev pub cells_of : List (TableEntry W) → List (Cell W)
  cells_of [] = []
  cells_of (e ∷ es) = record { weight = e.weight; waits = e.waits } ∷ cells_of es

  -- the entries with these weights and marks
  abbrev pub with_cells : List (Cell W) → List (TableEntry W) → List (TableEntry W)
  with_cells cs es = entries_in (map (λ e. e.place) es) cs
