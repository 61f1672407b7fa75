-- How a list of entries is kept.
use Rattle.std.specs.Prelude.{◌≡◌, ℕ, ◌<◌, ◌^◌, List, [], ◌∷◌, length, None}
use Rattle.key_rows.specs.Rows.{index_where}
use Rattle.weighted_automata.specs.declared.place.Place.{Place}
use Rattle.weighted_automata.specs.Places.{same_place}
use Rattle.weight_tables.specs.declared.cell.Cell.{Cell}
use Rattle.weight_tables.specs.declared.index.PlaceIndex.{PlaceIndex}
use Rattle.weight_tables.specs.private.Cells.{waits_in}
use Rattle.weight_tables.specs.private.Index.{AreIndexed}
use Rattle.weight_tables.specs.private.Marks.{AreMarked}

-- no place stands twice
abbrev pub AreDistinct : List Place → Type 0
AreDistinct [] = Unit {0}
AreDistinct (p ∷ ps) = (index_where (λ q. same_place q p) ps ≡ None) × AreDistinct ps

-- Each place has a weight, is in its rows, and waits where its number does.
pub record IsEntryList {W : Type 0} (ps : List Place) (cells : List (Cell W)) (index : PlaceIndex) (queue : List ℕ) : Type 0 where
  pub long : length ps ≡ length cells
  pub few : length ps < 2 ^ 32
  pub distinct : AreDistinct ps
  pub indexed : AreIndexed ps index
  pub marked : AreMarked queue (waits_in cells)
