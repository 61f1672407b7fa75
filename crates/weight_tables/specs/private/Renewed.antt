-- Weights that another object keeps.
use Rattle.std.specs.Prelude.{◌≡◌, List, map, Option, IfSome, option_map}
use Rattle.std.specs.List.{AllByRecursion}
use Rattle.weight_tables.specs.declared.cell.Cell.{Cell}
use Rattle.weight_tables.specs.declared.layers.Layers.{Layers}
use Rattle.weight_tables.specs.declared.layers.LayerCells.{LayerCells}
use Rattle.weight_tables.specs.declared.renewal.Renewal.{Renewal}
use Rattle.weight_tables.specs.private.Cells.{cells_of, waits_in, with_cells}

module _ {W V : Type 0} (worth : W → V) where
  -- a weight by what it stands for, with its mark
  abbrev pub valued_cell : Cell W → Cell V
  valued_cell c = record { weight = worth c.weight; waits = c.waits }

  abbrev pub valued_cells : List (Cell W) → List (Cell V)
  valued_cells cs = map valued_cell cs

-- each weight is known
abbrev pub AllCellsKnown : {W : Type 0} → (W → Type 0) → List (Cell W) → Type 0
AllCellsKnown Known cs = AllByRecursion (λ c. Known c.weight) cs

-- New weights are known, and stand for what the old ones stood for, with the same marks.
pub record AreMoved {W V : Type 0} (Known : W → Type 0) (before after : W → V) (old new : List (Cell W)) : Type 0 where
  pub known : AllCellsKnown Known new
  pub worth : valued_cells after new ≡ valued_cells before old

-- So do the new weights of each layer.
pub record AreRenewed {W V : Type 0} (Known : W → Type 0) (before after : W → V) (ls : Layers W) (new : LayerCells W) : Type 0 where
  pub base : AreMoved Known before after (cells_of ls.base) new.base.items
  pub target : AreMoved Known before after (cells_of ls.target) new.target.items
  pub walk : AreMoved Known before after (cells_of ls.walk) new.walk.items

-- Another object for the same system, with all weights in use.
pub record IsRenewal {M W P V : Type 0} (pushdown : M → P) (Knows : M → W → Type 0) (worth : M → W → V) (m : M) (hand : Option W) (ls : Layers W) (new : Renewal M W) : Type 0 where
  pub system : pushdown new.weigher ≡ pushdown m
  pub held : IfSome new.hand (Knows new.weigher)
  pub same : option_map (worth new.weigher) new.hand ≡ option_map (worth m) hand
  pub layers : AreRenewed (Knows new.weigher) (worth m) (worth new.weigher) ls new.cells

module _ {W : Type 0} where
  -- the marks are those of the layers
  pub record HaveMarks (ls : Layers W) (cells : LayerCells W) : Type 0 where
    pub base : waits_in cells.base.items ≡ waits_in (cells_of ls.base)
    pub target : waits_in cells.target.items ≡ waits_in (cells_of ls.target)
    pub walk : waits_in cells.walk.items ≡ waits_in (cells_of ls.walk)

  -- the layers with these weights and marks
  abbrev pub with_layer_cells : LayerCells W → Layers W → Layers W
  with_layer_cells cells ls = record {
    base = with_cells cells.base.items ls.base;
    target = with_cells cells.target.items ls.target;
    walk = with_cells cells.walk.items ls.walk;
  }
