-- The lists of the layers.
use Rattle.std.specs.Prelude.{List, []}
use Rattle.weight_tables.specs.declared.layer.Layer.{Layer}
use Rattle.weight_tables.specs.declared.layer.Layer.TheVariants.{Base, Target, Walk}
use Rattle.weight_tables.specs.declared.layers.Layers.{Layers}
use Rattle.weight_tables.specs.Entries.{TableEntry}

module _ {W : Type 0} where
  abbrev pub list_of : Layer → Layers W → List (TableEntry W)
  list_of Base ls = ls.base
  list_of Target ls = ls.target
  list_of Walk ls = ls.walk

  -- the layers with other entries in one
  abbrev pub with_list : Layer → List (TableEntry W) → Layers W → Layers W
  with_list Base es ls = record ls { base = es }
  with_list Target es ls = record ls { target = es }
  with_list Walk es ls = record ls { walk = es }

  abbrev pub no_layers : Layers W
  no_layers = record { base = []; target = []; walk = [] }
