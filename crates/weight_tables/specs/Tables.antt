-- The tables of a search: three layers of entries, and one weight in hand.
use Rattle.std.specs.Prelude.{List, []}
use Rattle.semiring_laws.specs.Semiring.{Operations, Fits}
use Rattle.pushdown_rules.specs.Pushdown.{Pushdown}
use Rattle.weight_tables.specs.Entries.{TableEntry, IsTable}
use Rattle.weight_tables.specs.declared.layer.Layer.{Layer}
use Rattle.weight_tables.specs.declared.layer.Layer.TheVariants.{Base, Target, Walk}

-- The system that the weights are of, the weight in hand, and the entries of each layer.
pub record TablesValue (S W Map : Type 0) : Type 0 where
  pub system : Pushdown S W Map
  pub hand : W
  pub base : List (TableEntry W)
  pub target : List (TableEntry W)
  pub walk : List (TableEntry W)

module _ {S W Map : Type 0} where
  -- the entries of a layer
  abbrev pub entries_of : Layer → TablesValue S W Map → List (TableEntry W)
  entries_of Base v = v.base
  entries_of Target v = v.target
  entries_of Walk v = v.walk

  -- the tables with other entries in a layer
  abbrev pub with_entries : Layer → List (TableEntry W) → TablesValue S W Map → TablesValue S W Map
  with_entries Base es v = record v { base = es }
  with_entries Target es v = record v { target = es }
  with_entries Walk es v = record v { walk = es }

  -- the tables with another weight in hand
  abbrev pub with_hand : W → TablesValue S W Map → TablesValue S W Map
  with_hand w v = record v { hand = w }

  -- no entries
  abbrev pub no_tables : W → Pushdown S W Map → TablesValue S W Map
  no_tables nothing p = record { system = p; hand = nothing; base = []; target = []; walk = [] }

-- What holds of all tables.
pub record AreTables {S W Map : Type 0} (s : Operations W Map) (v : TablesValue S W Map) : Type 0 where
  pub hand : Fits s v.hand
  pub base : IsTable s v.base
  pub target : IsTable s v.target
  pub walk : IsTable s v.walk
