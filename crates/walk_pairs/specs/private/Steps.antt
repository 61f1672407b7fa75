-- What one step of a walk gives.
use Rattle.std.specs.Prelude.{◌≡◌, ℕ, Bool, true, Some, slice_get}
use Rattle.semiring_laws.specs.Semiring.{Operations, Below}
use Rattle.weighted_automata.specs.declared.place.Label.TheVariants.{Symbol}
use Rattle.weighted_automata.specs.declared.place.Place.{Place}
use Rattle.weight_tables.specs.Entries.{TableEntry, weight_in}
use Rattle.weight_tables.specs.Tables.{TablesValue, entries_of}
use Rattle.weight_tables.specs.declared.layer.Layer.{Layer}
use Rattle.walk_pairs.specs.declared.pairs.Order.{Order}
use Rattle.walk_pairs.specs.declared.pairs.Stage.{Stage}
use Rattle.walk_pairs.specs.Lowerings.{ArePairsLowered}
use Rattle.walk_pairs.specs.Pairs.{joined, pair_place}
use Rattle.walk_pairs.specs.Giving.{IsFallOn}

module _ {S W Map : Type 0} (s : Operations W Map) (v : TablesValue S W Map) where
  -- What an entry gives was given, if it reads one of these symbols, and nothing else.
  pub record IsEntryGiven (order : Order) (layer : Layer) (stage : Stage) (Has : ℕ → Type 0) (next t : ℕ) (new : TablesValue S W Map) : Type 0 where
    pub lowered : (e : TableEntry W) → slice_get (entries_of layer v) t ≡ Some e → ArePairsLowered s (IsFallOn s v order layer stage e.place.from Has next) v new
    pub met : (e : TableEntry W) → slice_get (entries_of layer v) t ≡ Some e → (g : ℕ) → e.place.label ≡ Symbol g → Has g
        → Below s (weight_in s new.walk (pair_place stage next e.place.to)) (joined s order v.hand e.weight)

-- A place was lowered by the weight in hand, if it was to be.
pub record IsLoweredWhere {S W Map : Type 0} (s : Operations W Map) (is_to : Bool) (place : Place) (v new : TablesValue S W Map) : Type 0 where
  pub lowered : ArePairsLowered s (λ x w. (is_to ≡ true) × (x ≡ place) × (w ≡ v.hand)) v new
  pub met : is_to ≡ true → Below s (weight_in s new.walk place) v.hand
