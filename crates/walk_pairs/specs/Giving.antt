-- What a pair gives to others, along the edges of a pattern. The weight in hand is the pair's.
use Rattle.std.specs.Prelude.{◌≡◌, ℕ, List}
use Rattle.wpds_base.specs.Lists.{IsIn}
use Rattle.semiring_laws.specs.Semiring.{Operations, Below}
use Rattle.config_patterns.specs.declared.edge.Edge.{Edge}
use Rattle.weighted_automata.specs.declared.place.Place.{Place}
use Rattle.weight_tables.specs.Entries.{weight_in}
use Rattle.weight_tables.specs.Tables.{TablesValue, entries_of}
use Rattle.weight_tables.specs.declared.layer.Layer.{Layer}
use Rattle.weight_tables.specs.declared.layer.Layer.TheVariants.{Base, Target, Walk}
use Rattle.walk_pairs.specs.declared.pairs.Order.{Order}
use Rattle.walk_pairs.specs.declared.pairs.Stage.{Stage}
use Rattle.walk_pairs.specs.Lowerings.{ArePairsLowered}
use Rattle.walk_pairs.specs.Pairs.{joined, pair_place, place_over}

-- a layer that a walk leaves as it is
abbrev pub IsKept : Layer → Type 0
IsKept Base = Unit {0}
IsKept Target = Unit {0}
IsKept Walk = ⊥

module _ {S W Map : Type 0} (s : Operations W Map) (v : TablesValue S W Map) where
  -- ---- along what leads from one to another in a layer
  module _ (order : Order) (layer : Layer) (stage : Stage) (from : ℕ) where
    -- the weight in hand and that of what leads there over a symbol
    abbrev pub worth_over : ℕ → ℕ → W
    worth_over g to = joined s order v.hand (weight_in s (entries_of layer v) (place_over from g to))

    -- A pair of a state, for what leads over one of these symbols.
    pub record IsFallOn (Has : ℕ → Type 0) (state : ℕ) (x : Place) (w : W) : Type 0 where
      pub symbol : ℕ
      pub to : ℕ
      pub has : Has symbol
      pub place : x ≡ pair_place stage state to
      pub weight : w ≡ worth_over symbol to

    -- Only such pairs were lowered, and each of them is.
    pub record AreFallsOnGiven (Has : ℕ → Type 0) (state : ℕ) (new : TablesValue S W Map) : Type 0 where
      pub lowered : ArePairsLowered s (IsFallOn Has state) v new
      pub met : (g : ℕ) → Has g → (to : ℕ) → Below s (weight_in s new.walk (pair_place stage state to)) (worth_over g to)

    -- A pair of the state where an edge from the pair's state leads, for what leads over the edge's symbol.
    pub record IsFall (edges : List Edge) (state : ℕ) (x : Place) (w : W) : Type 0 where
      pub symbol : ℕ
      pub next : ℕ
      pub to : ℕ
      pub edge : IsIn (record { from = state; symbol = symbol; to = next }) edges
      pub place : x ≡ pair_place stage next to
      pub weight : w ≡ worth_over symbol to

    -- Only such pairs were lowered, and each of them is.
    pub record AreFallsGiven (edges : List Edge) (state : ℕ) (new : TablesValue S W Map) : Type 0 where
      pub lowered : ArePairsLowered s (IsFall edges state) v new
      pub met : (g next : ℕ) → IsIn (record { from = state; symbol = g; to = next }) edges → (to : ℕ) → Below s (weight_in s new.walk (pair_place stage next to)) (worth_over g to)
