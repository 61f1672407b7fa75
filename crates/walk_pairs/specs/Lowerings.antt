-- Finitely many lowerings, one after another.
use Rattle.std.specs.Prelude.{◌≡◌, List, [], ◌∷◌}
use Rattle.std.specs.List.{AllByRecursion}
use Rattle.semiring_laws.specs.Semiring.{Operations}
use Rattle.weighted_automata.specs.declared.place.Place.{Place}
use Rattle.weight_tables.specs.Entries.{TableEntry, lowered_in}
use Rattle.weight_tables.specs.Tables.{TablesValue, with_entries}
use Rattle.weight_tables.specs.declared.layer.Layer.TheVariants.{Walk}

-- a weight that comes to a place
pub record Lowering (W : Type 0) : Type 0 where
  pub place : Place
  pub weight : W

module _ {W Map : Type 0} (s : Operations W Map) where
  -- the entries after these, one after another
  abbrev pub lowered_by : List (Lowering W) → List (TableEntry W) → List (TableEntry W)
  lowered_by [] es = es
  lowered_by (x ∷ xs) es = lowered_by xs (lowered_in s x.place x.weight es)

  -- The entries were lowered by finitely many weights of a kind at their places.
  pub record AreLowered (Is : Place → W → Type 0) (old new : List (TableEntry W)) : Type 0 where
    pub steps : List (Lowering W)
    pub each : AllByRecursion (λ x. Is x.place x.weight) steps
    pub made : new ≡ lowered_by steps old

  -- Pairs of the walk were, and nothing else was changed.
  pub record ArePairsLowered {S : Type 0} (Is : Place → W → Type 0) (old new : TablesValue S W Map) : Type 0 where
    pub pairs : AreLowered Is old.walk new.walk
    pub others : new ≡ with_entries Walk new.walk old
