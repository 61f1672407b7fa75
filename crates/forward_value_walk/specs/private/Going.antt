-- What holds of a walk while it goes on.
use Rattle.std.specs.Prelude.{◌≡◌, ℕ, Bool, IsTrue, List, [], ◌∷◌, Some, slice_get}
use Rattle.semiring_laws.specs.Semiring.{Operations, Fits, Below}
use Rattle.pushdown_rules.specs.declared.rule.Rule.{Rule}
use Rattle.config_patterns.specs.Membership.{PatternValue}
use Rattle.weighted_automata.specs.declared.place.Place.{Place}
use Rattle.weighted_automata.specs.declared.place.Label.TheVariants.{Empty}
use Rattle.weight_tables.specs.Entries.{TableEntry, weight_in}
use Rattle.weight_tables.specs.Tables.{TablesValue}
use Rattle.walk_pairs.specs.declared.pairs.Stage.TheVariants.{Down, Before, Above}
use Rattle.walk_pairs.specs.Pairs.{pair_place}
use Rattle.walk_pairs.specs.Lowerings.{AreLowered}
use Rattle.walk_pairs.specs.Answering.{IsWalkedOver}
use Rattle.forward_value_laws.specs.Model.{callee}
use Rattle.forward_value_search.specs.Places.{arrow}
use Rattle.forward_value_laws.specs.Tails.{IsSymbol, TakesRest}
use Rattle.value_tails.specs.Tailing.{IsTailed}
use Rattle.forward_value_walk.specs.Walking.{number, IsMade, IsSettled, IsPairMet, IsBeforeMet, IsAboveMet}
use Rattle.forward_value_walk.specs.private.Opening.{IsCallMet}

-- the pair of an item's number, of which nothing has been read, is below what leads to that item over nothing
abbrev pub IsUncovered : {S W Map : Type 0} → Operations W Map → PatternValue → TablesValue S W Map → ℕ → List (TableEntry W) → Type 0
IsUncovered s wanted v i now = Below s (weight_in s now (pair_place Down 0 i)) (weight_in s v.base (arrow wanted.control Empty i))

module _ {S W Map : Type 0} (s : Operations W Map) (first wanted : PatternValue) where
  -- a weight that combines runs of its place
  abbrev pub IsRuns : TablesValue S W Map → Place → W → Type 0
  IsRuns v x w = Fits s w × IsMade s v.system first wanted x w

  -- each weight of the walk combines runs
  abbrev pub AreMade : TablesValue S W Map → Type 0
  AreMade v = (x : Place) → IsMade s v.system first wanted x (weight_in s v.walk x)

  -- Pairs were lowered by weights that combine runs, and nothing else is other than it was but the hand.
  pub record IsGoneOn (v new : TablesValue S W Map) : Type 0 where
    pub lowered : AreLowered s (IsRuns v) v.walk new.walk
    pub others : IsWalkedOver v new

  -- The target layer has the tails that are asked for where the walk stops, and there it may stop: the state takes the rest.
  abbrev pub IsStopped : (ℕ → Bool) → TablesValue S W Map → Type 0
  IsStopped stops v = (j : ℕ) → IsTrue (stops j) → IsTailed s first v × TakesRest (IsSymbol v.system first) wanted.items j

  -- All calls of the callee of a number were given to the pairs above them, where an item reads what they left below.
  pub record AreCallsGiven (l source : ℕ) (v new : TablesValue S W Map) : Type 0 where
    pub gone : IsGoneOn v new
    pub met : (k : ℕ) (r : Rule S W Map) → slice_get v.system.rules k ≡ Some r → (g h : ℕ) → r.right ≡ g ∷ h ∷ [] → number s v.system first wanted (callee r.to g) ≡ Some source
        → IsCallMet s first wanted l source k v new.walk r

  -- A pair has given all that it gives.
  pub record IsPairGiven (stops : ℕ → Bool) (state source : ℕ) (v new : TablesValue S W Map) : Type 0 where
    pub gone : IsGoneOn v new
    pub met : IsPairMet s v.system first wanted v.base new.walk stops v.target state source

  -- So has what stands before two items.
  pub record AreItemsGiven (k l : ℕ) (v new : TablesValue S W Map) : Type 0 where
    pub gone : IsGoneOn v new
    pub met : IsBeforeMet s v.system first wanted v.base new.walk k l

  -- So has an item above a source.
  pub record IsAboveGiven (l source : ℕ) (v new : TablesValue S W Map) : Type 0 where
    pub gone : IsGoneOn v new
    pub met : IsAboveMet s v.system first wanted v.base new.walk l source

  -- What stands at a place has given all that it gives. What is no pair gives nothing.
  pub record IsPlaceGiven (stops : ℕ → Bool) (place : Place) (v new : TablesValue S W Map) : Type 0 where
    pub gone : IsGoneOn v new
    pub met : (i m : ℕ) → place ≡ pair_place Down i m → IsPairMet s v.system first wanted v.base new.walk stops v.target i m
    pub met_before : (k l : ℕ) → place ≡ pair_place Before k l → IsBeforeMet s v.system first wanted v.base new.walk k l
    pub met_above : (l m : ℕ) → place ≡ pair_place Above l m → IsAboveMet s v.system first wanted v.base new.walk l m

  -- Each weight combines runs, and each pair that does not wait has given what it gives.
  pub record IsWalking (stops : ℕ → Bool) (v : TablesValue S W Map) : Type 0 where
    pub made : AreMade v
    pub settled : IsSettled s v.system first wanted v.base v.walk stops v.target
