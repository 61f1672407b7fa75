-- What calls that stay open give.
use Rattle.std.specs.Prelude.{◌≡◌, ℕ, suc, List, [], ◌∷◌, Some, slice_get}
use Rattle.semiring_laws.specs.Semiring.{Operations, Fits, Below}
use Rattle.pushdown_rules.specs.declared.rule.Rule.{Rule}
use Rattle.config_patterns.specs.Membership.{PatternValue}
use Rattle.weighted_automata.specs.declared.place.Place.{Place}
use Rattle.weight_tables.specs.Entries.{TableEntry, weight_in, settled_in}
use Rattle.weight_tables.specs.Tables.{TablesValue}
use Rattle.walk_pairs.specs.declared.pairs.Stage.TheVariants.{Down, Above}
use Rattle.walk_pairs.specs.Pairs.{pair_place, place_over}
use Rattle.walk_pairs.specs.Lowerings.{AreLowered}
use Rattle.walk_pairs.specs.Answering.{IsWalkedOver}
use Rattle.walk_pairs.specs.Ways.{TakesAt}
use Rattle.forward_value_laws.specs.Model.{callee}
use Rattle.forward_value_walk.specs.Walking.{number, IsMade}

module _ {S W Map : Type 0} (s : Operations W Map) (first wanted : PatternValue) (l source k : ℕ) where
  -- A pair of the state of an item that takes what the rule leaves below, and a source of the rule's head: the call lies above what was read with this weight.
  pub record IsCall (v : TablesValue S W Map) (x : Place) (w : W) : Type 0 where
    pub rule : Rule S W Map
    pub there : slice_get v.system.rules k ≡ Some rule
    pub top : ℕ
    pub below : ℕ
    pub right : rule.right ≡ top ∷ below ∷ []
    pub entered : number s v.system first wanted (callee rule.to top) ≡ Some source
    pub takes : TakesAt wanted.items (suc l) below
    pub from : ℕ
    pub place : x ≡ pair_place Down (suc l) from
    pub worth : W
    pub fits : Fits s worth
    pub made : IsMade s v.system first wanted (pair_place Above l source) worth
    pub weight : w ≡ s.extend (weight_in s v.base (place_over rule.control rule.symbol from)) (s.extend rule.weight worth)

  -- what a call by the rule asks of pairs is there, by what counts of what was read
  abbrev pub IsCallMet : TablesValue S W Map → List (TableEntry W) → Rule S W Map → Type 0
  IsCallMet v now r = (g h : ℕ) → r.right ≡ g ∷ h ∷ [] → TakesAt wanted.items (suc l) h → (n : ℕ)
      → Below s (weight_in s now (pair_place Down (suc l) n)) (s.extend (weight_in s v.base (place_over r.control r.symbol n)) (s.extend r.weight (settled_in s now (pair_place Above l source))))

  -- Only such pairs were lowered, and each is; the hand may be another.
  pub record AreRuleCallsGiven (v new : TablesValue S W Map) : Type 0 where
    pub lowered : AreLowered s (IsCall v) v.walk new.walk
    pub others : IsWalkedOver v new
    pub met : (r : Rule S W Map) → slice_get v.system.rules k ≡ Some r → IsCallMet v new.walk r
