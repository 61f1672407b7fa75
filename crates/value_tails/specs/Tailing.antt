-- Where tails stand: by the number of a source, in the target layer.
use Rattle.std.specs.Prelude.{◌≡◌, ◌⊎◌, ℕ, IsTrue, List, [], ◌∷◌, length, Some, slice_get}
use Rattle.wpds_base.specs.Lists.{IsIn}
use Rattle.semiring_laws.specs.Semiring.{Operations, Below}
use Rattle.pushdown_rules.specs.declared.rule.Rule.{Rule}
use Rattle.pushdown_rules.specs.Pushdown.{Pushdown}
use Rattle.pushdown_rules.specs.Values.{value_of}
use Rattle.config_patterns.specs.Edges.{edges_of, is_final_of}
use Rattle.config_patterns.specs.Membership.{PatternValue}
use Rattle.weighted_automata.specs.declared.place.Label.TheVariants.{Symbol, Empty}
use Rattle.weighted_automata.specs.declared.place.Place.{Place}
use Rattle.weight_tables.specs.Entries.{TableEntry, weight_in}
use Rattle.weight_tables.specs.Tables.{TablesValue}
use Rattle.value_laws.specs.Runs.{Sums}
use Rattle.forward_value_laws.specs.Model.{Source, callee}
use Rattle.forward_value_laws.specs.Tails.{LiesBelow}
use Rattle.forward_value_search.specs.Places.{arrow, number_of}

abbrev pub tail_place : ℕ → Place
tail_place n = arrow 0 Empty n

abbrev pub tail_in : {W Map : Type 0} → Operations W Map → List (TableEntry W) → ℕ → W
tail_in s es n = weight_in s es (tail_place n)

module _ {S W Map : Type 0} (s : Operations W Map) (first : PatternValue) where
  -- the weight is zero, or combines runs to what lies below the source of the number
  abbrev pub IsTail : Pushdown S W Map → ℕ → W → Type 0
  IsTail p n w = (w ≡ s.zero) ⊎ ((from : Source) × (number_of (length first.items) p from ≡ Some n) × Sums s (value_of s p) (LiesBelow p first from) w)

  -- The target layer has the tails of all sources: each combines runs, and is below what lies on below it.
  pub record IsTailed (v : TablesValue S W Map) : Type 0 where
    pub sums : (n : ℕ) → IsTail v.system n (tail_in s v.target n)
    pub ends : (a : ℕ) → IsTrue (is_final_of first.items a) → Below s (tail_in s v.target a) s.one
    pub reads : (a g b : ℕ) → IsIn (record { from = a; symbol = g; to = b }) (edges_of first.items) → Below s (tail_in s v.target a) (tail_in s v.target b)
    pub opens : (k : ℕ) (r : Rule S W Map) → slice_get v.system.rules k ≡ Some r → (g h : ℕ) → r.right ≡ g ∷ h ∷ [] → (m : ℕ) → number_of (length first.items) v.system (callee r.to g) ≡ Some m → (n : ℕ)
        → Below s (tail_in s v.target m) (s.extend (tail_in s v.target n) (s.extend (weight_in s v.base (arrow r.control (Symbol r.symbol) n)) r.weight))
