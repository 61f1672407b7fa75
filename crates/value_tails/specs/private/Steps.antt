-- What steps of the making of tails give. While they are made, the walk's layer has links: from a source to the callee of a call that lies above it.
use Rattle.std.specs.Prelude.{◌≡◌, ◌⊎◌, ℕ, IsTrue, List, [], ◌∷◌, length, Some, slice_get}
use Rattle.wpds_base.specs.Lists.{IsIn}
use Rattle.semiring_laws.specs.Semiring.{Operations, Fits, Below}
use Rattle.pushdown_rules.specs.declared.rule.Rule.{Rule}
use Rattle.pushdown_rules.specs.Pushdown.{Pushdown}
use Rattle.pushdown_rules.specs.Values.{value_of}
use Rattle.config_patterns.specs.Edges.{edges_of, is_final_of}
use Rattle.config_patterns.specs.Membership.{PatternValue}
use Rattle.weighted_automata.specs.declared.place.Label.TheVariants.{Symbol, Empty}
use Rattle.weighted_automata.specs.declared.place.Place.{Place}
use Rattle.weight_tables.specs.Entries.{TableEntry, weight_in, settled_in}
use Rattle.weight_tables.specs.Tables.{TablesValue, with_entries, with_hand}
use Rattle.weight_tables.specs.declared.layer.Layer.TheVariants.{Target, Walk}
use Rattle.walk_pairs.specs.Lowerings.{AreLowered}
use Rattle.value_laws.specs.Runs.{Sums}
use Rattle.forward_value_laws.specs.Model.{Source, callee}
use Rattle.forward_value_laws.specs.Tails.{LiesBelow}
use Rattle.forward_value_search.specs.Places.{arrow, number_of}
use Rattle.value_tails.specs.Tailing.{tail_place, tail_in, IsTail}

abbrev pub link_place : ℕ → ℕ → Place
link_place n m = arrow n Empty m

-- what a tail gives where the pattern reads on is there
abbrev pub AreReadsGiven : {W Map : Type 0} → Operations W Map → PatternValue → List (TableEntry W) → ℕ → W → Type 0
AreReadsGiven s first now b w = (a g : ℕ) → IsIn (record { from = a; symbol = g; to = b }) (edges_of first.items) → Below s (tail_in s now a) w

module _ {S W Map : Type 0} (s : Operations W Map) (first : PatternValue) where
  -- the weight is zero, or after a run to what lies below the source of one number it leads to what lies below the callee of another
  abbrev pub IsLink : Pushdown S W Map → ℕ → ℕ → W → Type 0
  IsLink p n m w = (w ≡ s.zero) ⊎ ((to : ℕ) × (g : ℕ) × (number_of (length first.items) p (callee to g) ≡ Some m)
      × ((from : Source) → number_of (length first.items) p from ≡ Some n → (t : W) → Sums s (value_of s p) (LiesBelow p first from) t → Sums s (value_of s p) (LiesBelow p first (callee to g)) (s.extend t w)))

  abbrev pub IsLinkWeight : TablesValue S W Map → Place → W → Type 0
  IsLinkWeight v x w = Fits s w × IsLink v.system x.from x.to w

  abbrev pub IsTailWeight : TablesValue S W Map → Place → W → Type 0
  IsTailWeight v x w = Fits s w × IsTail s first v.system x.to w

  -- Links were lowered, and nothing else is other than it was but the hand.
  pub record AreLinksLowered (v new : TablesValue S W Map) : Type 0 where
    pub lowered : AreLowered s (IsLinkWeight v) v.walk new.walk
    pub others : new ≡ with_hand new.hand (with_entries Walk new.walk v)

  -- Tails were.
  pub record AreTailsLowered (v new : TablesValue S W Map) : Type 0 where
    pub lowered : AreLowered s (IsTailWeight v) v.target new.target
    pub others : new ≡ with_hand new.hand (with_entries Target new.target v)

  -- the link for a call by a rule from what stands at a row is there
  abbrev pub IsLinked : TablesValue S W Map → List (TableEntry W) → ℕ → Rule S W Map → ℕ → Type 0
  IsLinked v now k r n = (g h : ℕ) → r.right ≡ g ∷ h ∷ [] → (m : ℕ) → number_of (length first.items) v.system (callee r.to g) ≡ Some m
      → Below s (weight_in s now (link_place n m)) (s.extend (weight_in s v.base (arrow r.control (Symbol r.symbol) n)) r.weight)

  -- the links of all rules that fire on a row, from what stands there
  abbrev pub IsRowLinked : TablesValue S W Map → List (TableEntry W) → Place → Type 0
  IsRowLinked v now x = (k : ℕ) (r : Rule S W Map) → slice_get v.system.rules k ≡ Some r → x ≡ arrow r.control (Symbol r.symbol) x.to → IsLinked v now k r x.to

  -- All links are there.
  pub record IsLinkedUp (v : TablesValue S W Map) : Type 0 where
    pub links : (x : Place) → IsLink v.system x.from x.to (weight_in s v.walk x)
    pub opens : (k : ℕ) (r : Rule S W Map) → slice_get v.system.rules k ≡ Some r → (n : ℕ) → IsLinked v v.walk k r n

  -- what a tail gives along links is there
  abbrev pub AreLinksGiven : TablesValue S W Map → List (TableEntry W) → ℕ → W → Type 0
  AreLinksGiven v now n w = (m : ℕ) → Below s (tail_in s now m) (s.extend w (weight_in s v.walk (link_place n m)))

  -- Each tail that was found combines runs, and those that do not wait have given what they give.
  pub record IsTailing (v : TablesValue S W Map) : Type 0 where
    pub sums : (x : Place) → IsTail s first v.system x.to (weight_in s v.target x)
    pub ends : (a : ℕ) → IsTrue (is_final_of first.items a) → Below s (tail_in s v.target a) s.one
    pub reads : (b : ℕ) → AreReadsGiven s first v.target b (settled_in s v.target (tail_place b))
    pub links : (n : ℕ) → AreLinksGiven v v.target n (settled_in s v.target (tail_place n))

-- nothing but the tails and the hand is other than it was
abbrev pub IsTailedOver : {S W Map : Type 0} → TablesValue S W Map → TablesValue S W Map → Type 0
IsTailedOver old new = new ≡ with_hand new.hand (with_entries Target new.target old)
