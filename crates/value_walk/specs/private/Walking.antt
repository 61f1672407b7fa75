-- What holds of a walk between its turns.
use Rattle.std.specs.Prelude.{◌≡◌, ◌⊎◌, ℕ, zero, suc, List}
use Rattle.semiring_laws.specs.Semiring.{Operations, Below}
use Rattle.pushdown_rules.specs.Pushdown.{Pushdown}
use Rattle.pushdown_rules.specs.Answers.{Leads}
use Rattle.pushdown_rules.specs.Values.{value_of}
use Rattle.config_patterns.specs.Edges.{edges_of}
use Rattle.config_patterns.specs.Membership.{PatternValue, has_member}
use Rattle.weighted_automata.specs.declared.place.Label.{Label}
use Rattle.weighted_automata.specs.declared.place.Label.TheVariants.{Symbol, Empty}
use Rattle.weighted_automata.specs.declared.place.Place.{Place}
use Rattle.weight_tables.specs.Entries.{TableEntry, weight_in, settled_in}
use Rattle.weight_tables.specs.Tables.{TablesValue}
use Rattle.weight_tables.specs.declared.layer.Layer.TheVariants.{Base, Target}
use Rattle.walk_pairs.specs.declared.pairs.Order.TheVariants.{Then}
use Rattle.walk_pairs.specs.declared.pairs.Stage.{Stage}
use Rattle.walk_pairs.specs.declared.pairs.Stage.TheVariants.{Down, Across, Before, Above}
use Rattle.walk_pairs.specs.Pairs.{pair_place, answer_place}
use Rattle.walk_pairs.specs.Lowerings.{ArePairsLowered}
use Rattle.walk_pairs.specs.Giving.{IsFallOn}
use Rattle.walk_pairs.specs.Reading.{ComesBefore, IsStateRead, IsItemSkipped, AreReadingsSettled, IsStateStand, IsItemSkip, IsPairGiven, IsBeforeGiven}
use Rattle.walk_pairs.specs.Ways.{TakesAt}
use Rattle.value_laws.specs.Runs.{Sums}
use Rattle.value_laws.specs.Settled.{Table}
use Rattle.value_laws.specs.Walk.{Pairs, Descends, Crosses}
use Rattle.value_walk.specs.Answering.{pops_in, enters_in}

module _ (from to : PatternValue) where
  module _ {S W Map : Type 0} (p : Pushdown S W Map) where
    -- The run leads from a stack that the source's edges read to a state, to one that the target's read to a state; from these both patterns may come to read the two items next.
    pub record Stands (k l : ℕ) (run : List ℕ) : Type 0 where
      pub state : ℕ
      pub end : ℕ
      pub comes : ComesBefore from.items state k
      pub comes_end : ComesBefore to.items end l
      pub crosses : Crosses p from.control (edges_of from.items) to.control (edges_of to.items) state end run

    -- The run uses up a stack that the source's edges read to a state, from which the pattern may come to read the item next.
    pub record Hangs (k c : ℕ) (run : List ℕ) : Type 0 where
      pub state : ℕ
      pub comes : ComesBefore from.items state k
      pub descends : Descends p from.control (edges_of from.items) state c run

  module _ {S W Map : Type 0} (p : Pushdown S W Map) (s : Operations W Map) where
    -- the runs of a place: those of a pair at a control, of a pair at a state of the target, of what stands before two items or one above a control, and of the answer
    abbrev pub Goes : ℕ → Label → ℕ → List ℕ → Type 0
    Goes zero (Symbol i) c = Descends p from.control (edges_of from.items) i c
    Goes (suc zero) (Symbol i) a = Crosses p from.control (edges_of from.items) to.control (edges_of to.items) i a
    Goes (suc (suc zero)) (Symbol k) l = Stands p k l
    Goes (suc (suc (suc n))) (Symbol k) c = Hangs p k c
    Goes n Empty c = Leads s p (has_member from) (has_member to)

    -- the weight of a place combines such runs
    abbrev pub IsMade : Place → W → Type 0
    IsMade x w = Sums s (value_of s p) (Goes x.from x.label x.to) w

module _ {W Map : Type 0} (s : Operations W Map) (es : List (TableEntry W)) where
  abbrev pub down_in : Pairs W
  down_in i c = weight_in s es (pair_place Down i c)

  abbrev pub across_in : Pairs W
  across_in i a = weight_in s es (pair_place Across i a)

  abbrev pub before_in : Pairs W
  before_in k l = weight_in s es (pair_place Before k l)

  abbrev pub above_in : Pairs W
  above_in k c = weight_in s es (pair_place Above k c)

  abbrev pub answer_in : W
  answer_in = weight_in s es answer_place

  -- of the pairs that do not wait
  abbrev pub settled_down : Pairs W
  settled_down i c = settled_in s es (pair_place Down i c)

  abbrev pub settled_across : Pairs W
  settled_across i a = settled_in s es (pair_place Across i a)

  abbrev pub settled_before : Pairs W
  settled_before k l = settled_in s es (pair_place Before k l)

  abbrev pub settled_above : Pairs W
  settled_above k c = settled_in s es (pair_place Above k c)

module _ {W Map : Type 0} (s : Operations W Map) (from to : PatternValue) (pops enters : Table W) where
  -- What a pair at a control gives of this weight is there.
  pub record IsDownRead (i c : ℕ) (w : W) (across above : Pairs W) : Type 0 where
    pub reads : IsStateRead s from.items i c w above
    pub meets : c ≡ to.control → Below s (across i 0) w

  -- What an item that is read next above a control gives of it is there.
  pub record IsAboveRead (k c : ℕ) (w : W) (down across above : Pairs W) : Type 0 where
    pub skips : IsItemSkipped s from.items k c w above
    pub falls : (g : ℕ) → TakesAt from.items (suc k) g → (q : ℕ) → Below s (down (suc k) q) (s.extend w (pops c g q))
    pub goes_in : (g : ℕ) → TakesAt from.items (suc k) g → (a : ℕ) → Below s (across (suc k) a) (s.extend w (enters c g a))

module _ {S W Map : Type 0} (s : Operations W Map) (to : PatternValue) where
  -- The pair across, where the control is the target's.
  pub record IsMeeting (v : TablesValue S W Map) (i c : ℕ) (x : Place) (w : W) : Type 0 where
    pub control : c ≡ to.control
    pub place : x ≡ pair_place Across i 0
    pub weight : w ≡ v.hand

  -- Only that pair was lowered, and it is, where the control is the target's.
  pub record IsMeetingGiven (i c : ℕ) (v new : TablesValue S W Map) : Type 0 where
    pub lowered : ArePairsLowered s (IsMeeting v i c) v new
    pub met : c ≡ to.control → Below s (weight_in s new.walk (pair_place Across i 0)) v.hand

module _ {W Map : Type 0} (s : Operations W Map) (from to : PatternValue) (pops enters : Table W) (es : List (TableEntry W)) where
  -- All pairs that count have given what they give.
  pub record ArePairsSettled : Type 0 where
    pub begins : Below s (down_in s es 0 from.control) s.one
    pub downs : (i c : ℕ) → IsDownRead s from to pops enters i c (settled_down s es i c) (across_in s es) (above_in s es)
    pub aboves : (k c : ℕ) → IsAboveRead s from to pops enters k c (settled_above s es k c) (down_in s es) (across_in s es) (above_in s es)
    pub readings : AreReadingsSettled s from.items to.items (across_in s es) (settled_across s es) (before_in s es) (settled_before s es) (answer_in s es)

module _ {S W Map : Type 0} (s : Operations W Map) (from to : PatternValue) where
  -- Each weight is made of runs, and each pair that does not wait has given what it gives.
  pub record IsWalking (v : TablesValue S W Map) : Type 0 where
    pub made : (x : Place) → IsMade from to v.system s x (weight_in s v.walk x)
    pub settled : ArePairsSettled s from to (pops_in s v) (enters_in s v) v.walk

  -- what a pair at a control gives to others, with its weight in hand
  abbrev pub IsGivenDown : TablesValue S W Map → ℕ → ℕ → Place → W → Type 0
  IsGivenDown v i c x w = IsStateStand v.hand from.items i c x w ⊎ IsMeeting s to v i c x w

  -- and what an item that is read next above a control does
  abbrev pub IsGivenAbove : TablesValue S W Map → ℕ → ℕ → Place → W → Type 0
  IsGivenAbove v k c x w =
      let Takes : ℕ → Type 0 = TakesAt from.items (suc k) in
      IsItemSkip v.hand from.items k c x w ⊎ (IsFallOn s v Then Base Down c Takes (suc k) x w ⊎ IsFallOn s v Then Target Across c Takes (suc k) x w)

  -- All that a pair of the weight in hand gives was given, and nothing else.
  pub record IsDownGiven (i c : ℕ) (v new : TablesValue S W Map) : Type 0 where
    pub lowered : ArePairsLowered s (IsGivenDown v i c) v new
    pub met : IsDownRead s from to (pops_in s v) (enters_in s v) i c v.hand (across_in s new.walk) (above_in s new.walk)

  pub record IsAboveGiven (k c : ℕ) (v new : TablesValue S W Map) : Type 0 where
    pub lowered : ArePairsLowered s (IsGivenAbove v k c) v new
    pub met : IsAboveRead s from to (pops_in s v) (enters_in s v) k c v.hand (down_in s new.walk) (across_in s new.walk) (above_in s new.walk)

  -- What stands at a place has given all that it gives, with its weight in hand: a pair of one stage or another. What is no pair gives nothing.
  pub record IsPlaceGiven (place : Place) (v new : TablesValue S W Map) : Type 0 where
    pub down : (i c : ℕ) → place ≡ pair_place Down i c → IsDownGiven i c v new
    pub across : (i a : ℕ) → place ≡ pair_place Across i a → IsPairGiven s v from.items to.items i a new
    pub above : (k c : ℕ) → place ≡ pair_place Above k c → IsAboveGiven k c v new
    pub before : (k l : ℕ) → place ≡ pair_place Before k l → IsBeforeGiven s v from.items to.items Across k l new
    pub others : ((stage : Stage) (i x : ℕ) → place ≡ pair_place stage i x → ⊥) → new ≡ v
