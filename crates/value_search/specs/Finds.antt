-- How far a search is.
use Rattle.std.specs.Prelude.{◌≡◌, ℕ, ◌≤◌, List, Option, None, Some, slice_get}
use Rattle.semiring_laws.specs.Semiring.{Operations}
use Rattle.weighted_automata.specs.declared.place.Place.{Place}
use Rattle.pushdown_rules.specs.Pushdown.{Pushdown}
use Rattle.config_patterns.specs.Membership.{PatternValue}
use Rattle.config_patterns.specs.Edges.{edges_of}
use Rattle.value_laws.specs.Settled.{ArePops, AreEnters, ArePopsSettled, AreEntersSettled}
use Rattle.value_laws.specs.Steps.{IsFurther}
use Rattle.weight_tables.specs.Entries.{TableEntry}
use Rattle.weight_tables.specs.Tables.{TablesValue, AreTables, with_entries, with_hand}
use Rattle.weight_tables.specs.Turns.{turns_left}
use Rattle.value_search.specs.Views.{layer_of, found, weights, counting, IsSound}

-- Entries keep their numbers and places; others may come behind them.
abbrev pub KeepPlaces : {W : Type 0} → List (TableEntry W) → List (TableEntry W) → Type 0
KeepPlaces {W} es es' = (k : ℕ) (e : TableEntry W) → slice_get es k ≡ Some e
    → (e' : TableEntry W) × (slice_get es' k ≡ Some e') × (e'.place ≡ e.place)

-- the entry of a number is that of a place
abbrev pub IsAt : {W : Type 0} → List (TableEntry W) → ℕ → Place → Type 0
IsAt {W} es t x = (e : TableEntry W) × (slice_get es t ≡ Some e) × (e.place ≡ x)

module _ {S W Map : Type 0} (s : Operations W Map) (p : Pushdown S W Map) where
  -- Of what leads from control to control, each weight that was found combines runs, and what the rules ask for of the inputs that do not wait is there.
  pub record FindsPops (v : TablesValue S W Map) : Type 0 where
    pub sound : ArePops s p (weights s v.base)
    pub settled : ArePopsSettled s p (weights s v.base) (counting s v.base)

  -- The same of what leads to a target, over what leads from control to control.
  pub record FindsEnters (target : PatternValue) (v : TablesValue S W Map) : Type 0 where
    pub sound : AreEnters s p target.control (edges_of target.items) (weights s v.target)
    pub settled : AreEntersSettled s p target.control (edges_of target.items) (weights s v.base) (weights s v.target) (counting s v.target)

  -- The tables are of the system, and sound between controls and for what is searched.
  pub record IsSearch (target : Option PatternValue) (v : TablesValue S W Map) : Type 0 where
    pub same : v.system ≡ p
    pub tables : AreTables s v
    pub base : IsSound s p None v.base
    pub sound : IsSound s p target (found target v)

  -- It is so still: weights only fell, entries keep their numbers, it ends no later, and the other layers are as they were.
  pub record IsOnward (target : Option PatternValue) (old new : TablesValue S W Map) : Type 0 where
    pub search : IsSearch target new
    pub further : IsFurther s (weights s (found target old)) (counting s (found target old)) (weights s (found target new)) (counting s (found target new))
    pub places : KeepPlaces (found target old) (found target new)
    pub fewer : turns_left s (found target new) ≤ turns_left s (found target old)
    pub others : new ≡ with_hand new.hand (with_entries (layer_of target) (found target new) old)
