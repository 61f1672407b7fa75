-- What the entries of a search say as tables of weights, and what they are weights of.
use Rattle.std.specs.Prelude.{ℕ, List, Option, None, Some}
use Rattle.semiring_laws.specs.Semiring.{Operations}
use Rattle.weighted_automata.specs.declared.place.Place.{Place}
use Rattle.weighted_automata.specs.declared.place.Label.TheVariants.{Symbol}
use Rattle.pushdown_rules.specs.Pushdown.{Pushdown}
use Rattle.pushdown_rules.specs.Values.{value_of}
use Rattle.config_patterns.specs.Membership.{PatternValue}
use Rattle.config_patterns.specs.Edges.{edges_of}
use Rattle.value_laws.specs.Runs.{Pops, Enters, Sums}
use Rattle.value_laws.specs.Settled.{Table, ArePopsSettled, AreEntersSettled}
use Rattle.weight_tables.specs.Entries.{TableEntry, weight_in, settled_in}
use Rattle.weight_tables.specs.Tables.{TablesValue, entries_of}
use Rattle.weight_tables.specs.declared.layer.Layer.{Layer}
use Rattle.weight_tables.specs.declared.layer.Layer.TheVariants.{Base, Target}

abbrev pub place_at : ℕ → ℕ → ℕ → Place
place_at from g to = record { from = from; label = Symbol g; to = to }

-- the layer of what leads from control to control, and of what leads to a target
abbrev pub layer_of : Option PatternValue → Layer
layer_of None = Base
layer_of (Some target) = Target

module _ {S W Map : Type 0} where
  -- what was found so far
  abbrev pub found : Option PatternValue → TablesValue S W Map → List (TableEntry W)
  found target v = entries_of (layer_of target) v

module _ {S W Map : Type 0} (p : Pushdown S W Map) where
  -- the runs of a transition: without a target those that pop, with one those that enter it
  abbrev pub Leads : Option PatternValue → ℕ → ℕ → ℕ → List ℕ → Type 0
  Leads None from g to = Pops p from g to
  Leads (Some target) from g to = Enters p target.control (edges_of target.items) from g to

module _ {W Map : Type 0} (s : Operations W Map) where
  -- the weight of each transition, and zero where there is none
  abbrev pub weights : List (TableEntry W) → Table W
  weights es from g to = weight_in s es (place_at from g to)

  -- the same of those that do not wait, and zero of the others
  abbrev pub counting : List (TableEntry W) → Table W
  counting es from g to = settled_in s es (place_at from g to)

  module _ {S : Type 0} (p : Pushdown S W Map) where
    -- each weight combines runs of its transition
    abbrev pub IsSound : Option PatternValue → List (TableEntry W) → Type 0
    IsSound target es = (from g to : ℕ) → Sums s (value_of s p) (Leads p target from g to) (weights es from g to)

    -- what the rules ask for, with the inputs that count, is there; those between controls stand in `base`
    abbrev pub AreSettled : Option PatternValue → List (TableEntry W) → Table W → Table W → Type 0
    AreSettled None base weight settled = ArePopsSettled s p weight settled
    AreSettled (Some target) base weight settled = AreEntersSettled s p target.control (edges_of target.items) (counting base) weight settled
