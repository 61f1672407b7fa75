-- What tables say that a walk goes over.
use Rattle.std.specs.Prelude.{ℕ}
use Rattle.semiring_laws.specs.Semiring.{Operations}
use Rattle.config_patterns.specs.Edges.{edges_of}
use Rattle.config_patterns.specs.Membership.{PatternValue}
use Rattle.weight_tables.specs.Entries.{weight_in}
use Rattle.weight_tables.specs.Tables.{TablesValue}
use Rattle.walk_pairs.specs.Pairs.{place_over}
use Rattle.value_laws.specs.Runs.{Pops, Enters, IsSum}
use Rattle.value_laws.specs.Settled.{Table}
use Rattle.pushdown_rules.specs.Values.{value_of}

module _ {S W Map : Type 0} (s : Operations W Map) (v : TablesValue S W Map) where
  -- the weights between controls, and to the target
  abbrev pub pops_in : Table W
  pops_in from g to = weight_in s v.base (place_over from g to)

  abbrev pub enters_in : Table W
  enters_in from g state = weight_in s v.target (place_over from g state)

  -- each weight between controls is the combination of all runs of its place
  abbrev pub ArePopSums : Type 0
  ArePopSums = (from g to : ℕ) → IsSum s (value_of s v.system) (Pops v.system from g to) (pops_in from g to)

  -- and each to the target
  abbrev pub AreEnterSums : PatternValue → Type 0
  AreEnterSums to = (from g state : ℕ) → IsSum s (value_of s v.system) (Enters v.system to.control (edges_of to.items) from g state) (enters_in from g state)
