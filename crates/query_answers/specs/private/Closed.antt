-- What the plain search backwards keeps for all queries.
use Rattle.std.specs.Prelude.{◌≡◌}
use Rattle.semiring_laws.specs.Semiring.{Operations}
use Rattle.pushdown_rules.specs.Pushdown.{Pushdown}
use Rattle.weight_tables.specs.Entries.{NoneWaits}
use Rattle.weight_tables.specs.Tables.{TablesValue}
use Rattle.value_search.specs.Finds.{FindsPops}

-- The tables are of the system, and what leads from control to control was searched to its end.
pub record IsClosedOver {S W Map : Type 0} (operations : S → Operations W Map) (p : Pushdown S W Map) (v : TablesValue S W Map) : Type 0 where
  pub system : v.system ≡ p
  pub finds : FindsPops (operations p.semiring) p v
  pub closed : NoneWaits v.base
