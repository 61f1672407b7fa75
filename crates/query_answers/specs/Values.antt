-- What values are asked of.
use Rattle.std.specs.Prelude.{ℕ}
use Rattle.pushdown_rules.specs.Pushdown.{Pushdown}
use Rattle.witness_graph.specs.declared.node.Side.{Side}

-- A system whose queries are answered by a side and so many workers.
pub record ValuesOf (S W Map : Type 0) : Type 0 where
  pub system : Pushdown S W Map
  pub side : Side
  pub workers : ℕ
