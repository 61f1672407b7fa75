-- What a sum is made from.
use Rattle.std.specs.Prelude.{List}
use Rattle.config_patterns.specs.Membership.{PatternValue}
use Rattle.saturation_laws.specs.declared.opening.Opening.{Opening}
use Rattle.weighted_automata.specs.declared.transitions.Entry.{Entry}
use Rattle.witness_graph.specs.declared.node.Side.{Side}

-- What a sum goes over: transitions, the opening that they began with, and a pattern, by way of the side.
pub record SumInputValue (S W Map : Type 0) : Type 0 where
  pub semiring : S
  pub side : Side
  pub opening : Opening
  pub transitions : List (Entry S W Map)
  pub pattern : PatternValue
