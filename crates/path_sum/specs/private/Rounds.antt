-- A sum between two rounds, and at its end.
use Rattle.std.specs.Prelude.{◌≡◌, ◌+◌, ◌≤◌, List, [], length}
use Rattle.config_patterns.specs.Membership.{PatternValue}
use Rattle.pushdown_rules.specs.Pushdown.{Pushdown}
use Rattle.saturation_laws.specs.Bound.{fallen}
use Rattle.saturation_laws.specs.declared.opening.Opening.{Opening}
use Rattle.saturation_laws.specs.States.{CoreState}
use Rattle.saturation_laws.specs.Ways.{Way}
use Rattle.semiring_laws.specs.Semiring.{Operations}
use Rattle.weighted_automata.specs.declared.transitions.Entry.{Entry}
use Rattle.witness_graph.specs.declared.node.Node.{Node}
use Rattle.path_sum.specs.Sums.{ways_of, IsGrown}
use Rattle.path_sum.specs.private.Inputs.{SumInputValue}
use Rattle.path_sum.specs.private.Work.{IsAwaited, IsAmong, sum_places}

module _ {S W Map : Type 0} (s : Operations W Map) (input : SumInputValue S W Map) (nodes : List Node) where
  -- What holds of a sum whenever it takes the next pair.
  pub record IsUnderWay (st : CoreState S W Map) : Type 0 where
    pub grown : IsGrown s input.side input.opening input.transitions nodes (ways_of input.pattern) st
    pub awaited : IsAwaited s input.side input.opening input.transitions (ways_of input.pattern) st
    pub among : IsAmong (sum_places (ways_of input.pattern) input.transitions) st.transitions
    pub few : length st.nodes ≤ length nodes + 1 + fallen s st.transitions (sum_places (ways_of input.pattern) input.transitions)

module _ {S W Map D : Type 0} (operations : S → Operations W Map) (way : Way S W Map D) (p : Pushdown S W Map) (d : D) (o : Opening)
    (ts : List (Entry S W Map)) (nodes : List Node) (pattern : PatternValue) where
  -- what a sum over these transitions goes over
  abbrev pub input_of : SumInputValue S W Map
  input_of = record { semiring = p.semiring; side = (way.tables d p).side; opening = o; transitions = ts; pattern = pattern }

  -- The sum is done: nothing waits.
  pub record IsWalked (st : CoreState S W Map) : Type 0 where
    pub under_way : IsUnderWay (operations p.semiring) input_of nodes st
    pub ended : st.queue ≡ []
