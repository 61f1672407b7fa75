-- Runs that were looked at.
use Rattle.std.specs.Prelude.{◌≡◌, ℕ, Bool, IsTrue, Option, IsSome, List, ◌++◌}
use Rattle.pushdown_rules.specs.Pushdown.{Pushdown}
use Rattle.relation_laws.specs.Building.{Parts}
use Rattle.relation_weights.specs.declared.rel_map.RelMap.{RelMap}
use Rattle.boolean_programs.specs.Programs.{Program}
use Rattle.boolean_meaning.specs.declared.state.State.{State}
use Rattle.program_traces.specs.Traces.{FiresFromEntry}
use Rattle.program_traces.specs.Firsts.{IsInfeasible, FireFromEntry, HasFeasible}

-- The run fires from main's first point, and where it has a trace it is feasible.
pub record IsTraced (p : Program) (system : Pushdown ℕ Parts RelMap) (run : List ℕ) (trace : Option (List State)) : Type 0 where
  pub fires : FiresFromEntry p system run
  pub feasible : IsSome trace → IsInfeasible system run → ⊥

-- Runs from the first on fire, and one of them is feasible where this is told.
pub record AreTraced (p : Program) (system : Pushdown ℕ Parts RelMap) (runs left : List (List ℕ)) (found : Bool) : Type 0 where
  pub taken : List (List ℕ)
  pub joins : runs ≡ taken ++ left
  pub fire : FireFromEntry p system taken
  pub feasible : IsTrue found → HasFeasible system taken
