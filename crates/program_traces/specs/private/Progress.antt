-- How far the search for the first feasible run has come.
use Rattle.std.specs.Prelude.{◌≡◌, ℕ, ◌+◌, List, ◌++◌}
use Rattle.pushdown_rules.specs.Pushdown.{Pushdown}
use Rattle.relation_laws.specs.Building.{Parts}
use Rattle.relation_weights.specs.declared.rel_map.RelMap.{RelMap}
use Rattle.boolean_programs.specs.Lists.{Each}
use Rattle.report_text.specs.Expansions.{size_of}
use Rattle.program_traces.specs.Firsts.{IsInfeasible}

-- The runs that were taken have the empty relation, and their size is what the limit has lost.
pub record IsSoFar (system : Pushdown ℕ Parts RelMap) (limit : ℕ) (runs : List (List ℕ)) (room : ℕ) (left : List (List ℕ)) : Type 0 where
  pub taken : List (List ℕ)
  pub joins : runs ≡ taken ++ left
  pub infeasible : Each (IsInfeasible system) taken
  pub size : size_of taken + room ≡ limit
