-- The first run of a list whose value is not zero, and the trace that is given for it.
use Rattle.std.specs.Prelude.{◌≡◌, ℕ, ◌<◌, ◌≤◌, List, [], ◌∷◌, ◌++◌}
use Rattle.pushdown_rules.specs.Pushdown.{Pushdown}
use Rattle.pushdown_rules.specs.InSystem.{value_in, zero_in}
use Rattle.relation_laws.specs.Building.{Parts}
use Rattle.relation_weights.specs.declared.rel_map.RelMap.{RelMap}
use Rattle.relation_weights.specs.Relations.{relation_operations}
use Rattle.boolean_programs.specs.Lists.{Each}
use Rattle.boolean_programs.specs.Programs.{Program}
use Rattle.report_text.specs.Expansions.{size_of}
use Rattle.program_traces.specs.Traces.{FiresFromEntry, IsRunTrace}
use Rattle.program_traces.specs.declared.first.FirstTrace.{FirstTrace}
use Rattle.program_traces.specs.declared.first.FirstTrace.TheVariants.{Trace, TooLong}

-- the value of the run is the empty relation
abbrev pub IsInfeasible : Pushdown ℕ Parts RelMap → List ℕ → Type 0
IsInfeasible system run = value_in relation_operations system run ≡ zero_in relation_operations system

-- The run is the first of the list whose value is not the empty relation.
pub record IsFirst (system : Pushdown ℕ Parts RelMap) (runs before : List (List ℕ)) (run : List ℕ) : Type 0 where
  pub after : List (List ℕ)
  pub joins : runs ≡ before ++ run ∷ after
  pub infeasible : Each (IsInfeasible system) before
  pub feasible : IsInfeasible system run → ⊥

-- A trace of a run, unless it and those before it are too long together.
abbrev pub IsShown : Program → Pushdown ℕ Parts RelMap → ℕ → List (List ℕ) → List ℕ → FirstTrace → Type 0
IsShown p system limit before run (Trace states) = (size_of (before ++ run ∷ []) ≤ limit) × IsRunTrace p system run states
IsShown p system limit before run TooLong = limit < size_of (before ++ run ∷ [])

-- The trace of the first run whose value is not the empty relation.
pub record IsFirstTrace (p : Program) (system : Pushdown ℕ Parts RelMap) (limit : ℕ) (runs : List (List ℕ)) (answer : FirstTrace) : Type 0 where
  pub before : List (List ℕ)
  pub run : List ℕ
  pub first : IsFirst system runs before run
  pub shown : IsShown p system limit before run answer

-- each run fires from main's first point
abbrev pub FireFromEntry : Program → Pushdown ℕ Parts RelMap → List (List ℕ) → Type 0
FireFromEntry p system runs = Each (FiresFromEntry p system) runs

-- one of the runs has a value that is not the empty relation
abbrev pub HasFeasible : Pushdown ℕ Parts RelMap → List (List ℕ) → Type 0
HasFeasible system runs = (before : List (List ℕ)) × (run : List ℕ) × (after : List (List ℕ)) × (runs ≡ before ++ run ∷ after) × (IsInfeasible system run → ⊥)
