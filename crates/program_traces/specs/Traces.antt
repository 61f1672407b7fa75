-- The states of the machine that a run of a lowered program stands for.
use Rattle.std.specs.Prelude.{ℕ, List, [], ◌∷◌, map}
use Rattle.pushdown_rules.specs.Configuration.{Configuration, at_stack}
use Rattle.pushdown_rules.specs.Pushdown.{Pushdown}
use Rattle.pushdown_rules.specs.Firing.{Run}
use Rattle.boolean_programs.specs.Lists.{Each}
use Rattle.boolean_programs.specs.Programs.{Program}
use Rattle.boolean_machine.specs.Machine.{IsProgramRun}
use Rattle.boolean_meaning.specs.declared.state.State.{State}
use Rattle.boolean_meaning.specs.HeldStates.{state_of, IsHeld}
use Rattle.lowering_laws.specs.Lowering.{symbol}
use Rattle.lowering_laws.specs.Queries.{entry_point, IsTrace}

-- main's first point, alone on the stack
abbrev pub entry_of : Program → Configuration
entry_of p = at_stack 0 (symbol p (entry_point p) ∷ [])

-- the run fires from main's first point
abbrev pub FiresFromEntry : {S W Map : Type 0} → Program → Pushdown S W Map → List ℕ → Type 0
FiresFromEntry p system run = (d : Configuration) × Run system (entry_of p) run d

-- The states are a run of the program's machine: one for each configuration of the run of the lowering, at the points of
-- its stack.
pub record IsRunTrace {S W Map : Type 0} (p : Program) (system : Pushdown S W Map) (run : List ℕ) (states : List State) : Type 0 where
  pub are_held : Each (IsHeld p) states
  pub is_run : IsProgramRun p (map (state_of p) states)
  pub is_trace : IsTrace p system (entry_of p) run (map (state_of p) states)
