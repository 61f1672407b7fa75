use Rattle.std.proofs.Common.{◌≡◌, ◌++◌, take, map}
use Rattle.std.specs.Prelude.{codes}
use Rattle.std.specs.List.{flat_map}
use Rattle.boolean_programs.specs.Programs.{program_of}
use Rattle.boolean_meaning.specs.HeldStates.{state_of}
use Rattle.state_text.specs.States.{state_line}
use Rattle.state_text.proofs.states.trace_text.Given as goal

abbrev pub invariant-loop-state : goal.invariant-loop-state
invariant-loop-state l = l.text.items ≡ codes "  trace:\n" ++ flat_map (λ s. state_line l.program (state_of (program_of l.program) s)) (take l.state-index l.states)
