use Rattle.boolean_programs.specs.Programs.{program_of}
use Rattle.boolean_meaning.specs.HeldStates.{IsHeld}
use Rattle.tests_programs.proofs.walks.follows.Given as goal

abbrev pub invariant-loop-row : goal.invariant-loop-row
invariant-loop-row l = IsHeld (program_of l.program) l.now
