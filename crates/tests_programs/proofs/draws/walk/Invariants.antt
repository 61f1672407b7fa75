use Rattle.boolean_programs.specs.Programs.{program_of}
use Rattle.boolean_meaning.specs.HeldStates.{IsHeld}
use Rattle.tests_programs.proofs.draws.walk.Given as goal

abbrev pub invariant-loop : goal.invariant-loop
invariant-loop l = IsHeld (program_of l.program) l.now
