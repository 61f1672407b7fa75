use Rattle.std.proofs.Common.{◌≡◌, drop, map}
use Rattle.std.specs.Prelude.{slice_get}
use Rattle.boolean_programs.specs.Programs.{main_of, procedure_of, program_of}
use Rattle.boolean_meaning.specs.Steps.{main_in}
use Rattle.boolean_meaning.proofs.states.main_of.Given as goal

abbrev pub invariant-loop-owner : goal.invariant-loop-owner
invariant-loop-owner l = slice_get (map procedure_of (drop l.owner-index l.program.procs)) (main_of (drop l.owner-index l.program.procs)) ≡ main_in (program_of l.program)
