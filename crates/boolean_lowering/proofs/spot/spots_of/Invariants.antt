use Rattle.std.proofs.Common.{◌≡◌, ◌++◌, drop, map}
use Rattle.boolean_programs.specs.Programs.{procedure_of, program_of}
use Rattle.boolean_programs.specs.Lines.{code, code_from}
use Rattle.boolean_lowering.specs.private.Spots.{instruction_of}
use Rattle.boolean_lowering.proofs.spot.spots_of.Given as goal

abbrev pub invariant-loop-procedure : goal.invariant-loop-procedure
invariant-loop-procedure l = code (program_of l.program) ≡ map instruction_of l.spots.items ++ code_from l.procedure (map procedure_of (drop l.procedure l.program.procs))
