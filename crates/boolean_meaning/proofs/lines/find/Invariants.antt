use Rattle.std.proofs.Common.{◌≡◌, drop, map}
use Rattle.boolean_programs.specs.Programs.{program_of, procedure_of}
use Rattle.boolean_programs.specs.Lines.{code_from, instruction_at}
use Rattle.boolean_meaning.specs.private.Spots.{found_in}
use Rattle.boolean_meaning.proofs.lines.find.Given as goal

abbrev pub invariant-loop-procedure : goal.invariant-loop-procedure
invariant-loop-procedure l = instruction_at (program_of l.program) l.number ≡ found_in (code_from l.procedure (map procedure_of (drop l.procedure l.program.procs))) l.number
