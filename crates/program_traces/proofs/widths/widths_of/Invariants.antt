use Rattle.std.proofs.Common.{◌≡◌, ◌++◌, map, drop}
use Rattle.boolean_programs.specs.Programs.{procedure_of, program_of}
use Rattle.boolean_programs.specs.Lines.{code, code_from}
use Rattle.program_traces.specs.private.Readers.{line_width}
use Rattle.program_traces.proofs.widths.widths_of.Given as goal

abbrev pub invariant-loop-owner : goal.invariant-loop-owner
invariant-loop-owner l =
    l.widths.items ++ map (line_width (program_of l.program)) (code_from l.owner-index (map procedure_of (drop l.owner-index l.program.procs))) ≡ map (line_width (program_of l.program)) (code (program_of l.program))
