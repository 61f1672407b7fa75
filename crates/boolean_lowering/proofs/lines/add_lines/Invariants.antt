use Rattle.std.proofs.Common.{take}
use Rattle.boolean_programs.specs.Lines.{code}
use Rattle.lowering_laws.specs.Lowering.{rules_from}
use Rattle.boolean_lowering.specs.private.Made.{program_in, AreAdded}
use Rattle.boolean_lowering.proofs.lines.add_lines.Given as goal

abbrev pub invariant-loop-head : goal.invariant-loop-head
invariant-loop-head l = AreAdded (program_in l.making) l.initial.system l.system (rules_from (program_in l.making) 0 (take l.head (code (program_in l.making))))
