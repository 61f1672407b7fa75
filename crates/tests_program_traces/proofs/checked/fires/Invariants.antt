use Rattle.std.proofs.Common.{drop}
use Rattle.boolean_programs.specs.Programs.{program_of}
use Rattle.pushdown_rules.specs.Configuration.{Configuration}
use Rattle.pushdown_rules.specs.Firing.{Run}
use Rattle.program_traces.specs.Traces.{entry_of}
use Rattle.tests_program_traces.proofs.checked.fires.Given as goal

-- where the rest of the run leads, the whole one does
abbrev pub invariant-loop-rule : goal.invariant-loop-rule
invariant-loop-rule l =
    (d : Configuration) → Run l.lowering.system l.here (drop l.rule-index l.run) d → Run l.lowering.system (entry_of (program_of l.program)) l.run d
