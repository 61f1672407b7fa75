use Rattle.std.proofs.Common.{take}
use Rattle.report_text.specs.Reports.{ByQuery}
use Rattle.program_reports.specs.ProgramReports.{TellsPoint}
use Rattle.program_reports.proofs.values.lines_by_values.Given as goal

abbrev pub invariant-loop-place : goal.invariant-loop-place
invariant-loop-place g l =
    let a = l.asked in
    ByQuery (TellsPoint a.options a.program.now a.lowering.system) 1 (take l.place a.program.now.queries) l.text.items
