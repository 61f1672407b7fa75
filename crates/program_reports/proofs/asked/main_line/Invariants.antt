use Rattle.std.proofs.Common.{◌≡◌, drop}
use Rattle.program_reports.proofs.AskedLemmas.{line_in}
use Rattle.program_reports.proofs.asked.main_line.Given as goal

abbrev pub invariant-loop-owner : goal.invariant-loop-owner
invariant-loop-owner l = line_in (drop l.owner-index l.program.procs) ≡ line_in l.program.procs
