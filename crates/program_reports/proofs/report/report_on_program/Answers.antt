use Rattle.program_reports.proofs.ServingLemmas.{of_ok}
use Rattle.program_reports.proofs.TellingLemmas.{reported}
use Rattle.program_reports.proofs.report.report_on_program.Goals as goal

pub returns : goal.returns
returns g c =
    let asked = c.in_ok-asked.asked in
    let is = c.in_ok-asked.ensures in
    of_ok c.all_lines.result (λ text told. reported asked c.args.options c.args.program.now text is.asked is.program is.options told) c.all_lines.ensures

pub returns-then-is_brief : goal.returns-then-is_brief
returns-then-is_brief g c =
    let asked = c.in_ok-asked.asked in
    let is = c.in_ok-asked.ensures in
    of_ok c.lines_by_values.result (λ text told. reported asked c.args.options c.args.program.now text is.asked is.program is.options told) c.lines_by_values.ensures
