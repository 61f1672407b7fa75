use Rattle.report_laws.proofs.AgreementLemmas.{of_both, one_verdict}
use Rattle.report_laws.proofs.programs.program_reports_tell_one_verdict.Goals as goal

pub returns : goal.returns
returns c = λ p one other report text is told. of_both (one_verdict p one other is.system told.system) 1 p.queries report text is.told told.told
