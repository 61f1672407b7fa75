use Rattle.report_text.proofs.CallerLemmas.{same_parts}
use Rattle.report_laws.proofs.AgreementLemmas.{one_text}
use Rattle.report_laws.proofs.programs.brief_program_reports_agree.Goals as goal

pub returns : goal.returns
returns c = λ p one other report text brief brief' is told.
    same_parts (one_text p one other is.system told.system brief brief') 1 p.queries report text is.told told.told
