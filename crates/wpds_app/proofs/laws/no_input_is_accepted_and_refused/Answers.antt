use Rattle.wpds_app.proofs.InputLemmas.{never_both}
use Rattle.wpds_app.proofs.laws.no_input_is_accepted_and_refused.Goals as goal

pub returns : goal.returns
returns c = never_both c.one_document_or_one_refusal.ensures.never_both c.programs_are_refused_by_lines.ensures.never_both
