use Rattle.document_forms.proofs.LineLemmas.{is_cut}
use Rattle.document_forms.proofs.laws.one_cutting_into_lines.Goals as goal

pub returns : goal.returns
returns c = is_cut
