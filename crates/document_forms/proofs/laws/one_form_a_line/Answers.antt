use Rattle.document_forms.proofs.FormLemmas.{one_form}
use Rattle.document_forms.proofs.laws.one_form_a_line.Goals as goal

pub returns : goal.returns
returns c = one_form
