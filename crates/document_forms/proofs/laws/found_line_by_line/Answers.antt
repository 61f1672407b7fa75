use Rattle.document_forms.proofs.RefusalLemmas.{first_refusal, document_read, refusal_read}
use Rattle.document_forms.proofs.laws.found_line_by_line.Goals as goal

pub returns : goal.returns
returns c = record { document = document_read; err = refusal_read; refusal = first_refusal }
