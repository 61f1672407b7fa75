use Rattle.document_forms.proofs.RefusalLemmas.{one_of_both, never_both, same_document, same_refusal}
use Rattle.document_forms.proofs.laws.one_document_or_one_refusal.Goals as goal

pub returns : goal.returns
returns c = record {
  one = one_of_both;
  never_both = never_both;
  one_document = same_document;
  one_refusal = same_refusal;
}
