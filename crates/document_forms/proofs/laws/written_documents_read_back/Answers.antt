use Rattle.document_forms.proofs.WrittenWeightLemmas.{written_again}
use Rattle.document_forms.proofs.laws.written_documents_read_back.Goals as goal

pub returns : goal.returns
returns c = record {
  read = λ bytes d h l. written_again c.one_list_of_tokens.ensures c.one_tree.ensures d (c.documents_are_lawful.ensures bytes d h) l;
  lawful = written_again c.one_list_of_tokens.ensures c.one_tree.ensures;
}
