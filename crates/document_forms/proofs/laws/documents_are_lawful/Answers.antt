use Rattle.document_forms.proofs.DocumentLemmas.{lawful_document}
use Rattle.document_forms.proofs.laws.documents_are_lawful.Goals as goal

pub returns : goal.returns
returns c = lawful_document c.one_list_of_tokens.ensures
