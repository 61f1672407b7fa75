use Rattle.document_forms.proofs.ItemLemmas.{are_items_lem}
use Rattle.document_forms.proofs.laws.one_list_of_items.Goals as goal

pub returns : goal.returns
returns c = are_items_lem
