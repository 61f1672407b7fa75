use Rattle.document_forms.proofs.NameLemmas.{declared_once, declared_more}
use Rattle.document_forms.proofs.laws.names_of_a_class.Goals as goal

pub returns : goal.returns
returns c = record { once = declared_once; new = declared_more }
