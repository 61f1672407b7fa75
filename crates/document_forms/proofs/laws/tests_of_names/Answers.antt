use Rattle.document_forms.proofs.NameLemmas.{among_is_in, twice_is_once}
use Rattle.document_forms.proofs.laws.tests_of_names.Goals as goal

pub returns : goal.returns
returns c = record { among = among_is_in; once = twice_is_once }
