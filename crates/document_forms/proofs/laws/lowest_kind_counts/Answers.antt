use Rattle.document_forms.proofs.KindLemmas.{lowest_kind}
use Rattle.document_forms.proofs.laws.lowest_kind_counts.Goals as goal

pub returns : goal.returns
returns c = lowest_kind
