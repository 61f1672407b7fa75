use Rattle.diagram_store.proofs.MeaningLemmas.{one_reference}
use Rattle.diagram_store.proofs.laws.one_reference.Goals as goal

pub returns : goal.returns
returns c = λ nodes all r s w w' same. one_reference nodes all r s w w' same
