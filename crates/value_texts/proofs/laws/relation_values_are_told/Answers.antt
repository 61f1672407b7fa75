use Rattle.std.proofs.Common.{length}
use Rattle.relation_weights.specs.RelationLaws.{relation_laws}
use Rattle.document_systems.proofs.CallerLemmas.{relations_taken}
use Rattle.value_texts.proofs.AnswerLemmas.{answer_fits}
use Rattle.value_texts.proofs.ToldLemmas.{relations_are_told}
use Rattle.value_texts.proofs.laws.relation_values_are_told.Goals as goal

pub returns : goal.returns
returns c = λ d from to v runs line is answer.
    let n = length d.items in
    let system = c.documents_are_systems.ensures n d tt is (relations_taken d is line) in
    relations_are_told d v line is ((c.one_diagram.ensures.fits n v).0 (answer_fits system (relation_laws n) from to v runs answer))
