use Rattle.std.proofs.Common.{length}
use Rattle.copy_weights.specs.CopyLaws.{copy_laws}
use Rattle.document_systems.specs.CopyWeights.{copy_kind}
use Rattle.document_systems.proofs.CallerLemmas.{all_taken}
use Rattle.value_texts.proofs.AnswerLemmas.{answer_fits}
use Rattle.value_texts.proofs.ToldLemmas.{constants_are_told}
use Rattle.value_texts.proofs.laws.copy_values_are_told.Goals as goal

pub returns : goal.returns
returns c = λ d from to v runs line is answer.
    let n = length d.items in
    let system = c.documents_are_systems.ensures n d tt is (all_taken copy_kind n (λ t. tt) (λ m. tt) d) in
    constants_are_told d from to v runs line is answer (answer_fits system (copy_laws n) from to v runs answer)
