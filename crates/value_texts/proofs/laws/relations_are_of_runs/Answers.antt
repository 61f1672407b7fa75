use Rattle.value_texts.proofs.RelationLemmas.{related_by_some, relations_fit, relations_told}
use Rattle.value_texts.proofs.laws.relations_are_of_runs.Goals as goal

pub returns-clause-pairs : goal.returns-clause-pairs
returns-clause-pairs c = λ p from to v runs valid answer old new. related_by_some p valid from to v runs answer old new

pub returns-clause-text : goal.returns-clause-text
returns-clause-text c = λ p from to v runs valid answer variables.
    relations_told p valid from to v runs answer variables ((c.one_diagram.ensures.fits p.semiring v).0 (relations_fit p valid from to v runs answer))
