use Rattle.value_texts.proofs.FactLemmas.{facts_told, generated_by_some, killed_by_runs}
use Rattle.value_texts.proofs.laws.facts_are_of_runs.Goals as goal

pub returns-clause-generated : goal.returns-clause-generated
returns-clause-generated c = λ n p from to v runs valid answer f. generated_by_some n p valid from to f v runs answer

pub returns-clause-killed : goal.returns-clause-killed
returns-clause-killed c = λ n p from to v runs valid answer f. killed_by_runs n p valid from to v runs answer f

pub returns-clause-text : goal.returns-clause-text
returns-clause-text c = λ n p from to v runs valid answer facts. facts_told n p valid from to v runs answer facts
