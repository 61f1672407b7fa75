use Rattle.value_texts.proofs.CopyLemmas.{constants_told, leaves_meet}
use Rattle.value_texts.proofs.laws.constants_are_of_runs.Goals as goal

pub returns-clause-left : goal.returns-clause-left
returns-clause-left c = λ p from to v runs answer old k within. leaves_meet c.weights_map_values.ensures.combine p from to old k within v runs answer

pub returns-clause-text : goal.returns-clause-text
returns-clause-text c = λ p from to v runs valid answer variables. constants_told c.weights_map_values.ensures.combine p from to valid v runs answer variables
