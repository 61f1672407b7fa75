use Rattle.copy_weights.proofs.ValueLemmas.{values_one, values_combine, values_extend, values_restore, values_equal}
use Rattle.copy_weights.proofs.laws.weights_map_values.Goals as goal

pub returns-clause-one : goal.returns-clause-one
returns-clause-one c = values_one

pub returns-clause-combine : goal.returns-clause-combine
returns-clause-combine c = values_combine

pub returns-clause-extend : goal.returns-clause-extend
returns-clause-extend c = values_extend

pub returns-clause-restore : goal.returns-clause-restore
returns-clause-restore c = values_restore

pub returns-clause-equal : goal.returns-clause-equal
returns-clause-equal c = values_equal
