use Rattle.genkill_weights.proofs.FunctionLemmas.{extend_composes, combine_unites, one_is_identity}
use Rattle.genkill_weights.proofs.laws.weights_are_functions.Goals as goal

pub returns-clause-extend : goal.returns-clause-extend
returns-clause-extend c = extend_composes

pub returns-clause-combine : goal.returns-clause-combine
returns-clause-combine c = combine_unites

pub returns-clause-one : goal.returns-clause-one
returns-clause-one c = one_is_identity
