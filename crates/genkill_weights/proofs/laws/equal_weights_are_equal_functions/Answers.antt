use Rattle.genkill_weights.proofs.FunctionLemmas.{equal_by_functions}
use Rattle.genkill_weights.proofs.laws.equal_weights_are_equal_functions.Goals as goal

pub returns : goal.returns
returns c = equal_by_functions
