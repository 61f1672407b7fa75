use Rattle.genkill_weights.proofs.FunctionLemmas.{restore_is_of_caller}
use Rattle.genkill_weights.proofs.laws.restored_facts_are_the_callers.Goals as goal

pub returns : goal.returns
returns c = restore_is_of_caller
