use Rattle.boolean_machine.proofs.BitLemmas.{value_of_list}
use Rattle.boolean_machine.proofs.laws.lists_are_states.Goals as goal

pub returns : goal.returns
returns c = λ bits f. value_of_list bits f
