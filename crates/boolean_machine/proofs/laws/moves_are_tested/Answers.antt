use Rattle.boolean_machine.proofs.MoveTestLemmas.{moved}
use Rattle.boolean_machine.proofs.StateTestLemmas.{state_tested}
use Rattle.boolean_machine.proofs.laws.moves_are_tested.Goals as goal

pub returns-clause-moves : goal.returns-clause-moves
returns-clause-moves c = λ p from to. moved p from to

pub returns-clause-states : goal.returns-clause-states
returns-clause-states c = λ p s. state_tested p s
