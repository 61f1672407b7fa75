use Rattle.boolean_machine.proofs.MoveLemmas.{start_is, moves_stay}
use Rattle.boolean_machine.proofs.laws.moves_keep_states.Goals as goal

pub returns-clause-start : goal.returns-clause-start
returns-clause-start c = λ p s lawful start. start_is p lawful s start

pub returns-clause-moves : goal.returns-clause-moves
returns-clause-moves c = λ p from to lawful is moves. moves_stay p lawful from to is moves
