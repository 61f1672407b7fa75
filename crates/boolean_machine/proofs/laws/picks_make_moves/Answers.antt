use Rattle.boolean_machine.proofs.MoveLemmas.{step_moves, moves_step}
use Rattle.boolean_machine.proofs.laws.picks_make_moves.Goals as goal

pub returns-clause-step : goal.returns-clause-step
returns-clause-step c = λ p from to target free lawful is e. step_moves p lawful from to target free is e

pub returns-clause-moves : goal.returns-clause-moves
returns-clause-moves c = λ p from to lawful is moves. moves_step p lawful from to is moves
