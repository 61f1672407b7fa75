use Rattle.weight_tables.proofs.TurnLemmas.{lowered_turns, taken_turns}
use Rattle.weight_tables.proofs.laws.turns_fall.Goals as goal

pub returns-clause-lowered : goal.returns-clause-lowered
returns-clause-lowered g c = λ x place w es fits fw few. lowered_turns (g.S.Semiring.laws x) place w es fits fw few

pub returns-clause-taken : goal.returns-clause-taken
returns-clause-taken g c = λ x t es e there waits. taken_turns (g.S.Semiring.laws x) t es e there waits
