use Rattle.pattern_openings.proofs.EdgeLemmas.{opening_edge, opening_final, opening_last}
use Rattle.pattern_openings.proofs.laws.openings_join_states.Goals as goal

pub returns-clause-edges : goal.returns-clause-edges
returns-clause-edges c = opening_edge

pub returns-clause-finals : goal.returns-clause-finals
returns-clause-finals c = opening_final

pub returns-clause-last : goal.returns-clause-last
returns-clause-last c = opening_last
