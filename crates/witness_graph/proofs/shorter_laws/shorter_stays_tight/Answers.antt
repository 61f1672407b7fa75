use Rattle.witness_graph.proofs.TightLemmas.{stays_tight}
use Rattle.witness_graph.proofs.shorter_laws.shorter_stays_tight.Goals as goal

pub returns : goal.returns
returns g c = λ semiring. stays_tight (g.S.Semiring.operations semiring)
