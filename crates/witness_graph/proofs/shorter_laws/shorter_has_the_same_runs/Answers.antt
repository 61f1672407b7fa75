use Rattle.witness_graph.proofs.ShorterRunLemmas.{same_runs}
use Rattle.witness_graph.proofs.shorter_laws.shorter_has_the_same_runs.Goals as goal

pub returns : goal.returns
returns c = same_runs
