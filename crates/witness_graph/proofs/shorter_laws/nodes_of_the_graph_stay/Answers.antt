use Rattle.witness_graph.proofs.ShorterLemmas.{graph_stays}
use Rattle.witness_graph.proofs.shorter_laws.nodes_of_the_graph_stay.Goals as goal

pub returns : goal.returns
returns c = graph_stays
