use Rattle.witness_graph.proofs.LengthLemmas.{no_longer}
use Rattle.witness_graph.proofs.shorter_laws.shorter_has_no_more_nodes.Goals as goal

pub returns : goal.returns
returns c = no_longer c.post_order_has_the_reached.ensures.reached c.post_order_has_the_reached.ensures.once
