use Rattle.diagram_store.proofs.NodeLemmas.{no_node}
use Rattle.diagram_store.proofs.ValueLemmas.{value_at_end, value_at_node}
use Rattle.diagram_store.proofs.laws.value_by_branch.Goals as goal

pub returns-clause-constant : goal.returns-clause-constant
returns-clause-constant c = λ nodes r bits below. value_at_end nodes r bits (no_node nodes r below)

pub returns-clause-node : goal.returns-clause-node
returns-clause-node c = λ nodes all r n bits at. value_at_node nodes all r n bits at
