use Rattle.diagram_ops.proofs.VariableLemmas.{no_variables}
use Rattle.diagram_ops.proofs.applied.apply_table2.Goals as goal

pub returns-clause-variables : goal.returns-clause-variables
returns-clause-variables c = λ limit a b. c.in_ok-made.ensures.variables limit a b (no_variables limit c.constant-never.result.nodes c.constant-never.ensures.no_nodes)
