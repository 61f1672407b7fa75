use Rattle.std.proofs.Common.{sym, ◌∙◌}
use Rattle.diagram_ops.proofs.TableCopyLemmas.{reads_below_at}
use Rattle.diagram_ops.proofs.node_table.NodeTable.diagram.Goals as goal

pub returns-clause-variables : goal.returns-clause-variables
returns-clause-variables c = λ limit below. (c.independent_variables.ensures c.in_ok-made.made limit).0 (λ bits other same.
    c.in_ok-made.ensures bits ∙ reads_below_at c.args.self.now c.valid.ensures.reduced limit c.args.r below bits other same ∙ sym (c.in_ok-made.ensures other))
