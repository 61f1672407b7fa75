use Rattle.diagram_ops.proofs.OwnCompositionLemmas.{own_leads}
use Rattle.diagram_ops.proofs.node_table.NodeTable.composition.Goals as goal

pub returns-clause-leads : goal.returns-clause-leads
returns-clause-leads c = own_leads c.compose.new.table c.in_ok-made.ensures.grows.reduced c.args.x c.args.y c.in_ok-made.made c.in_ok-made.ensures.composed
