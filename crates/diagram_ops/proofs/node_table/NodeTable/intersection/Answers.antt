use Rattle.diagram_ops.proofs.UnitingLemmas.{intersection_value}
use Rattle.diagram_ops.proofs.node_table.NodeTable.intersection.Goals as goal

pub returns-clause-value : goal.returns-clause-value
returns-clause-value c = intersection_value c.combine.new.table c.args.x c.args.y c.in_ok-made.made c.in_ok-made.ensures.applied
