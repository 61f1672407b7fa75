use Rattle.diagram_ops.proofs.table_copying.+copy_from.Given as goal

abbrev pub decreases-copy_from : goal.decreases-copy_from
decreases-copy_from l = l.reference
