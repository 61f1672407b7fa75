use Rattle.std.proofs.Common.{◌+◌, get_or}
use Rattle.diagram_store.specs.declared.branch.Branch.{Branch}
use Rattle.diagram_ops.proofs.ImageLemmas.{node_of_list}
use Rattle.diagram_ops.proofs.renaming.rename_nodes.Goals as goal

abbrev blank : Branch
blank = record { var = 0; low = 0; high = 0 }

pub name_of-requires : goal.name_of-requires
name_of-requires c = c.requires (c.loop-branch.branch-index + 2) (get_or c.args.nodes.now c.loop-branch.branch-index blank) (node_of_list c.args.nodes.now c.loop-branch.branch-index blank c.loop-branch-test.true)
