use Rattle.std.proofs.Common.{List, subst}
use Rattle.diagram_store.specs.declared.branch.Branch.{Branch}
use Rattle.diagram_store.specs.Nodes.{IsReduced}
use Rattle.diagram_ops.proofs.node_table.NodeTable.valid.Goals as goal

pub returns-clause-tells : goal.returns-clause-tells
returns-clause-tells c = c.one_reference.ensures c.args.self.now (let P : List Branch → Type 0 = λ l. IsReduced l in subst P c.self.view_is c.self.invariant.reduced)
