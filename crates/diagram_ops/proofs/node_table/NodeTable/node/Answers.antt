use Rattle.std.proofs.Common.{ap, sym, ◌∙◌, ◌-◌, arith}
use Rattle.diagram_store.specs.Nodes.{node_at}
use Rattle.diagram_ops.proofs.MadeLemmas.{branch_at}
use Rattle.diagram_ops.proofs.node_table.NodeTable.node.Goals as goal

pub returns : goal.returns
returns c =
    ap (λ l. node_at l c.args.reference) (sym c.self.view_is)
    ∙ branch_at c.self.inside.nodes.members (c.args.reference - 2) c.args.reference c.get.result.now (omega arith) c.get.ensures
