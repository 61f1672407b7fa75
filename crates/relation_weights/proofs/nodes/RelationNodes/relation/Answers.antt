use Rattle.std.proofs.Common.{◌≡◌, ◌*◌, subst}
use Rattle.std.specs.Prelude.{IfOk}
use Rattle.std.proofs.lemmas.Result.{IfOk-weaker}
use Rattle.diagram_ops.specs.NodeTables.{leads_at}
use Rattle.diagram_ops.specs.Relations.{of_states}
use Rattle.relation_weights.specs.RelationNodes.{NodesOf, relation_at}
use Rattle.relation_weights.proofs.nodes.RelationNodes.relation.Goals as goal

pub returns : goal.returns
returns c =
    let n = c.self.inside.n in
    subst (λ (v : NodesOf). IfOk c.new.result (λ w. w ≡ relation_at v c.args.a)) c.self.view_is
    (IfOk-weaker c.new.result _ _ (λ w h.
    h n (leads_at c.self.inside.table c.args.a) (c.in_ok-made.ensures.variables (2 * n) c.self.invariant.below) (λ x y. c.in_ok-made.ensures.value (of_states x y)))
    c.new.ensures)
