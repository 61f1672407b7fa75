use Rattle.std.proofs.Common.{ℕ, [], ◌∷◌, ◌++◌, length, sym, ap, ◌∙◌, subst, append_assoc}
use Rattle.witness_graph.specs.Nodes.{AreNodes, IsNodeAt}
use Rattle.witness_graph.proofs.NodeLemmas.{nodes_push}
use Rattle.witness_graph.proofs.overlay.Overlay.push_node.Goals as goal

pub invariant_of-self-2 : goal.invariant_of-self-2
invariant_of-self-2 c =
    let base = c.self.inside.base.now.nodes in
    let added = c.self.inside.added.items in
    subst AreNodes (append_assoc base added (c.args.node ∷ []) ∙ ap (λ l. base ++ l) (sym c.in_ok-push.ensures.items))
    (nodes_push (base ++ added) c.args.node c.self.invariant
    (subst (λ (k : ℕ). IsNodeAt k c.args.node) (ap (λ v. length v.nodes) (sym c.self.view_is)) c.requires))
