use Rattle.std.proofs.Common.{ℕ, [], ◌∷◌, ◌++◌, length, sym, ap, ◌∙◌, subst}
use Rattle.witness_graph.specs.Nodes.{AreNodes, IsNodeAt}
use Rattle.witness_graph.proofs.NodeLemmas.{nodes_push}
use Rattle.witness_graph.proofs.graph.Graph.push_node.Goals as goal

pub invariant_of-self-2 : goal.invariant_of-self-2
invariant_of-self-2 c =
    subst AreNodes (sym (c.in_ok-push.ensures.items ∙ ap (λ n. c.self.inside.nodes.items ++ n ∷ []) c.new.ensures))
    (nodes_push c.self.inside.nodes.items c.args.node c.self.invariant
    (subst (λ (k : ℕ). IsNodeAt k c.args.node) (ap (λ v. length v.nodes) (sym c.self.view_is)) c.requires))
