use Rattle.std.proofs.Common.{◌++◌, ◌∷◌, [], length, sym, ap, ◌∙◌, subst, append_assoc, arith}
use Rattle.std.proofs.lemmas.List.{append_cancel_left, length_push}
use Rattle.witness_graph.specs.declared.node.Node.TheVariants.{Start}
use Rattle.witness_graph.specs.Nodes.{Nodes, AreNodes}
use Rattle.tests_books.proofs.listings.short.Goals as goal

pub loop-node-init : goal.loop-node-init
loop-node-init c =
    let pushed = c.in_ok-last.ensures.ok in
    let same = ap (λ (v : Nodes). v.nodes) (c.in_ok-last.ensures.graph ∙ c.new-sum.ensures.graph) in
    record {
      last = omega (arith, ap length pushed, length_push c.new-sum.result.nodes Start, c.in_ok-last.ensures.number);
      begins = ([], pushed ∙ ap (λ l. l ++ Start ∷ []) (c.new-sum.ensures.nodes ∙ sym same));
    }

pub loop-node-preserved : goal.loop-node-preserved
loop-node-preserved c =
    let begins = c.loop-node.invariant.begins in
    let more = c.in_ok-last-2.ensures.more in
    let same = sym c.in_ok-last-2.ensures.graph in
    record {
      last = c.in_ok-last-2.ensures.last;
      begins = (
        begins.0 ++ more.0,
        more.1 ∙ ap (λ l. l ++ more.0) begins.1 ∙ append_assoc c.loop-node.sum.graph.nodes (Start ∷ begins.0) more.0
            ∙ ap (λ (v : Nodes). v.nodes ++ Start ∷ (begins.0 ++ more.0)) same,
      );
    }

pub shorter-requires : goal.shorter-requires
shorter-requires c =
    let begins = c.loop-node.invariant.begins in
    let added = c.added.result.now in
    let same = sym c.graph-2.ensures in
    let all = c.added.ensures.added ∙ ap (λ (v : Nodes). v.nodes ++ added) same in
    record {
      nodes = subst AreNodes all c.added.ensures.nodes;
      begins = (begins.0, append_cancel_left c.graph-2.result.now.nodes added (Start ∷ begins.0) (sym all ∙ begins.1 ∙ ap (λ (v : Nodes). v.nodes ++ Start ∷ begins.0) same));
      root = omega (arith, ap length all, c.loop-node.invariant.last);
    }
