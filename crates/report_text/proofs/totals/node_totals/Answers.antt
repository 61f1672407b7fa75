use Rattle.std.proofs.Common.{◌≡◌, ℕ, List, length, get_or, sym, ap, subst, ◌∙◌, arith}
use Rattle.std.specs.Prelude.{Option, Some, slice_get}
use Rattle.std.proofs.lemmas.List.{length_push}
use Rattle.std.proofs.lemmas.Option.{slice_get-get_or}
use Rattle.witness_graph.specs.declared.node.Node.TheVariants.{Start}
use Rattle.witness_graph.specs.Nodes.{IsNodeAt}
use Rattle.witness_graph.specs.Runs.{runs_of}
use Rattle.report_text.specs.declared.totals.Totals.{Totals}
use Rattle.report_text.specs.private.Counting.{IsCounted, AreCounted}
use Rattle.report_text.proofs.TotalLemmas.{counted_push, over_nodes}
use Rattle.report_text.proofs.totals.node_totals.Goals as goal

-- the node whose turn it is, in the listing
at_turn : (c : goal.After-of_node-arg-in-loop-node-1) → slice_get c.args.listing.now.nodes c.loop-node.node-index ≡ Some (get_or c.as_slice-node-items.result.now c.loop-node.node-index Start)
at_turn c =
    ap (λ l. slice_get l c.loop-node.node-index) (sym c.as_slice-node-items.ensures)
    ∙ slice_get-get_or c.as_slice-node-items.result.now c.loop-node.node-index Start c.loop-node-test.true

pub of_node-requires : goal.of_node-requires
of_node-requires c =
    let count : length c.deref.result.now ≡ c.loop-node.node-index = ap (λ l. length l) c.deref.ensures.value ∙ c.loop-node.invariant.len in
    subst (λ k. IsNodeAt k (get_or c.as_slice-node-items.result.now c.loop-node.node-index Start)) (sym count)
    (c.args.listing.now.is_listing.all.each c.loop-node.node-index _ (at_turn c))

pub loop-node-preserved : goal.loop-node-preserved
loop-node-preserved c =
    let l = c.args.listing.now in
    let i = c.loop-node.node-index in
    let known = runs_of l.side l.nodes in
    let pushed = c.in_ok-push.ensures.items in
    let law = c.runs_are_those_of_parts.ensures in
    let node = get_or c.as_slice-node-items.result.now i Start in
    let at : slice_get l.nodes i ≡ Some node =
    ap (λ ns. slice_get ns i) (sym c.as_slice-node-items.ensures) ∙ slice_get-get_or c.as_slice-node-items.result.now i Start c.loop-node-test.true in
    let over = over_nodes l.side l.nodes (λ k. law.start l.side l.nodes k l.is_listing.all) (λ k b r x y. law.lower l.side l.nodes k b r x y l.is_listing.all) i node at in
    let counted = subst (λ (ts : List (Option Totals)). AreCounted ts known) (sym c.deref.ensures.value) c.loop-node.invariant.counted in
    let new = subst (λ (rs : List (List ℕ)). IsCounted c.of_node.result rs) (sym over) (c.of_node.ensures known counted) in
    record {
      len = omega (arith, ap (λ (ts : List (Option Totals)). length ts) pushed, length_push c.loop-node.totals.items c.of_node.result, c.loop-node.invariant.len);
      counted = subst (λ (ts : List (Option Totals)). AreCounted ts known) (sym pushed)
          (counted_push c.loop-node.totals.items c.of_node.result known i c.loop-node.invariant.len c.loop-node.invariant.counted new);
    }
