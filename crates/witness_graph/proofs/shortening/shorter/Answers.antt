use Rattle.std.proofs.Common.{◌+◌, ◌<◌, ◌∷◌, ◌++◌, [], length, take, drop, get_or, sym, ap, subst, ◌∙◌, arith}
use Rattle.std.specs.Prelude.{unwrap_or}
use Rattle.witness_graph.specs.declared.node.Node.TheVariants.{Start}
use Rattle.witness_graph.specs.Nodes.{Nodes, IsNodeAt}
use Rattle.witness_graph.specs.Shorter.{pruned, by_stands, only_part, stand, shorten}
use Rattle.witness_graph.proofs.ShorterLemmas.{turn_fits, turn_short, turn_rest, same_short, whole_turn}
use Rattle.witness_graph.proofs.shortening.shorter.Goals as goal

pub push_node-requires : goal.push_node-requires
push_node-requires c =
    let graph = c.args.graph.now.nodes in
    let added = c.args.added.now in
    let i = c.loop-node.node-index in
    let stands = c.loop-node.stands.items in
    let count = c.len-first.ensures.len in
    let made = c.pruned-node.ensures
    ∙ ap (λ k. pruned k c.by_stands.result) count
    ∙ ap (pruned (length graph)) (c.by_stands.ensures ∙ ap (λ k. by_stands k c.deref.result.now (get_or added i Start)) count ∙ ap (λ st. by_stands (length graph) st (get_or added i Start)) c.deref.ensures.value) in
    subst (IsNodeAt (length c.loop-node.whole.nodes)) (sym made) (turn_fits c.loop-node.whole.graph.side graph added i Start c.loop-node-test.true c.requires.nodes c.requires.begins c.loop-node.whole.nodes stands c.loop-node.invariant.short)

pub loop-node-preserved : goal.loop-node-preserved
loop-node-preserved c =
    let graph = c.args.graph.now.nodes in
    let added = c.args.added.now in
    let i = c.loop-node.node-index in
    let whole = c.loop-node.whole.nodes in
    let stands = c.loop-node.stands.items in
    let m = pruned (length graph) (by_stands (length graph) stands (get_or added i Start)) in
    let count = c.len-first.ensures.len in
    let made = c.pruned-node.ensures
    ∙ ap (λ k. pruned k c.by_stands.result) count
    ∙ ap (pruned (length graph)) (c.by_stands.ensures ∙ ap (λ k. by_stands k c.deref.result.now (get_or added i Start)) count ∙ ap (λ st. by_stands (length graph) st (get_or added i Start)) c.deref.ensures.value) in
    let new_whole = c.in_ok-number.ensures.ok ∙ ap (λ x. whole ++ x ∷ []) made in
    let value = c.unwrap_or.ensures ∙ ap (λ o. unwrap_or o c.in_ok-number.number) (c.only_part.ensures ∙ ap only_part made) ∙ ap (unwrap_or (only_part m)) c.in_ok-number.ensures.number in
    let new_stands = c.in_ok-push.ensures.items ∙ ap (λ x. stands ++ x ∷ []) value in
    let turned = turn_short c.loop-node.whole.graph.side graph added i Start c.loop-node-test.true c.requires.nodes c.requires.begins whole stands c.loop-node.invariant.short in
    record {
      graph = c.in_ok-number.ensures.graph ∙ c.loop-node.invariant.graph;
      short = same_short (length graph) c.loop-node.whole.graph.side c.push_node.new.self.graph.side (graph ++ take (i + 1) added) (whole ++ m ∷ []) c.push_node.new.self.nodes (stands ++ unwrap_or (only_part m) (length whole) ∷ []) c.push.new.self.items
          (ap (λ (v : Nodes). v.side) (sym c.in_ok-number.ensures.graph)) (sym new_whole) (sym new_stands) turned;
      rest =
          ap (λ l. shorten (length graph) l c.push.new.self.items (drop (i + 1) added)) new_whole
          ∙ ap (λ l. shorten (length graph) (whole ++ m ∷ []) l (drop (i + 1) added)) new_stands
          ∙ turn_rest c.loop-node.whole.graph.side graph added i Start c.loop-node-test.true c.requires.nodes c.requires.begins whole stands c.loop-node.invariant.short
          ∙ c.loop-node.invariant.rest;
    }

pub listing-requires : goal.listing-requires
listing-requires c =
    let graph = c.args.graph.now.nodes in
    let added = c.args.added.now in
    let i = c.loop-node.node-index in
    let short = c.loop-node.invariant.short in
    let all = whole_turn graph added i (omega (arith, c.loop-node-test.false)) in
    let within : c.args.root < length (graph ++ take i added) = subst (λ l. c.args.root < length l) (sym all) c.requires.root in
    let low = short.low c.args.root within in
    let is = c.stand.ensures ∙ ap (λ k. stand k c.deref-2.result.now c.args.root) c.len-first.ensures.len ∙ ap (λ st. stand (length graph) st c.args.root) c.deref-2.ensures.value in
    omega (arith, low, within, is, short.new_len)
