use Rattle.std.proofs.Common.{List, ◌++◌, ◌∷◌, [], take, sym, ap, ◌∙◌, append_assoc}
use Rattle.config_patterns.specs.declared.edge.Edge.{Edge}
use Rattle.config_patterns.specs.Edges.{edges_into}
use Rattle.config_patterns.proofs.SetLemmas.{edge_more}
use Rattle.config_patterns.proofs.edge_list.push_into.Goals as goal

pub loop-k-preserved : goal.loop-k-preserved
loop-k-preserved c =
    let set = c.args.set.now in
    let from = c.args.from in
    let to = c.args.to in
    let k = c.loop-k.k in
    let e : Edge = record { from = from; symbol = c.at-symbol.result; to = to } in
    let before = c.args.edges.now.items in
    c.in_ok-push.ensures.items
    ∙ ap (λ (l : List Edge). l ++ e ∷ []) c.loop-k.invariant
    ∙ append_assoc before (edges_into from to (take k set)) (e ∷ [])
    ∙ ap (λ (l : List Edge). before ++ l) (sym (edge_more from to set k c.at-symbol.result c.at-symbol.ensures))
