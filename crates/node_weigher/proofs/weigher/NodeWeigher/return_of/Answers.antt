use Rattle.std.proofs.Common.{◌≡◌, sym, ap, ◌∙◌, subst}
use Rattle.std.specs.Prelude.{Some, slice_get}
use Rattle.std.proofs.lemmas.Option.{same_Some}
use Rattle.pushdown_rules.specs.Pushdown.{Pushdown}
use Rattle.pushdown_rules.specs.declared.rule.Rule.{Rule}
use Rattle.relation_weights.specs.RelationNodes.{IsReturnBy}
use Rattle.node_weigher.specs.NodeWeighers.{nodes_of}
use Rattle.node_weigher.proofs.weigher.NodeWeigher.return_of.Goals as goal

pub keep_return-requires : goal.keep_return-requires
keep_return-requires c =
    let new = c.mapped.new.self in
    let there = c.requires.map in
    let by = c.in_ok-by.ensures.by in
    record {
      some = (c.args.map.now, by);
      is = λ r map at with_map.
          let here = ap (λ p. slice_get p.rules c.args.k) (sym c.in_ok-by.ensures.grows.system) ∙ at in
          let rule = same_Some there.0 r (sym there.1 ∙ here) in
          let same = same_Some c.args.map.now map (sym there.2 ∙ ap (λ q. q.map) rule ∙ with_map) in
          subst (λ m. IsReturnBy (nodes_of new) m c.in_ok-by.by) same by;
    }
