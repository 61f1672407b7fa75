use Rattle.std.proofs.Common.{◌+◌, ◌<◌, length, ◌≡◌, ◌↔◌, ◌*◌, ℕ, Bool, false, subst, sym, ap, ◌∙◌, arith}
use Rattle.std.specs.Prelude.{IsTrue, nat_eq}
use Rattle.relation_laws.specs.Relations.{relation_of, no_pairs}
use Rattle.relation_weights.specs.RelationNodes.{NodesOf, relation_at}
use Rattle.relation_weights.proofs.NodeLemmas.{empty_at}
use Rattle.relation_weights.proofs.nodes.RelationNodes.is_empty.Goals as goal

pub returns : goal.returns
returns c =
    let P = λ (v : NodesOf). IsTrue (nat_eq c.args.a 0) ↔ (relation_at v c.args.a ≡ relation_of v.bits no_pairs) in
    let within : c.args.a < length c.self.inside.table + 2 = subst (λ (v : NodesOf). c.args.a < length v.nodes + 2) (sym c.self.view_is) c.requires in
    subst P c.self.view_is (empty_at c.self.inside.n c.self.inside.table c.valid.ensures.reduced c.self.invariant.below c.valid.ensures.tells c.args.a within)
