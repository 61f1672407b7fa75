use Rattle.std.proofs.Common.{◌≡◌, ◌↔◌, ◌+◌, ◌<◌, ℕ, length, subst, sym}
use Rattle.std.specs.Prelude.{IsTrue, nat_eq}
use Rattle.relation_weights.specs.RelationNodes.{NodesOf, IsReference, relation_at}
use Rattle.relation_weights.proofs.NodeLemmas.{same_at}
use Rattle.relation_weights.proofs.nodes.RelationNodes.is_same.Goals as goal

pub returns : goal.returns
returns c =
    let P = λ (v : NodesOf). IsTrue (nat_eq c.args.a c.args.b) ↔ (relation_at v c.args.a ≡ relation_at v c.args.b) in
    let within : (r : ℕ) → IsReference c.args.self.now r → r < length c.self.inside.table + 2 = λ r w. subst (λ v. IsReference v r) (sym c.self.view_is) w in
    subst P c.self.view_is
    (same_at c.self.inside.n c.self.inside.table c.valid.ensures.reduced c.self.invariant.below c.valid.ensures.tells c.args.a c.args.b
    (within c.args.a c.requires.left) (within c.args.b c.requires.right))
