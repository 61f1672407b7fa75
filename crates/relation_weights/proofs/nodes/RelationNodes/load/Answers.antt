use Rattle.std.proofs.Common.{◌*◌, sym, subst}
use Rattle.diagram_store.specs.Diagrams.{IsOver}
use Rattle.relation_weights.specs.RelationNodes.{NodesOf, HasMore}
use Rattle.relation_weights.proofs.NodeLemmas.{kept_more, more_kept}
use Rattle.relation_weights.proofs.nodes.RelationNodes.load.Goals as goal

pub invariant_of-self : goal.invariant_of-self
invariant_of-self c =
    kept_more c.self.inside.n c.self.inside.table c.load-made.new.self c.valid.ensures.reduced c.valid-2.ensures.reduced c.load-made.ensures.keeps
    c.self.inside.identity
    (c.load-made.ensures.limits (2 * c.self.inside.n) c.self.invariant.below
    (subst (λ (v : NodesOf). IsOver (2 * v.bits) c.args.diagram.now) (sym c.self.view_is) c.requires)) c.self.invariant

pub returns-clause-more : goal.returns-clause-more
returns-clause-more c =
    let new : NodesOf = record { bits = c.self.inside.n; nodes = c.load-made.new.self } in
    subst (λ v. HasMore v new) c.self.view_is
    (more_kept c.self.inside.n c.self.inside.table c.load-made.new.self c.valid.ensures.reduced c.valid-2.ensures.reduced c.load-made.ensures.keeps)
