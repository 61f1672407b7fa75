use Rattle.std.proofs.Common.{sym, ap, ◌∙◌}
use Rattle.relation_laws.proofs.CallerLemmas.{parts_same}
use Rattle.relation_weights.proofs.relation.Relation.is_same.Goals as goal

pub returns : goal.returns
returns c =
    let a = c.diagram.ensures in
    let b = c.diagram-2.ensures in (
      λ yes. let e = c.same.ensures.parts.0 yes in parts_same c.args.self.now c.args.other.now (sym a.root ∙ e.0 ∙ b.root) (sym a.nodes ∙ e.1 ∙ b.nodes),
      λ is. c.same.ensures.parts.1 (a.root ∙ ap (λ p. p.root) is ∙ sym b.root, a.nodes ∙ ap (λ p. p.nodes) is ∙ sym b.nodes),
    )
