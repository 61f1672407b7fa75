use Rattle.std.proofs.Common.{sym, ap, ◌∙◌, subst}
use Rattle.witness_graph.specs.declared.node.Side.{Side}
use Rattle.query_answers.specs.Answering.{IsSaturated}
use Rattle.query_answers.specs.declared.saturation.Saturation.TheVariants.{Backward, Forward}
use Rattle.query_answers.proofs.answering.saturate.Goals as goal

pub returns-in_ok-saturate-in-Pre-clause-saturated : goal.returns-in_ok-saturate-in-Pre-clause-saturated
returns-in_ok-saturate-in-Pre-clause-saturated g c =
    let b = c.in_ok-saturate-in-Pre.field-0 in
    let kept = c.in_ok-saturate-in-Pre.ensures in
    let begun = c.in_ok-book-in-Pre.ensures in
    subst (λ (side : Side). IsSaturated g.S.Semiring.operations c.args.system.now side c.args.workers c.args.opened.now (Backward b)) (sym c.in-Pre.is)
    (record { system = kept.base.system ∙ begun.system; direction = kept.base.direction; opening = kept.base.opening ∙ begun.opening; book = kept.book; closed = kept.closed; seats = kept.seats; alone = kept.alone })

pub returns-in_ok-saturate-in-Post-clause-saturated : goal.returns-in_ok-saturate-in-Post-clause-saturated
returns-in_ok-saturate-in-Post-clause-saturated g c =
    let b = c.in_ok-saturate-in-Post.field-0 in
    let kept = c.in_ok-saturate-in-Post.ensures in
    let begun = c.in_ok-book-in-Post.ensures in
    subst (λ (side : Side). IsSaturated g.S.Semiring.operations c.args.system.now side c.args.workers c.args.opened.now (Forward b)) (sym c.in-Post.is)
    (record { system = kept.base.system ∙ begun.system; direction = kept.base.direction ∙ ap (λ n. record { items = n }) begun.direction; opening = kept.base.opening ∙ begun.opening; book = kept.book; closed = kept.closed; seats = kept.seats; alone = kept.alone })
