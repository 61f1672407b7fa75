use Rattle.std.proofs.Common.{◌<◌, set, sym, subst, ◌∙◌}
use Rattle.wpds_app.specs.private.Kept.{AreKept}
use Rattle.wpds_app.proofs.KeptLemmas.{kept_at, kept_less}
use Rattle.wpds_app.proofs.report.lines_at.Goals as goal

pub returns-in-Some-clause-lines : goal.returns-in-Some-clause-lines
returns-in-Some-clause-lines g c =
    let within = subst (λ n. c.args.place < n) (sym c.requires.room) c.requires.place in
    kept_at g.S.DocumentWeights.kind c.args.options c.args.system.now.semiring c.args.document.now c.args.kept.now c.args.place
    c.index-kept-place.result c.in-Some.lines c.requires.kept within c.index-kept-place.is (c.index-kept-place.is ∙ sym c.take.ensures.value ∙ c.in-Some.is)

pub returns-in-Some-clause-kept : goal.returns-in-Some-clause-kept
returns-in-Some-clause-kept g c =
    let kept = c.args.kept.now in
    let less = kept_less g.S.DocumentWeights.kind c.args.options c.args.system.now.semiring c.args.document.now kept c.args.place c.requires.kept in
    subst (λ o. AreKept g.S.DocumentWeights.kind c.args.options c.args.system.now.semiring c.args.document.now (set kept c.args.place o)) (sym c.take.ensures.after) less

pub lines_by_values-requires-clause-kept : goal.lines_by_values-requires-clause-kept
lines_by_values-requires-clause-kept g c κs within =
    let kept = c.args.kept.now in
    let less = kept_less g.S.DocumentWeights.kind c.args.options c.args.system.now.semiring c.args.document.now kept c.args.place c.requires.kept in
    subst (λ o. AreKept g.S.DocumentWeights.kind c.args.options c.args.system.now.semiring c.args.document.now (set kept c.args.place o)) (sym c.take.ensures.after) less

pub lines_by_saturation-requires-clause-kept : goal.lines_by_saturation-requires-clause-kept
lines_by_saturation-requires-clause-kept g c κs within =
    let kept = c.args.kept.now in
    let less = kept_less g.S.DocumentWeights.kind c.args.options c.args.system.now.semiring c.args.document.now kept c.args.place c.requires.kept in
    subst (λ o. AreKept g.S.DocumentWeights.kind c.args.options c.args.system.now.semiring c.args.document.now (set kept c.args.place o)) (sym c.take.ensures.after) less
