use Rattle.std.proofs.Common.{◌≡◌, length, get_or, sym, ap, subst, ◌∙◌, length-set}
use Rattle.std.specs.Prelude.{Some}
use Rattle.query_answers.specs.Answering.{saturated_system}
use Rattle.wpds_app.specs.private.Kept.{AreKept}
use Rattle.wpds_app.proofs.KeptLemmas.{kept_more, told_at}
use Rattle.wpds_app.proofs.report.keep_alike.Goals as goal

pub loop-k-preserved : goal.loop-k-preserved
loop-k-preserved g c =
    let d = c.args.document.now in
    let kind = g.S.DocumentWeights.kind in
    let semiring = (saturated_system c.args.saturation.now).semiring in
    let i = c.loop-k.k in
    let q = c.index-queries-k.result in
    let lines = c.in_ok-lines.lines in
    let item = subst (λ xs. q ≡ get_or xs i q) c.as_slice-queries.ensures c.index-queries-k.is in
    let tells = told_at kind c.args.options semiring d i q lines item c.in_ok-lines.ensures in
    let more = kept_more kind c.args.options semiring d c.loop-k.kept i lines c.loop-k.invariant.1 tells in
    let count = ap length c.keep.ensures ∙ length-set c.loop-k.kept i (Some lines) ∙ c.loop-k.invariant.0 in
    (count, subst (AreKept kind c.args.options semiring d) (sym c.keep.ensures) more)
