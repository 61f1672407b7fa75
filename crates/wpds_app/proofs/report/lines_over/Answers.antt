use Rattle.std.proofs.Common.{◌≡◌, ◌+◌, ◌<◌, ◌++◌, List, length, take, drop, sym, ap, subst, ◌∙◌, arith}
use Rattle.std.specs.Prelude.{ℕ, Option}
use Rattle.std.proofs.Math.Seq.{take-append_seam}
use Rattle.report_text.specs.Reports.{ByQuery}
use Rattle.wpds_app.specs.Reports.{TellsQuery}
use Rattle.wpds_app.specs.private.Kept.{AreKept}
use Rattle.wpds_app.proofs.KeptLemmas.{nothing_kept, one_query_more}
use Rattle.wpds_app.proofs.report.lines_over.Goals as goal

pub lines_at-requires-clause-kept : goal.lines_at-requires-clause-kept
lines_at-requires-clause-kept g c κs within =
    subst (AreKept g.S.DocumentWeights.kind c.args.options c.args.system.now.semiring c.args.document.now) (sym c.deref_mut.ensures.value) c.loop-place.invariant.1

pub loop-place-init : goal.loop-place-init
loop-place-init g c = (
  c.in_ok-kept.ensures.room ∙ c.len-count.ensures,
  nothing_kept g.S.DocumentWeights.kind c.args.options c.args.system.now.semiring c.args.document.now c.in_ok-kept.kept.items c.in_ok-kept.ensures.empty,
  c.new-text.ensures.items,
  c.new-values.ensures,
)

pub loop-place-preserved : goal.loop-place-preserved
loop-place-preserved g c =
    let d = c.args.document.now in
    let kind = g.S.DocumentWeights.kind in
    let semiring = c.args.system.now.semiring in
    let place = c.loop-place.place in
    let new = c.lines_at.new.kept in
    let rest = drop (length new) c.loop-place.kept.items in
    let same = ap length c.deref_mut.ensures.value in
    let room : length new ≡ length d.queries = c.lines_at.ensures.room ∙ same ∙ c.loop-place.invariant.0 in
    let len : c.loop-place.kept.len ≡ length new = omega (arith, c.lines_at.ensures.room, c.deref_mut.ensures.len) in
    let whole : take c.loop-place.kept.len (new ++ rest) ≡ new = ap (λ n. take n (new ++ rest)) len ∙ take-append_seam new rest in
    let within : place < length d.queries = omega (arith, c.loop-place-test.true, c.len-count.ensures) in
    let grown = one_query_more kind c.args.options semiring d place c.loop-place.text.items c.in_ok-lines.lines within c.loop-place.invariant.2 c.in_ok-lines.ensures.lines in
    let joined = c.in_ok-extend_from_slice.ensures.items ∙ ap (λ t. c.loop-place.text.items ++ t) c.as_bytes.ensures in
    let K : List (Option (List ℕ)) → Type 0 = λ ks. (length ks ≡ length d.queries) × AreKept kind c.args.options semiring d ks in
    let kept : K (take c.loop-place.kept.len (new ++ rest)) = subst K (sym whole) (room, c.in_ok-lines.ensures.kept) in
    (kept.0, kept.1, subst (ByQuery (TellsQuery kind c.args.options semiring d) 1 (take (place + 1) d.queries)) (sym joined) grown, c.lines_at.ensures.values ∙ c.loop-place.invariant.3)
