use Rattle.std.proofs.Common.{◌≡◌, length, take}
use Rattle.report_text.specs.Reports.{ByQuery}
use Rattle.wpds_app.specs.Reports.{TellsQuery}
use Rattle.wpds_app.specs.private.Groups.{values_over}
use Rattle.wpds_app.specs.private.Kept.{AreKept}
use Rattle.wpds_app.proofs.report.lines_over.Given as goal

abbrev pub invariant-loop-place : goal.invariant-loop-place
invariant-loop-place g l =
    let kind = g.S.DocumentWeights.kind in
    let d = l.document in
    (length l.kept.items ≡ length d.queries)
    × AreKept kind l.options l.system.semiring d l.kept.items
    × ByQuery (TellsQuery kind l.options l.system.semiring d) 1 (take l.place d.queries) l.text.items
    × (l.values ≡ values_over l.system l.options)
