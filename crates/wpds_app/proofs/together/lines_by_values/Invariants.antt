use Rattle.std.proofs.Common.{◌≡◌, length}
use Rattle.wpds_app.specs.private.Kept.{AreKept}
use Rattle.wpds_app.proofs.together.lines_by_values.Given as goal

abbrev pub invariant-loop-j : goal.invariant-loop-j
invariant-loop-j g l =
    (length l.kept ≡ length l.document.queries)
    × AreKept g.S.DocumentWeights.kind l.fn.options l.system.semiring l.document l.kept
