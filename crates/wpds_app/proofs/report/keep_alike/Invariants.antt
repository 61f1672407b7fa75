use Rattle.std.proofs.Common.{◌≡◌, length}
use Rattle.query_answers.specs.Answering.{saturated_system}
use Rattle.wpds_app.specs.private.Kept.{AreKept}
use Rattle.wpds_app.proofs.report.keep_alike.Given as goal

abbrev pub invariant-loop-k : goal.invariant-loop-k
invariant-loop-k g l =
    (length l.kept ≡ length l.document.queries)
    × AreKept g.S.DocumentWeights.kind l.options (saturated_system l.saturation).semiring l.document l.kept
