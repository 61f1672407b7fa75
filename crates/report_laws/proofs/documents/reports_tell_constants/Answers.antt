use Rattle.std.proofs.Common.{length, subst}
use Rattle.config_patterns.specs.Membership.{has_member}
use Rattle.document_systems.specs.CopyWeights.{copy_kind}
use Rattle.document_systems.specs.Systems.{system_of, side_of}
use Rattle.document_systems.proofs.CallerLemmas.{all_taken}
use Rattle.value_texts.specs.Telling.{GivesForms}
use Rattle.wpds_app.specs.Reports.{BySemiring, IsReported}
use Rattle.report_laws.proofs.TellingLemmas.{reported_tells}
use Rattle.report_laws.proofs.documents.reports_tell_constants.Goals as goal

pub returns : goal.returns
returns c = λ d options report copies is reported.
    let n = length d.items in
    let p = system_of copy_kind n d in
    let system = c.documents_are_systems.ensures n d tt is (all_taken copy_kind n (λ t. tt) (λ m. tt) d) in
    reported_tells copy_kind n d (GivesForms p)
    (λ q v runs answer. c.constants_are_of_runs.ensures.text p (has_member (side_of d q.from)) (has_member (side_of d q.to)) v runs system answer d.items)
    (λ q v runs answer.
    let fit = c.answers_are_greatest_below.ensures.fits p (has_member (side_of d q.from)) (has_member (side_of d q.to)) v runs system answer in
    (c.unreachable_is_zero.ensures n d.items v tt fit).0)
    options report (subst (λ w. BySemiring (λ S W Map kind semiring. IsReported kind options semiring d report) w n) copies reported)
