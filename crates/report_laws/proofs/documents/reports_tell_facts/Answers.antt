use Rattle.std.proofs.Common.{length, subst}
use Rattle.genkill_weights.specs.GenKillLaws.{genkill_laws}
use Rattle.genkill_weights.specs.Widths.{width_for}
use Rattle.config_patterns.specs.Membership.{has_member}
use Rattle.document_systems.specs.FactLaws.{genkill_zero}
use Rattle.document_systems.specs.FactWeights.{genkill_kind}
use Rattle.document_systems.specs.Systems.{system_of, side_of}
use Rattle.value_texts.specs.Telling.{NamesFacts}
use Rattle.value_texts.proofs.CallerLemmas.{answer_fits, fact_system}
use Rattle.wpds_app.specs.Reports.{BySemiring, IsReported}
use Rattle.report_laws.proofs.TellingLemmas.{reported_tells}
use Rattle.report_laws.proofs.documents.reports_tell_facts.Goals as goal

pub returns : goal.returns
returns c = λ d options report facts is reported.
    let n = width_for (length d.items) in
    let kind = genkill_kind n in
    let p = system_of kind (record {}) d in
    let system = fact_system n d is in
    reported_tells kind (record {}) d (NamesFacts n p)
    (λ q v runs answer. c.facts_are_of_runs.ensures.text n p (has_member (side_of d q.from)) (has_member (side_of d q.to)) v runs system answer d.items)
    (λ q v runs answer. let fit = answer_fits system (genkill_laws n) (has_member (side_of d q.from)) (has_member (side_of d q.to)) v runs answer in (genkill_zero n d.items v tt fit).0)
    options report (subst (λ w. BySemiring (λ S W Map kind semiring. IsReported kind options semiring d report) w (length d.items)) facts reported)
