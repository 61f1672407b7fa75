use Rattle.std.proofs.Common.{sym, ap, ◌∙◌, subst}
use Rattle.config_patterns.specs.Membership.{has_member}
use Rattle.document_systems.specs.Systems.{system_of, side_of}
use Rattle.path_sum.specs.Answers.{listed_runs}
use Rattle.query_answers.specs.Answering.{IsAnswer}
use Rattle.report_text.specs.Listings.{query_line}
use Rattle.report_text.specs.Reports.{below}
use Rattle.std.specs.Prelude.{◌++◌}
use Rattle.report_laws.proofs.AgreementLemmas.{of_both}
use Rattle.report_laws.proofs.documents.reports_over_tell_one_value.Goals as goal

pub returns : goal.returns
returns g c = λ s d one other report text named is taken reported told.
    let kind = g.S.DocumentWeights.kind in
    let p = system_of kind s d in
    let system = c.documents_are_systems.ensures s d named is taken in
    of_both (λ i q t u h k.
    let from = side_of d q.from in
    let to = side_of d q.to in
    let a = subst (λ operations. IsAnswer operations p one.by one.workers from to h.answer) g.met.S.DocumentWeights.computes h.is_answer in
    let b = subst (λ operations. IsAnswer operations p other.by other.workers from to k.answer) g.met.S.DocumentWeights.computes k.is_answer in
    let same =
    c.answers_agree.ensures p (has_member from) (has_member to) h.answer.value k.answer.value
    (listed_runs h.answer.listing) (listed_runs k.answer.listing) system a.shows.answers b.shows.answers
    in
    record {
      value = h.answer.value;
      first = (below one h.answer.listing, h.told);
      second = (
        below other k.answer.listing,
        k.told ∙ ap (λ v. query_line i (kind.written s d.items v) ++ below other k.answer.listing) (sym same),
      );
    })
    1 d.queries report text reported told
