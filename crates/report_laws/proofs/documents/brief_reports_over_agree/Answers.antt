use Rattle.std.proofs.Common.{◌++◌, [], sym, ap, ◌∙◌, subst}
use Rattle.config_patterns.specs.Membership.{has_member}
use Rattle.document_systems.specs.Systems.{system_of, side_of}
use Rattle.path_sum.specs.Answers.{listed_runs}
use Rattle.query_answers.specs.Answering.{IsAnswer}
use Rattle.report_text.specs.Listings.{query_line}
use Rattle.report_text.proofs.CallerLemmas.{same_parts, brief_text}
use Rattle.report_laws.proofs.documents.brief_reports_over_agree.Goals as goal

pub returns : goal.returns
returns g c = λ s d one other report text named is taken brief brief' reported told.
    let kind = g.S.DocumentWeights.kind in
    let p = system_of kind s d in
    let system = c.documents_are_systems.ensures s d named is taken in
    same_parts (λ i q t u h k.
    let from = side_of d q.from in
    let to = side_of d q.to in
    let a = subst (λ operations. IsAnswer operations p one.by one.workers from to h.answer) g.met.S.DocumentWeights.computes h.is_answer in
    let b = subst (λ operations. IsAnswer operations p other.by other.workers from to k.answer) g.met.S.DocumentWeights.computes k.is_answer in
    let same =
    c.answers_agree.ensures p (has_member from) (has_member to) h.answer.value k.answer.value
    (listed_runs h.answer.listing) (listed_runs k.answer.listing) system a.shows.answers b.shows.answers
    in
    h.told
    ∙ brief_text i one (kind.written s d.items h.answer.value) h.answer.listing brief
    ∙ ap (λ v. query_line i (kind.written s d.items v) ++ []) same
    ∙ sym (k.told ∙ brief_text i other (kind.written s d.items k.answer.value) k.answer.listing brief'))
    1 d.queries report text reported told
