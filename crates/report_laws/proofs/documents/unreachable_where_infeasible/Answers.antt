use Rattle.std.proofs.Common.{ap, ◌∙◌, subst}
use Rattle.config_patterns.specs.Membership.{has_member}
use Rattle.path_sum.specs.Answers.{listed_runs}
use Rattle.report_text.specs.Listings.{query_line}
use Rattle.query_answers.specs.Answering.{IsAnswer}
use Rattle.report_laws.proofs.QueryLemmas.{told_unreachable, unlisted_line}
use Rattle.report_laws.proofs.documents.unreachable_where_infeasible.Goals as goal

pub returns : goal.returns
returns g c = λ p items i from to options text named system is.
    let a = is.answer in
    let is_answer = subst (λ operations. IsAnswer operations p options.by options.workers from to a) g.met.S.DocumentWeights.computes is.is_answer in
    let answers = is_answer.shows.answers in
    let zero = c.zero_where_infeasible.ensures.zero p (has_member from) (has_member to) a.value (listed_runs a.listing) system answers in
    let fits = c.answers_are_greatest_below.ensures.fits p (has_member from) (has_member to) a.value (listed_runs a.listing) system answers in
    let text_of_zero = c.unreachable_is_zero.ensures p.semiring items a.value named fits in
    let written = g.S.DocumentWeights.kind.written p.semiring items a.value in (
      λ e. zero.0 (text_of_zero.0 (told_unreachable i options written text a.listing is.told e)),
      λ none.
          let nothing = zero.1 none in
          is.told ∙ unlisted_line i options written a.listing (is_answer.shows.unlisted.1 nothing) ∙ ap (query_line i) (text_of_zero.1 nothing),
    )
