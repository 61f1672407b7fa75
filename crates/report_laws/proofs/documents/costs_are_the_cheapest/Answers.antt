use Rattle.config_patterns.specs.Membership.{has_member}
use Rattle.path_sum.specs.Answers.{listed_runs}
use Rattle.report_laws.proofs.QueryLemmas.{cheapest, told_cost}
use Rattle.report_laws.proofs.documents.costs_are_the_cheapest.Goals as goal

pub returns : goal.returns
returns c = λ p items i from to options text system is.
    let a = is.answer in
    let answers = is.is_answer.shows.answers in
    let zero = c.zero_where_infeasible.ensures.zero p (has_member from) (has_member to) a.value (listed_runs a.listing) system answers in
    let fits = c.answers_are_greatest_below.ensures.fits p (has_member from) (has_member to) a.value (listed_runs a.listing) system answers in
    told_cost p from to i options text a.listing a.value fits (λ e. zero.0 e) (λ e. is.is_answer.shows.unlisted.1 e)
    (λ n e. cheapest p from to a.value (listed_runs a.listing) n e answers (λ m k low. (c.below_is_no_dearer.ensures.numbers p.semiring m k).0 low)) is.told
