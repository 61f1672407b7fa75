use Rattle.std.proofs.Common.{◌≢◌, ◌↔◌, subst}
use Rattle.config_patterns.specs.Membership.{has_member}
use Rattle.pushdown_rules.specs.Answers.{HasFeasibleRun}
use Rattle.path_sum.specs.Answers.{listed_runs}
use Rattle.relation_weights.specs.Relations.{relation_operations}
use Rattle.lowering_laws.specs.Queries.{entry_pattern, point_pattern}
use Rattle.program_reports.proofs.TellingLemmas.{through}
use Rattle.program_reports.proofs.laws.answers_tell_points.Goals as goal

pub returns : goal.returns
returns c = λ p point system by workers a read is_point valid low is.
    let from = has_member (entry_pattern p) in
    let to = has_member (point_pattern p point) in
    let feasible = c.zero_where_infeasible.ensures.other system from to a.value (listed_runs a.listing) valid is.shows.answers in
    let here = subst (λ n. (a.value ≢ (relation_operations n).zero) ↔ HasFeasibleRun (relation_operations n) system from to) low.semiring feasible in
    through here (c.programs_are_decided.ensures p point system read is_point valid low)
