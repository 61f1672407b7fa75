use Rattle.std.proofs.Common.{◌≡◌, ◌∙◌, true, sym, subst}
use Rattle.std.specs.Prelude.{◌↔◌}
use Rattle.semiring_laws.specs.Semiring.{Fits}
use Rattle.config_patterns.specs.Membership.{has_member}
use Rattle.path_sum.specs.Answers.{listed_runs}
use Rattle.relation_weights.specs.Relations.{relation_operations}
use Rattle.lowering_laws.specs.Lowering.{variables}
use Rattle.lowering_laws.specs.Queries.{entry_pattern, point_pattern}
use Rattle.program_reports.specs.private.Asked.{program_in}
use Rattle.program_reports.proofs.ServingLemmas.{of_ok}
use Rattle.program_reports.proofs.TellingLemmas.{tells_alone}
use Rattle.program_reports.proofs.values.value_line.Goals as goal

pub is_zero-reached-requires : goal.is_zero-reached-requires
is_zero-reached-requires c =
    let a = c.args.asked.now in
    let p = program_in a in
    let system = a.lowering.system in
    let from = entry_pattern p in
    let to = point_pattern p c.args.point in
    let is = c.requires.value in
    let fits = c.answers_are_greatest_below.ensures.fits system (has_member from) (has_member to) is.0.value (listed_runs is.0.listing) c.requires.asked.valid is.1.shows.answers in
    subst (λ n. Fits (relation_operations n) c.args.value.now) (sym c.semiring.ensures.value) (subst (Fits (relation_operations system.semiring)) (sym is.2) fits)

pub returns : goal.returns
returns c =
    let a = c.args.asked.now in
    let p = program_in a in
    let point = c.args.point in
    let system = a.lowering.system in
    let low = c.requires.asked.lowering in
    let is = c.requires.value in
    let decided = c.answers_tell_points.ensures p point system a.options.by a.options.workers is.0 c.requires.asked.program.read c.requires.point c.requires.asked.valid low is.1 in
    let semiring : c.semiring.result.now ≡ variables p = c.semiring.ensures.value ∙ low.semiring in
    let test : (c.is_zero-reached.result ≡ true) ↔ (is.0.value ≡ (relation_operations (variables p)).zero) =
    subst (λ v. (c.is_zero-reached.result ≡ true) ↔ (v ≡ (relation_operations (variables p)).zero)) is.2
    (subst (λ n. (c.is_zero-reached.result ≡ true) ↔ (c.args.value.now ≡ (relation_operations n).zero)) semiring c.is_zero-reached.ensures) in
    of_ok c.point_line.result
    (λ text line_is. tells_alone a.options a.program.now system c.args.number point text is.0 c.is_zero-reached.result is.1 decided c.requires.brief test line_is) c.point_line.ensures
