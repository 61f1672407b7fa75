use Rattle.std.proofs.Common.{sym}
use Rattle.config_patterns.specs.Membership.{has_member}
use Rattle.lowering_laws.specs.Queries.{entry_pattern, point_pattern}
use Rattle.program_reports.specs.private.Asked.{program_in}
use Rattle.program_reports.proofs.ServingLemmas.{of_ok, opened_within}
use Rattle.program_reports.proofs.TellingLemmas.{tells}
use Rattle.program_reports.proofs.TracingLemmas.{can_trace}
use Rattle.program_reports.proofs.report.lines_over.Goals as goal

pub traced-requires-clause-runs : goal.traced-requires-clause-runs
traced-requires-clause-runs c =
    let a = c.args.asked.now in
    let p = program_in a in
    let point = c.args.point in
    let system = a.lowering.system in
    let from = entry_pattern p in
    let to = point_pattern p point in
    let within = opened_within a.options.by p point system.controls c.requires.asked.lowering.lowering.controls in
    let is = c.in_ok-answer.ensures system a.options.by a.options.workers from to within (sym c.in_ok-summed.ensures.value) c.requires.serves.saturated in
    can_trace p system c.requires.asked.valid (has_member to) c.in_ok-answer.answer.value c.in_ok-answer.answer.listing is.shows.answers is.shows.unlisted.1

pub returns : goal.returns
returns c =
    let a = c.args.asked.now in
    let p = program_in a in
    let point = c.args.point in
    let system = a.lowering.system in
    let low = c.requires.asked.lowering in
    let from = entry_pattern p in
    let to = point_pattern p point in
    let within = opened_within a.options.by p point system.controls low.lowering.controls in
    let is = c.in_ok-answer.ensures system a.options.by a.options.workers from to within (sym c.in_ok-summed.ensures.value) c.requires.serves.saturated in
    let decided = c.answers_tell_points.ensures p point system a.options.by a.options.workers c.in_ok-answer.answer c.requires.asked.program.read c.requires.point c.requires.asked.valid low is in
    of_ok c.point_lines.result
    (λ text lines_are. tells a.options a.program.now system c.args.number point text c.in_ok-trace.trace c.in_ok-answer.answer low.semiring is decided c.in_ok-trace.ensures lines_are) c.point_lines.ensures
