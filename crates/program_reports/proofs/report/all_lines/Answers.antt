use Rattle.std.proofs.Common.{◌≡◌, ◌+◌, ◌<◌, ◌≤◌, ◌++◌, List, length, get_or, take, sym, subst, arith}
use Rattle.std.proofs.lemmas.Option.{slice_get-get_or}
use Rattle.boolean_programs.specs.declared.point.Point.{Point}
use Rattle.report_text.specs.Reports.{ByQuery}
use Rattle.program_reports.specs.ProgramReports.{TellsPoint}
use Rattle.program_reports.specs.private.Asked.{program_in}
use Rattle.program_laws.specs.ReadPrograms.{IsPoint}
use Rattle.program_reports.proofs.GroupLemmas.{none_there}
use Rattle.program_reports.proofs.PartLemmas.{one_query_more, all_queries}
use Rattle.program_reports.proofs.report.all_lines.Goals as goal

pub loop-place-init : goal.loop-place-init
loop-place-init g c = c.new-text.ensures.items

pub lines_of-requires-clause-point : goal.lines_of-requires-clause-point
lines_of-requires-clause-point g c κs within =
    let a = c.args.asked.now in
    let place = c.loop-place.place in
    let queries = a.program.now.queries in
    let below = subst (λ (ps : List Point). place < length ps) c.as_slice-point-items.ensures c.loop-place-test.true in
    let here = c.requires.asked.program.asked place (get_or queries place none_there) (slice_get-get_or queries place none_there below) in
    subst (λ (ps : List Point). IsPoint (program_in a) (get_or ps place none_there)) (sym c.as_slice-point-items.ensures) here

pub loop-place-preserved : goal.loop-place-preserved
loop-place-preserved g c =
    let a = c.args.asked.now in
    let place = c.loop-place.place in
    let queries = a.program.now.queries in
    let tells = TellsPoint a.options a.program.now a.lowering.system in
    let below = subst (λ (ps : List Point). place < length ps) c.as_slice-point-items.ensures c.loop-place-test.true in
    let here = subst (λ (ps : List Point). tells (place + 1) (get_or ps place none_there) c.in_ok-lines.lines) c.as_slice-point-items.ensures c.in_ok-lines.ensures in
    let grown = one_query_more tells 1 queries place (place + 1) none_there c.loop-place.text.items c.in_ok-lines.lines (omega arith) below c.loop-place.invariant here in
    let joined : c.extend_from_slice.new.self.items ≡ c.loop-place.text.items ++ c.in_ok-lines.lines =
    subst (λ t. c.extend_from_slice.new.self.items ≡ c.loop-place.text.items ++ t) c.as_bytes.ensures c.in_ok-extend_from_slice.ensures.items in
    subst (ByQuery tells 1 (take (place + 1) queries)) (sym joined) grown

pub returns : goal.returns
returns g c =
    let a = c.args.asked.now in
    let queries = a.program.now.queries in
    let tells = TellsPoint a.options a.program.now a.lowering.system in
    let past = subst (λ (ps : List Point). length ps ≤ c.loop-place.place) c.as_slice-point-items.ensures c.loop-place-test.false in
    let all = all_queries tells 1 queries c.loop-place.place c.loop-place.text.items past c.loop-place.invariant in
    subst (ByQuery tells 1 queries) (sym c.from_vec.ensures) all
