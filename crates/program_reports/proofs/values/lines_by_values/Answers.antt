use Rattle.std.proofs.Common.{◌≡◌, ◌+◌, ◌++◌, ◌<◌, ◌≤◌, List, get_or, length, take, sym, ap, ◌∙◌, subst, arith}
use Rattle.std.specs.Prelude.{All}
use Rattle.std.proofs.lemmas.List.{length-map}
use Rattle.std.proofs.lemmas.Option.{slice_get-get_or}
use Rattle.relation_weights.specs.Relations.{relation_operations}
use Rattle.boolean_programs.specs.declared.point.Point.{Point}
use Rattle.query_answers.specs.Answering.{AreValues}
use Rattle.report_text.specs.Reports.{ByQuery}
use Rattle.lowering_laws.specs.Queries.{point_pattern}
use Rattle.program_laws.specs.ReadPrograms.{IsPoint}
use Rattle.program_reports.specs.ProgramReports.{TellsPoint}
use Rattle.program_reports.specs.private.Asked.{program_in, IsValueFor}
use Rattle.program_reports.proofs.GroupLemmas.{all_of_each, none_there, value_for}
use Rattle.program_reports.proofs.PartLemmas.{one_query_more, all_queries}
use Rattle.program_reports.proofs.values.lines_by_values.Goals as goal

pub ends_of-requires-clause-points : goal.ends_of-requires-clause-points
ends_of-requires-clause-points g c =
    let a = c.args.asked.now in
    subst (λ (ps : List Point). All (IsPoint (program_in a)) ps) (sym c.as_slice-points.ensures) (all_of_each (IsPoint (program_in a)) a.program.now.queries c.requires.asked.program.asked)

pub loop-place-init : goal.loop-place-init
loop-place-init g c = c.new-text.ensures.items

pub index-requires : goal.index-requires
index-requires g c =
    let a = c.args.asked.now in
    let points = c.as_slice-points.result.now in
    let are = c.in_ok-found.ensures in
    let ends = ap length c.in_ok-ends.ensures.value ∙ length-map points (point_pattern (program_in a)) in
    omega (arith, c.loop-place-test.true, are.count, ap length c.deref.ensures.value, ends)

pub value_line-requires-clause-point : goal.value_line-requires-clause-point
value_line-requires-clause-point g c =
    let a = c.args.asked.now in
    let place = c.loop-place.place in
    let queries = a.program.now.queries in
    let below = subst (λ (ps : List Point). place < length ps) c.as_slice-points.ensures c.loop-place-test.true in
    let here = c.requires.asked.program.asked place (get_or queries place none_there) (slice_get-get_or queries place none_there below) in
    subst (λ (ps : List Point). IsPoint (program_in a) (get_or ps place none_there)) (sym c.as_slice-points.ensures) here

pub value_line-requires-clause-value : goal.value_line-requires-clause-value
value_line-requires-clause-value g c =
    let a = c.args.asked.now in
    let points = c.as_slice-points.result.now in
    let ends = c.in_ok-ends.ends.items in
    let values = c.in_ok-found.found.items in
    let place = c.loop-place.place in
    let from = c.in_ok-from.from in
    let found = c.in_ok-found.ensures in
    let are : AreValues relation_operations a.lowering.system a.options.by a.options.workers from ends values =
    subst (λ xs. AreValues relation_operations a.lowering.system a.options.by a.options.workers from xs values) c.deref.ensures.value found in
    value_for a points from ends values place none_there c.index.result.now c.in_ok-from.ensures.value c.in_ok-ends.ensures.value are c.loop-place-test.true c.index.ensures

pub loop-place-preserved : goal.loop-place-preserved
loop-place-preserved g c =
    let a = c.args.asked.now in
    let place = c.loop-place.place in
    let queries = a.program.now.queries in
    let tells = TellsPoint a.options a.program.now a.lowering.system in
    let below = subst (λ (ps : List Point). place < length ps) c.as_slice-points.ensures c.loop-place-test.true in
    let here = subst (λ (ps : List Point). tells (place + 1) (get_or ps place none_there) c.in_ok-line.line) c.as_slice-points.ensures c.in_ok-line.ensures in
    let grown = one_query_more tells 1 queries place (place + 1) none_there c.loop-place.text.items c.in_ok-line.line (omega arith) below c.loop-place.invariant here in
    let joined : c.extend_from_slice.new.self.items ≡ c.loop-place.text.items ++ c.in_ok-line.line =
    subst (λ t. c.extend_from_slice.new.self.items ≡ c.loop-place.text.items ++ t) c.as_bytes.ensures c.in_ok-extend_from_slice.ensures.items in
    subst (ByQuery tells 1 (take (place + 1) queries)) (sym joined) grown

pub returns : goal.returns
returns g c =
    let a = c.args.asked.now in
    let queries = a.program.now.queries in
    let tells = TellsPoint a.options a.program.now a.lowering.system in
    let past = subst (λ (ps : List Point). length ps ≤ c.loop-place.place) c.as_slice-points.ensures c.loop-place-test.false in
    let all = all_queries tells 1 queries c.loop-place.place c.loop-place.text.items past c.loop-place.invariant in
    subst (ByQuery tells 1 queries) (sym c.from_vec.ensures) all
