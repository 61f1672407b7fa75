use Rattle.std.proofs.Common.{sym, ap, ap₂, ◌∙◌, subst, arith}
use Rattle.std.specs.Prelude.{IfOk}
use Rattle.config_patterns.specs.Membership.{PatternValue}
use Rattle.document_forms.specs.Lawful.{IsPatternText}
use Rattle.document_forms.specs.declared.pattern.PatternText.{PatternText}
use Rattle.pushdown_rules.specs.Pushdown.{Pushdown}
use Rattle.document_systems.specs.Systems.{pattern_of, side_of}
use Rattle.query_answers.specs.Answering.{saturated_system, IsAnswer, IsSaturated}
use Rattle.wpds_app.specs.Reports.{IsQueryText}
use Rattle.wpds_app.specs.private.Kept.{summed_text}
use Rattle.wpds_app.proofs.ReportingLemmas.{opened_side, summed_side, opened_below, summed_lawful, lines_told}
use Rattle.wpds_app.proofs.report.query_lines.Goals as goal

pub pattern_from-requires : goal.pattern_from-requires
pattern_from-requires g c =
    let text = summed_text c.args.options.by c.args.query.now in
    let lawful = summed_lawful c.args.options.by c.args.document.now c.args.query.now c.requires.query in
    let over = c.system-system.ensures ∙ c.requires.system in
    let here = subst (λ (p : Pushdown _ _ _). IsPatternText p.symbols p.controls p.symbols text) (sym over) lawful in
    let p = c.system-system.result.now in
    subst (IsPatternText p.symbols p.controls p.symbols) (sym c.summed_text.ensures) here

pub answer_over-requires-clause-control : goal.answer_over-requires-clause-control
answer_over-requires-clause-control g c =
    let lawful = summed_lawful c.args.options.by c.args.document.now c.args.query.now c.requires.query in
    let control = ap (λ (x : PatternValue). x.control) c.in_ok-summed.ensures ∙ ap (λ (t : PatternText). t.control) c.summed_text.ensures in
    let count = ap (λ (p : Pushdown _ _ _). p.controls) c.requires.system in
    omega (arith, control, count, lawful.control)

pub returns : goal.returns
returns g c =
    let p = saturated_system c.args.saturation.now in
    let d = c.args.document.now in
    let q = c.args.query.now in
    let by = c.args.options.by in
    let workers = c.args.options.workers in
    let a = c.in_ok-answer.answer in
    let kind = g.S.DocumentWeights.kind in
    let operations = g.S.Semiring.operations in
    let from = side_of d q.from in
    let to = side_of d q.to in
    let value = c.system-system.ensures in
    let below = opened_below kind by p d q c.requires.system c.requires.query in
    let saturated = subst (λ x. IsSaturated operations p by workers x c.args.saturation.now) (sym (opened_side by d q)) c.requires.saturated in
    let symbols = ap (λ (s : Pushdown _ _ _). s.symbols) value ∙ ap (λ (s : Pushdown _ _ _). s.symbols) c.requires.system in
    let summed = c.in_ok-summed.ensures ∙ ap₂ pattern_of symbols c.summed_text.ensures in
    let is = c.in_ok-answer.ensures p by workers from to below (summed_side by d q ∙ sym summed) saturated in
    let over_kind = subst (λ o. IsAnswer o p by workers from to a) (sym g.met.S.DocumentWeights.computes) is in
    let semiring = c.semiring.ensures.value ∙ ap (λ (s : Pushdown _ _ _). s.semiring) value in
    let told = lines_told kind c.args.options p d.items c.args.number from to a c.answer_lines.result c.semiring.result.now over_kind semiring c.answer_lines.ensures in
    subst (λ s. IfOk c.answer_lines.result (IsQueryText kind c.args.options s d.items c.args.number from to)) c.requires.system told
