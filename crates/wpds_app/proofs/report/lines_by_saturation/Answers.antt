use Rattle.std.proofs.Common.{◌≡◌, get_or, subst, sym}
use Rattle.document_forms.specs.Lawful.{IsQueryOf}
use Rattle.pushdown_rules.specs.Pushdown.{Pushdown}
use Rattle.query_answers.specs.Answering.{saturated_system}
use Rattle.wpds_app.specs.private.Kept.{TellsAt, AreKept}
use Rattle.wpds_app.proofs.KeptLemmas.{told_at}
use Rattle.wpds_app.proofs.report.lines_by_saturation.Goals as goal

pub keep_alike-requires-clause-kept : goal.keep_alike-requires-clause-kept
keep_alike-requires-clause-kept g c =
    subst (λ (p : Pushdown _ _ _). AreKept g.S.DocumentWeights.kind c.args.options p.semiring c.args.document.now c.args.kept.now) (sym c.in_ok-saturation.ensures.system) c.requires.kept

pub query_lines-requires-clause-query : goal.query_lines-requires-clause-query
query_lines-requires-clause-query g c =
    let d = c.args.document.now in
    let q = c.index-as_slice-place.result in
    let read = c.as_slice.ensures in
    let item = subst (λ xs. q ≡ get_or xs c.args.place q) read c.index-as_slice-place.is in
    subst (IsQueryOf d) (sym item) (c.requires.document.queries c.args.place q c.requires.place)

pub returns-clause-lines : goal.returns-clause-lines
returns-clause-lines g c =
    let d = c.args.document.now in
    let kind = g.S.DocumentWeights.kind in
    let q = c.index-as_slice-place.result in
    let lines = c.in_ok-lines.lines in
    let item = subst (λ xs. q ≡ get_or xs c.args.place q) c.as_slice.ensures c.index-as_slice-place.is in
    let told = c.in_ok-lines.ensures in
    let here = told_at kind c.args.options (saturated_system c.in_ok-saturation.saturation).semiring d c.args.place q lines item told in
    subst (λ (p : Pushdown _ _ _). TellsAt kind c.args.options p.semiring d c.args.place lines) c.in_ok-saturation.ensures.system here

pub returns-clause-kept : goal.returns-clause-kept
returns-clause-kept g c =
    subst (λ (p : Pushdown _ _ _). AreKept g.S.DocumentWeights.kind c.args.options p.semiring c.args.document.now c.keep_alike.new.kept)
    c.in_ok-saturation.ensures.system c.in_ok-keep_alike.ensures.kept
