use Rattle.std.proofs.Common.{◌≡◌, ◌++◌, ◌∷◌, [], map, sym, ap, ◌∙◌, subst, append-nil}
use Rattle.document_forms.specs.Lines.{Line}
use Rattle.program_forms.specs.Declared.{whole}
use Rattle.program_forms.specs.Places.{said, judged_from, stated}
use Rattle.program_tables.specs.Tables.{AreTablesOf}
use Rattle.program_tables.specs.private.Walks.{AreJudgedAbove}
use Rattle.program_tables.proofs.WalkLemmas.{none_judged, all_judged}
use Rattle.program_tables.proofs.walk.read_tables.Goals as goal

pub loop-line-init : goal.loop-line-init
loop-line-init c = (
  (
    [],
    c.new-tables.ensures,
    ap (λ p. stated (judged_from p (map said c.args.lines.lines))) (sym c.at_top-place.ensures),
  ),
  let all = c.args.lines.lines in
      let p = c.at_top-place.result in
      subst (λ ts. AreJudgedAbove all p all ts c.new-kept.result.refused) (sym c.new-kept.ensures.lines)
      (subst (λ r. AreJudgedAbove all p all [] r) (sym c.new-kept.ensures.refused) (none_judged all p c.at_top-place.ensures)),
)

pub loop-line-preserved : goal.loop-line-preserved
loop-line-preserved c =
    let m = c.loop-line.invariant.0 in
    let l : Line = record { number = c.in-Some.line.number; bytes = c.in-Some.line.bytes.now } in
    let w = c.in_ok-walk_line.ensures.tables m.0 m.1 in
    let now : c.loop-line.lines.lines ≡ l ∷ c.next.new.self.lines = c.in-Some.ensures.lines in (
      (
        w.lines,
        w.tables,
        m.2 ∙ ap (λ k. m.0 ++ stated (judged_from c.loop-line.place (map said k))) now ∙ w.rest c.next.new.self.lines,
      ),
      c.in_ok-walk_line.ensures.kept c.args.lines.lines c.next.new.self.lines
          (subst (λ ls. AreJudgedAbove c.args.lines.lines c.loop-line.place ls c.loop-line.kept.lines.items c.loop-line.kept.refused) now c.loop-line.invariant.1),
    )

pub returns-clause-tables : goal.returns-clause-tables
returns-clause-tables c =
    let m = c.loop-line.invariant.0 in
    subst (λ k. AreTablesOf (whole k) c.loop-line.tables)
    (sym (m.2 ∙ ap (λ k. m.0 ++ stated (judged_from c.loop-line.place (map said k))) c.in_default.ensures.lines.0 ∙ append-nil m.0)) m.1

pub returns-clause-judged : goal.returns-clause-judged
returns-clause-judged c =
    all_judged c.args.lines.lines c.loop-line.lines.lines c.loop-line.place c.loop-line.kept.lines.items c.loop-line.kept.refused
    c.in_default.ensures.lines.0 c.loop-line.invariant.1
