use Rattle.std.proofs.Common.{sym, ap, subst, ◌∙◌}
use Rattle.std.specs.Prelude.{Option}
use Rattle.std.proofs.lemmas.Bool.{eqb-true, eq-eqb}
use Rattle.report_text.specs.declared.totals.Totals.{Totals}
use Rattle.report_text.specs.private.Counting.{rules_in, IsCounted}
use Rattle.report_text.proofs.TotalLemmas.{empty_alone}
use Rattle.report_text.proofs.totals.is_empty_run.Goals as goal

pub returns-then-runs-eq1 : goal.returns-then-runs-eq1
returns-then-runs-eq1 c = λ runs h.
    let t = c.in-Some.field-0 in
    let known = subst (λ (o : Option Totals). IsCounted o runs) c.in-Some.is h in (
      λ none. empty_alone runs (sym known.amounts.0 ∙ c.if-runs-eq1.true) (sym known.amounts.1 ∙ eqb-true t.rules 0 none),
      λ is. eq-eqb t.rules 0 (known.amounts.1 ∙ ap rules_in is),
    )
