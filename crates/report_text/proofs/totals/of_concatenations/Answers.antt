use Rattle.std.proofs.Common.{◌≡◌, sym, subst, rules}
use Rattle.std.specs.Prelude.{Option, Some, None}
use Rattle.witness_graph.specs.Runs.{concatenations}
use Rattle.report_text.specs.declared.totals.Totals.{Totals}
use Rattle.report_text.specs.private.Counting.{IsCounted}
use Rattle.report_text.proofs.TotalLemmas.{left_over, right_over, both_counted}
use Rattle.report_text.proofs.totals.of_concatenations.Goals as goal

pub returns-in_err-a : goal.returns-in_err-a
returns-in_err-a c = λ xs ys p q.
    let none : c.args.a ≡ None = search rules in
    let made : c.from_residual.result ≡ None = search rules in
    subst (λ (o : Option Totals). IsCounted o (concatenations xs ys)) (sym made) (left_over xs ys (subst (λ (o : Option Totals). IsCounted o xs) none p) q.some)

pub returns-in_err-b : goal.returns-in_err-b
returns-in_err-b c = λ xs ys p q.
    let none : c.args.b ≡ None = search rules in
    let made : c.from_residual-in_err-b.result ≡ None = search rules in
    subst (λ (o : Option Totals). IsCounted o (concatenations xs ys)) (sym made) (right_over xs ys p.some (subst (λ (o : Option Totals). IsCounted o ys) none q))

pub returns : goal.returns
returns c = λ xs ys p q.
    let a : c.args.a ≡ Some c.in_ok-a.field-0 = search rules in
    let b : c.args.b ≡ Some c.in_ok-b.field-0 = search rules in
    both_counted c.product.result c.in_ok-a.field-0 c.in_ok-b.field-0 xs ys c.product.ensures (subst (λ (o : Option Totals). IsCounted o xs) a p) (subst (λ (o : Option Totals). IsCounted o ys) b q)
