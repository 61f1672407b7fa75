use Rattle.std.proofs.Common.{ap, subst}
use Rattle.std.specs.Prelude.{IfOk}
use Rattle.pushdown_rules.specs.Pushdown.{Pushdown}
use Rattle.wpds_app.specs.Reports.{IsReported}
use Rattle.wpds_app.proofs.report.report_over.Goals as goal

pub returns : goal.returns
returns g c =
    subst (λ z. IfOk c.lines_over.result (IsReported g.S.DocumentWeights.kind c.args.options z c.args.document.now))
    (ap (λ (p : Pushdown _ _ _). p.semiring) c.in_ok-system.ensures) c.lines_over.ensures
