use Rattle.std.proofs.Common.{◌≡◌, ◌∙◌, length, ap, sym, subst, arith}
use Rattle.std.specs.Prelude.{IfOk}
use Rattle.document_systems.specs.RelationWeights.{relation_kind}
use Rattle.document_systems.specs.Systems.{AreTaken}
use Rattle.document_systems.proofs.CallerLemmas.{relations_taken}
use Rattle.pushdown_rules.specs.Pushdown.{Pushdown}
use Rattle.wpds_app.specs.Reports.{IsReported}
use Rattle.wpds_app.proofs.report.relations_report.Goals as goal

pub system_from-requires-clause-taken : goal.system_from-requires-clause-taken
system_from-requires-clause-taken g c =
    let d = c.args.document.now in
    let count : c.keeping_results-relations.result ≡ length d.items = omega (arith, c.keeping_results-relations.ensures, c.len-variables.ensures) in
    subst (λ n. AreTaken relation_kind n d) (sym count) (relations_taken d c.requires.document c.requires.weights)

pub returns : goal.returns
returns g c =
    let d = c.args.document.now in
    let count : c.keeping_results-relations.result ≡ length d.items = omega (arith, c.keeping_results-relations.ensures, c.len-variables.ensures) in
    let semiring = ap (λ (p : Pushdown _ _ _). p.semiring) c.in_ok-system.ensures in
    subst (λ z. IfOk c.lines_over.result (IsReported relation_kind c.args.options z d)) (semiring ∙ count) c.lines_over.ensures
