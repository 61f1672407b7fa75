use Rattle.std.proofs.Common.{sym, subst, ◌≡◌}
use Rattle.std.specs.Prelude.{◌↔◌, codes}
use Rattle.config_patterns.specs.Membership.{has_member}
use Rattle.pushdown_rules.specs.Answers.{HasNoFeasibleRun}
use Rattle.document_systems.specs.Systems.{system_of, side_of}
use Rattle.report_text.specs.Listings.{query_line}
use Rattle.report_text.proofs.CallerLemmas.{of_each}
use Rattle.report_laws.proofs.documents.reports_over_tell_feasibility.Goals as goal

pub returns : goal.returns
returns g c = λ s d options report named is taken reported.
    let kind = g.S.DocumentWeights.kind in
    let p = system_of kind s d in
    let system = c.documents_are_systems.ensures s d named is taken in
    of_each (λ i q text h.
    let from = side_of d q.from in
    let to = side_of d q.to in
    subst (λ operations. (text ≡ query_line i (codes "unreachable")) ↔ HasNoFeasibleRun (operations s) p (has_member from) (has_member to))
    (sym g.met.S.DocumentWeights.computes)
    (c.unreachable_where_infeasible.ensures p d.items i from to options text named system h))
    1 d.queries report reported
