use Rattle.std.proofs.Common.{length, subst}
use Rattle.document_forms.specs.Lawful.{IsWeightsLine}
use Rattle.document_systems.specs.Weights.{cost_kind}
use Rattle.document_systems.specs.Systems.{system_of, side_of}
use Rattle.document_systems.proofs.CallerLemmas.{all_taken}
use Rattle.wpds_app.specs.Reports.{BySemiring, IsReported}
use Rattle.report_text.proofs.CallerLemmas.{of_each}
use Rattle.report_laws.proofs.documents.reports_tell_costs.Goals as goal

pub returns : goal.returns
returns c = λ d cap options report costs is reported.
    let named = subst IsWeightsLine costs is.weights in
    let system = c.documents_are_systems.ensures cap d named is (all_taken cost_kind cap (λ t. tt) (λ m. tt) d) in
    of_each (λ i q text h. c.costs_are_the_cheapest.ensures (system_of cost_kind cap d) d.items i (side_of d q.from) (side_of d q.to) options text system h)
    1 d.queries report (subst (λ w. BySemiring (λ S W Map kind semiring. IsReported kind options semiring d report) w (length d.items)) costs reported)
