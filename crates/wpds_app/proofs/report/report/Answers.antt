use Rattle.document_systems.specs.Weights.{reach_kind, cost_kind}
use Rattle.document_systems.proofs.CallerLemmas.{all_taken}
use Rattle.wpds_app.proofs.report.report.Goals as goal

pub report_over-requires-clause-taken : goal.report_over-requires-clause-taken
report_over-requires-clause-taken g c κs within = all_taken reach_kind (record {}) (λ t. tt) (λ m. tt) c.args.document.now

pub report_over-requires-in-Cost-clause-taken : goal.report_over-requires-in-Cost-clause-taken
report_over-requires-in-Cost-clause-taken g c κs within = all_taken cost_kind c.costs.result (λ t. tt) (λ m. tt) c.args.document.now
