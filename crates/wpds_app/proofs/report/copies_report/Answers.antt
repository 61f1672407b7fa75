use Rattle.document_systems.specs.CopyWeights.{copy_kind}
use Rattle.document_systems.proofs.CallerLemmas.{all_taken}
use Rattle.wpds_app.proofs.report.copies_report.Goals as goal

pub report_over-requires-clause-taken : goal.report_over-requires-clause-taken
report_over-requires-clause-taken g c κs within = all_taken copy_kind c.new.result (λ t. tt) (λ m. tt) c.args.document.now
