use Rattle.std.proofs.Common.{length}
use Rattle.document_systems.specs.CopyWeights.{copy_kind}
use Rattle.document_systems.specs.FactWeights.{genkill_kind}
use Rattle.document_systems.specs.Weights.{reach_kind, cost_kind}
use Rattle.document_systems.proofs.CallerLemmas.{all_taken, relations_taken}
use Rattle.report_laws.proofs.ReportingLemmas.{TellsOver, tells_by}
use Rattle.report_laws.proofs.WeightsLemmas.{over_each}
use Rattle.report_laws.proofs.documents.reports_tell_feasibility.Goals as goal

pub returns : goal.returns
returns c = λ d options report is reported.
    tells_by d options report d.weights (length d.items)
    (over_each (TellsOver d options report) d.weights (length d.items)
    (c.reports_over_tell_feasibility.ensures (record {}) d options report tt is (all_taken reach_kind (record {}) (λ t. tt) (λ m. tt) d))
    (λ cap named. c.reports_over_tell_feasibility-2.ensures cap d options report named is (all_taken cost_kind cap (λ t. tt) (λ m. tt) d))
    (record {
      one = c.reports_over_tell_feasibility-3.ensures (record {}) d options report tt is (all_taken (genkill_kind 1) (record {}) (λ t. tt) (λ m. tt) d);
      two = c.reports_over_tell_feasibility-4.ensures (record {}) d options report tt is (all_taken (genkill_kind 2) (record {}) (λ t. tt) (λ m. tt) d);
      four = c.reports_over_tell_feasibility-5.ensures (record {}) d options report tt is (all_taken (genkill_kind 4) (record {}) (λ t. tt) (λ m. tt) d);
      eight = c.reports_over_tell_feasibility-6.ensures (record {}) d options report tt is (all_taken (genkill_kind 8) (record {}) (λ t. tt) (λ m. tt) d);
      sixteen = c.reports_over_tell_feasibility-7.ensures (record {}) d options report tt is (all_taken (genkill_kind 16) (record {}) (λ t. tt) (λ m. tt) d);
    })
    (λ variables. c.reports_over_tell_feasibility-8.ensures variables d options report tt is (all_taken copy_kind variables (λ t. tt) (λ m. tt) d))
    (λ relations. c.reports_over_tell_feasibility-9.ensures (length d.items) d options report tt is (relations_taken d is relations))
    is.weights) reported
