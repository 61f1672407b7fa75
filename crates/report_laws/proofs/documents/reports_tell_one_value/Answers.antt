use Rattle.std.proofs.Common.{length}
use Rattle.document_systems.specs.CopyWeights.{copy_kind}
use Rattle.document_systems.specs.FactWeights.{genkill_kind}
use Rattle.document_systems.specs.Weights.{reach_kind, cost_kind}
use Rattle.document_systems.proofs.CallerLemmas.{all_taken, relations_taken}
use Rattle.report_laws.proofs.ReportingLemmas.{OneValueOver, one_value_by}
use Rattle.report_laws.proofs.WeightsLemmas.{over_each}
use Rattle.report_laws.proofs.documents.reports_tell_one_value.Goals as goal

pub returns : goal.returns
returns c = λ d one other report text is reported told.
    one_value_by d one other report text d.weights (length d.items)
    (over_each (OneValueOver d one other report text) d.weights (length d.items)
    (c.reports_over_tell_one_value.ensures (record {}) d one other report text tt is (all_taken reach_kind (record {}) (λ t. tt) (λ m. tt) d))
    (λ cap named. c.reports_over_tell_one_value-2.ensures cap d one other report text named is (all_taken cost_kind cap (λ t. tt) (λ m. tt) d))
    (record {
      one = c.reports_over_tell_one_value-3.ensures (record {}) d one other report text tt is (all_taken (genkill_kind 1) (record {}) (λ t. tt) (λ m. tt) d);
      two = c.reports_over_tell_one_value-4.ensures (record {}) d one other report text tt is (all_taken (genkill_kind 2) (record {}) (λ t. tt) (λ m. tt) d);
      four = c.reports_over_tell_one_value-5.ensures (record {}) d one other report text tt is (all_taken (genkill_kind 4) (record {}) (λ t. tt) (λ m. tt) d);
      eight = c.reports_over_tell_one_value-6.ensures (record {}) d one other report text tt is (all_taken (genkill_kind 8) (record {}) (λ t. tt) (λ m. tt) d);
      sixteen = c.reports_over_tell_one_value-7.ensures (record {}) d one other report text tt is (all_taken (genkill_kind 16) (record {}) (λ t. tt) (λ m. tt) d);
    })
    (λ variables. c.reports_over_tell_one_value-8.ensures variables d one other report text tt is (all_taken copy_kind variables (λ t. tt) (λ m. tt) d))
    (λ relations. c.reports_over_tell_one_value-9.ensures (length d.items) d one other report text tt is (relations_taken d is relations))
    is.weights) reported told
