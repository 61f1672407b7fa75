use Rattle.std.proofs.Common.{length}
use Rattle.document_systems.specs.CopyWeights.{copy_kind}
use Rattle.document_systems.specs.FactWeights.{genkill_kind}
use Rattle.document_systems.specs.Weights.{reach_kind, cost_kind}
use Rattle.document_systems.proofs.CallerLemmas.{all_taken, relations_taken}
use Rattle.report_laws.proofs.ReportingLemmas.{AgreeOver, agree_by}
use Rattle.report_laws.proofs.WeightsLemmas.{over_each}
use Rattle.report_laws.proofs.documents.brief_reports_agree.Goals as goal

pub returns : goal.returns
returns c = λ d one other report text is brief brief' reported told.
    agree_by d one other report text d.weights (length d.items)
    (over_each (AgreeOver d one other report text) d.weights (length d.items)
    (c.brief_reports_over_agree.ensures (record {}) d one other report text tt is (all_taken reach_kind (record {}) (λ t. tt) (λ m. tt) d) brief brief')
    (λ cap named. c.brief_reports_over_agree-2.ensures cap d one other report text named is (all_taken cost_kind cap (λ t. tt) (λ m. tt) d) brief brief')
    (record {
      one = c.brief_reports_over_agree-3.ensures (record {}) d one other report text tt is (all_taken (genkill_kind 1) (record {}) (λ t. tt) (λ m. tt) d) brief brief';
      two = c.brief_reports_over_agree-4.ensures (record {}) d one other report text tt is (all_taken (genkill_kind 2) (record {}) (λ t. tt) (λ m. tt) d) brief brief';
      four = c.brief_reports_over_agree-5.ensures (record {}) d one other report text tt is (all_taken (genkill_kind 4) (record {}) (λ t. tt) (λ m. tt) d) brief brief';
      eight = c.brief_reports_over_agree-6.ensures (record {}) d one other report text tt is (all_taken (genkill_kind 8) (record {}) (λ t. tt) (λ m. tt) d) brief brief';
      sixteen = c.brief_reports_over_agree-7.ensures (record {}) d one other report text tt is (all_taken (genkill_kind 16) (record {}) (λ t. tt) (λ m. tt) d) brief brief';
    })
    (λ variables. c.brief_reports_over_agree-8.ensures variables d one other report text tt is (all_taken copy_kind variables (λ t. tt) (λ m. tt) d) brief brief')
    (λ relations. c.brief_reports_over_agree-9.ensures (length d.items) d one other report text tt is (relations_taken d is relations) brief brief')
    is.weights) reported told
