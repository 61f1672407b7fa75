-- Reports over one semiring, and over that of a document.
use Rattle.std.proofs.Common.{◌≡◌, ℕ, List}
use Rattle.std.specs.Prelude.{◌↔◌, codes}
use Rattle.document_forms.specs.Documents.{Document}
use Rattle.document_forms.specs.declared.document.QueryLine.{QueryLine}
use Rattle.document_forms.specs.declared.weight.WeightsLine.{WeightsLine}
use Rattle.document_forms.specs.declared.weight.WeightsLine.TheVariants.{Reach, Cost, GenKill, Copy, Relation}
use Rattle.document_systems.specs.Kinds.{Kind}
use Rattle.report_text.specs.Listings.{query_line}
use Rattle.report_text.specs.Reports.{ByQuery}
use Rattle.report_text.specs.declared.options.Options.{Options}
use Rattle.wpds_app.specs.Reports.{IsReported, BySemiring}
use Rattle.report_laws.specs.Telling.{IsInfeasible, TellsFeasibilityOver}
use Rattle.report_laws.specs.Agreement.{ByBoth, TellOneValueOver}

module _ (d : Document) (options : Options) (report : List ℕ) where
  abbrev Reported : WeightsLine → ℕ → Type 0
  Reported weights items = BySemiring (λ S W Map kind semiring. IsReported kind options semiring d report) weights items

  -- a report over this semiring says of each query whether a feasible run leads there
  abbrev pub TellsOver : (S W Map : Type 0) → Kind S W Map → S → Type 0
  TellsOver S W Map kind semiring = IsReported kind options semiring d report → ByQuery (TellsFeasibilityOver kind semiring d) 1 d.queries report

  -- if the weights are these over so many facts or variables
  abbrev TellsFeasibilityBy : WeightsLine → ℕ → ℕ → QueryLine → List ℕ → Type 0
  TellsFeasibilityBy weights items i q text =
      (text ≡ query_line i (codes "unreachable")) ↔ BySemiring (λ S W Map kind semiring. IsInfeasible kind semiring d q) weights items

  pub tells_by : (weights : WeightsLine) (items : ℕ) → BySemiring TellsOver weights items → Reported weights items
      → ByQuery (TellsFeasibilityBy weights items) 1 d.queries report
  tells_by Reach items tells reported = tells reported
  tells_by (Cost cap) items tells reported = tells reported
  tells_by GenKill items tells reported = tells reported
  tells_by Copy items tells reported = tells reported
  tells_by Relation items tells reported = tells reported

module _ (d : Document) (one other : Options) (report text : List ℕ) where
  -- two reports over this semiring are equal
  abbrev pub AgreeOver : (S W Map : Type 0) → Kind S W Map → S → Type 0
  AgreeOver S W Map kind semiring = IsReported kind one semiring d report → IsReported kind other semiring d text → report ≡ text

  pub agree_by : (weights : WeightsLine) (items : ℕ) → BySemiring AgreeOver weights items
      → Reported d one report weights items → Reported d other text weights items → report ≡ text
  agree_by Reach items agree r t = agree r t
  agree_by (Cost cap) items agree r t = agree r t
  agree_by GenKill items agree r t = agree r t
  agree_by Copy items agree r t = agree r t
  agree_by Relation items agree r t = agree r t

  -- of each query two reports over this semiring tell one value
  abbrev pub OneValueOver : (S W Map : Type 0) → Kind S W Map → S → Type 0
  OneValueOver S W Map kind semiring =
      IsReported kind one semiring d report → IsReported kind other semiring d text → ByBoth (λ i q. TellOneValueOver kind semiring d i) 1 d.queries report text

  -- if the weights are these over so many facts or variables
  abbrev OneValueBy : WeightsLine → ℕ → ℕ → QueryLine → List ℕ → List ℕ → Type 0
  OneValueBy weights items i q t u = BySemiring (λ S W Map kind semiring. TellOneValueOver kind semiring d i t u) weights items

  pub one_value_by : (weights : WeightsLine) (items : ℕ) → BySemiring OneValueOver weights items
      → Reported d one report weights items → Reported d other text weights items → ByBoth (OneValueBy weights items) 1 d.queries report text
  one_value_by Reach items tell r t = tell r t
  one_value_by (Cost cap) items tell r t = tell r t
  one_value_by GenKill items tell r t = tell r t
  one_value_by Copy items tell r t = tell r t
  one_value_by Relation items tell r t = tell r t
