-- The report on a document.
use Rattle.std.specs.Prelude.{◌≡◌, ℕ, Bool, List, length, Option}
use Rattle.semiring_laws.specs.declared.reach.NoMap.{NoMap}
use Rattle.semiring_laws.specs.declared.reach.Reach.{Reach as ReachValue}
use Rattle.genkill_weights.specs.declared.genkill.GenKill.{GenKill as GenKillValue}
use Rattle.genkill_weights.specs.declared.weight.GenKillW.{GenKillW}
use Rattle.genkill_weights.specs.declared.weight.MaskMap.{MaskMap}
use Rattle.genkill_weights.specs.Widths.{width_for}
use Rattle.copy_weights.specs.declared.form.CopyW.{CopyW}
use Rattle.copy_weights.specs.declared.form.CopyMap.{CopyMap}
use Rattle.relation_laws.specs.Building.{Parts}
use Rattle.relation_weights.specs.declared.rel_map.RelMap.{RelMap}
use Rattle.pushdown_rules.specs.Pushdown.{Pushdown}
use Rattle.config_patterns.specs.Membership.{PatternValue}
use Rattle.document_forms.specs.Documents.{Document}
use Rattle.document_forms.specs.declared.document.QueryLine.{QueryLine}
use Rattle.document_forms.specs.declared.weight.WeightsLine.{WeightsLine}
use Rattle.document_forms.specs.declared.weight.WeightsLine.TheVariants.{Reach, Cost, GenKill, Copy, Relation}
use Rattle.document_systems.specs.Kinds.{Kind}
use Rattle.document_systems.specs.CopyWeights.{copy_kind}
use Rattle.document_systems.specs.FactWeights.{genkill_kind}
use Rattle.document_systems.specs.RelationWeights.{relation_kind}
use Rattle.document_systems.specs.Weights.{reach_kind, cost_kind}
use Rattle.document_systems.specs.Systems.{system_of, side_of}
use Rattle.report_text.specs.declared.options.Options.{Options}
use Rattle.report_text.specs.Reports.{ByQuery, query_text}
use Rattle.path_sum.specs.declared.answer.Answer.{Answer}
use Rattle.query_answers.specs.Answering.{IsAnswer}

module _ {S W Map : Type 0} (kind : Kind S W Map) (options : Options) where
  -- The text tells an answer to the query with a number, for runs of a system from a pattern to a pattern.
  pub record IsQueryText (p : Pushdown S W Map) (items : List (List ℕ)) (i : ℕ) (from to : PatternValue) (text : List ℕ) : Type 0 where
    pub answer : Answer S W Map
    pub is_answer : IsAnswer kind.operations p options.by options.workers from to answer
    pub told : text ≡ query_text i options (kind.written p.semiring items answer.value) answer.listing

  -- the text tells an answer to a query of the document with a number, over its system
  abbrev pub TellsQuery : S → Document → ℕ → QueryLine → List ℕ → Type 0
  TellsQuery semiring d i q text =
      IsQueryText (system_of kind semiring d) d.items i (side_of d q.from) (side_of d q.to) text

  -- the report tells an answer to each query of the document
  abbrev pub IsReported : S → Document → List ℕ → Type 0
  IsReported semiring d report = ByQuery (TellsQuery semiring d) 1 d.queries report

-- This holds of the semiring that these weights name over so many facts or variables.
abbrev pub BySemiring : ((S W Map : Type 0) → Kind S W Map → S → Type 0) → WeightsLine → ℕ → Type 0
BySemiring holds Reach items = holds ReachValue Bool NoMap reach_kind (record {})
BySemiring holds (Cost most) items = holds ℕ (Option ℕ) NoMap cost_kind most
BySemiring holds GenKill facts =
    let n = width_for facts in holds (GenKillValue n) (GenKillW n) (MaskMap n) (genkill_kind n) (record {})
BySemiring holds Copy variables = holds ℕ CopyW CopyMap copy_kind variables
BySemiring holds Relation variables = holds ℕ Parts RelMap relation_kind variables

-- and of the semiring that a document names
abbrev pub ByDocument : ((S W Map : Type 0) → Kind S W Map → S → Type 0) → Document → Type 0
ByDocument holds d = BySemiring holds d.weights (length d.items)

-- the report on a document, over the semiring that its weights name
abbrev pub IsReport : Options → Document → List ℕ → Type 0
IsReport options d report =
    ByDocument (λ S W Map kind semiring. IsReported kind options semiring d report) d
