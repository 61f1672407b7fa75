-- What the text of a query tells of runs, by what the text of its value tells.
use Rattle.std.proofs.Common.{◌≡◌, ℕ, Bool, List, ap, ◌∙◌, inl, inr}
use Rattle.std.specs.Prelude.{codes}
use Rattle.pushdown_rules.specs.Pushdown.{Pushdown}
use Rattle.pushdown_rules.specs.Answers.{Answers}
use Rattle.pushdown_rules.specs.Configuration.{Configuration}
use Rattle.config_patterns.specs.Membership.{has_member}
use Rattle.document_forms.specs.Documents.{Document}
use Rattle.document_forms.specs.declared.document.QueryLine.{QueryLine}
use Rattle.document_systems.specs.Kinds.{Kind}
use Rattle.document_systems.specs.Systems.{system_of, side_of}
use Rattle.value_texts.specs.Telling.{Tells}
use Rattle.path_sum.specs.Answers.{listed_runs}
use Rattle.report_text.specs.Listings.{query_line}
use Rattle.report_text.specs.declared.options.Options.{Options}
use Rattle.report_text.specs.Reports.{below, ByQuery}
use Rattle.report_text.proofs.CallerLemmas.{of_each}
use Rattle.wpds_app.specs.Reports.{IsQueryText, IsReported}
use Rattle.report_laws.specs.Telling.{TellsRuns}
use Rattle.report_laws.proofs.QueryLemmas.{unlisted_line}

module _ {S W Map : Type 0} (kind : Kind S W Map) (semiring : S) (d : Document) (holds : (from to : Configuration → Bool) → List (List ℕ) → List ℕ → Type 0) where
  abbrev p : Pushdown S W Map
  p = system_of kind semiring d

  -- v answers a query of the document
  abbrev AnswersQuery : QueryLine → W → List (List ℕ) → Type 0
  AnswersQuery q v runs = Answers (kind.operations semiring) p (has_member (side_of d q.from)) (has_member (side_of d q.to)) v runs

  -- the texts of the values of answers tell so of runs
  abbrev ValuesTell : Type 0
  ValuesTell = (q : QueryLine) (v : W) (runs : List (List ℕ)) → AnswersQuery q v runs
      → let from = has_member (side_of d q.from) in let to = has_member (side_of d q.to) in
      Tells (kind.operations semiring) p from to (holds from to d.items) (kind.written semiring d.items v)

  -- only the text of zero is `unreachable`
  abbrev ZeroIsWritten : Type 0
  ZeroIsWritten = (q : QueryLine) (v : W) (runs : List (List ℕ)) → AnswersQuery q v runs → kind.written semiring d.items v ≡ codes "unreachable" → v ≡ (kind.operations semiring).zero

  query_tells : ValuesTell → ZeroIsWritten → (options : Options) (i : ℕ) (q : QueryLine) (text : List ℕ) → IsQueryText kind options p d.items i (side_of d q.from) (side_of d q.to) text
      → TellsRuns (kind.operations semiring) p holds d i q text
  query_tells tell zero options i q text is =
      let a = is.answer in
      let shows = is.is_answer.shows in
      let written = kind.written semiring d.items a.value in
      elim (tell q a.value (listed_runs a.listing) shows.answers) [
        | inl (none, unreachable) ↦
            let nothing = zero q a.value (listed_runs a.listing) shows.answers unreachable in
            inl (none, is.told ∙ unlisted_line i options written a.listing (shows.unlisted.1 nothing) ∙ ap (query_line i) unreachable)
        | inr (some, told) ↦ inr (some, written, told, below options a.listing, is.told)
      ]

  -- and so does the report of each query
  pub reported_tells : ValuesTell → ZeroIsWritten → (options : Options) (report : List ℕ) → IsReported kind options semiring d report → ByQuery (TellsRuns (kind.operations semiring) p holds d) 1 d.queries report
  reported_tells tell zero options report = of_each (query_tells tell zero options) 1 d.queries report
