-- The lines of queries that are answered before their turn.
use Rattle.std.specs.Prelude.{◌≡◌, ℕ, ◌+◌, List, Option, Some, slice_get}
use Rattle.document_forms.specs.Documents.{Document}
use Rattle.document_forms.specs.declared.document.QueryLine.{QueryLine}
use Rattle.document_forms.specs.declared.pattern.PatternText.{PatternText}
use Rattle.document_systems.specs.Kinds.{Kind}
use Rattle.witness_graph.specs.declared.node.Side.{Side}
use Rattle.witness_graph.specs.declared.node.Side.TheVariants.{Pre, Post}
use Rattle.report_text.specs.declared.options.Options.{Options}
use Rattle.wpds_app.specs.Reports.{TellsQuery}

-- the pattern of a query that a saturation starts from, and the one that is summed over
abbrev pub opened_text : Side → QueryLine → PatternText
opened_text Pre q = q.to
opened_text Post q = q.from

abbrev pub summed_text : Side → QueryLine → PatternText
summed_text Pre q = q.from
summed_text Post q = q.to

module _ {S W Map : Type 0} (kind : Kind S W Map) (options : Options) (semiring : S) (d : Document) where
  -- the lines tell the query at this place; queries are numbered from 1
  abbrev pub TellsAt : ℕ → List ℕ → Type 0
  TellsAt k lines =
      (q : QueryLine) → slice_get d.queries k ≡ Some q
      → TellsQuery kind options semiring d (k + 1) q lines

  -- what is kept at a place tells the query there
  abbrev pub AreKept : List (Option (List ℕ)) → Type 0
  AreKept kept = (k : ℕ) (lines : List ℕ) → slice_get kept k ≡ Some (Some lines) → TellsAt k lines
