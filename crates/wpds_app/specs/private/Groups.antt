-- Queries that begin at one pattern and are answered together.
use Rattle.std.specs.Prelude.{◌≡◌, ℕ, ◌≤◌, All, Some, length, slice_get}
use Rattle.wpds_base.specs.Limits.{most_queries}
use Rattle.config_patterns.specs.Membership.{PatternValue}
use Rattle.pattern_openings.specs.PatternOpenings.{IsOver}
use Rattle.document_forms.specs.Documents.{Document}
use Rattle.document_forms.specs.declared.document.QueryLine.{QueryLine}
use Rattle.document_systems.specs.Systems.{side_of}
use Rattle.pushdown_rules.specs.Pushdown.{Pushdown}
use Rattle.query_answers.specs.Values.{ValuesOf}
use Rattle.report_text.specs.declared.options.Options.{Options}
use Rattle.wpds_app.specs.declared.together.Group.{Group}

-- what values are asked of: a system, as the options say
abbrev pub values_over : {S W Map : Type 0} → Pushdown S W Map → Options → ValuesOf S W Map
values_over p options = record { system = p; side = options.by; workers = options.workers }

-- The queries at two places begin at the same pattern, and the second ends at this one.
pub record EndsAt (d : Document) (first place : ℕ) (end : PatternValue) : Type 0 where
  pub begins : QueryLine
  pub at_first : slice_get d.queries first ≡ Some begins
  pub query : QueryLine
  pub at_place : slice_get d.queries place ≡ Some query
  pub alike : query.from ≡ begins.from
  pub ends : end ≡ side_of d query.to

-- The query at a place is the first of a group: each begins where it does, and ends at the pattern that is kept with it.
pub record IsGroup (d : Document) (first : ℕ) (g : Group) : Type 0 where
  pub count : length g.places.items ≡ length g.ends.items
  pub few : length g.ends.items ≤ most_queries
  pub begins : slice_get g.places.items 0 ≡ Some first
  pub over : All (IsOver (length d.controls) (length d.symbols)) g.ends.items
  pub each : (j place : ℕ) (end : PatternValue) → slice_get g.places.items j ≡ Some place → slice_get g.ends.items j ≡ Some end
      → EndsAt d first place end
