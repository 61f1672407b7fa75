-- The report on a Boolean program.
use Rattle.std.specs.Prelude.{◌≡◌, ◌≢◌, ◌⊎◌, ◌↔◌, ℕ, Bool, true, false, List, [], ◌++◌, Option, None, Some, map, codes}
use Rattle.wpds_base.specs.Limits.{most_traced}
use Rattle.pushdown_rules.specs.Pushdown.{Pushdown, IsSystem}
use Rattle.relation_laws.specs.Building.{Parts}
use Rattle.relation_weights.specs.declared.rel_map.RelMap.{RelMap}
use Rattle.relation_weights.specs.Relations.{relation_operations}
use Rattle.boolean_programs.specs.declared.point.Point.{Point}
use Rattle.boolean_programs.specs.declared.program.Program.{Program as ParsedProgram}
use Rattle.boolean_programs.specs.Programs.{program_of}
use Rattle.boolean_machine.specs.Machine.{IsReached}
use Rattle.lowering_laws.specs.Lowering.{variables}
use Rattle.lowering_laws.specs.Queries.{entry_pattern, point_pattern}
use Rattle.lowering_laws.specs.Weights.{IsDiagramLowering}
use Rattle.path_sum.specs.declared.answer.Answer.{Answer}
use Rattle.query_answers.specs.Answering.{IsAnswer}
use Rattle.witness_graph.specs.Runs.{listing_runs}
use Rattle.witness_graph.specs.declared.listing.Listing.{Listing}
use Rattle.boolean_meaning.specs.HeldStates.{state_of}
use Rattle.program_traces.specs.declared.first.FirstTrace.{FirstTrace}
use Rattle.program_traces.specs.declared.first.FirstTrace.TheVariants.{Trace, TooLong}
use Rattle.program_traces.specs.Firsts.{IsFirstTrace}
use Rattle.state_text.specs.States.{trace_text}
use Rattle.report_text.specs.declared.options.Options.{Options}
use Rattle.report_text.specs.Listings.{query_line}
use Rattle.report_text.specs.Reports.{ByQuery, listed}

-- how a trace is written, or that it is too long
abbrev pub shown_trace : ParsedProgram → FirstTrace → List ℕ
shown_trace p (Trace states) = trace_text p (map (state_of (program_of p)) states)
shown_trace p TooLong = codes "  traces: too long\n"

-- the lines of the states of the first listed run that is feasible, where they are asked for
abbrev pub IsTraced : Bool → ParsedProgram → Pushdown ℕ Parts RelMap → Option Listing → List ℕ → Type 0
IsTraced true p system (Some l) text =
    (t : FirstTrace) × IsFirstTrace (program_of p) system most_traced (listing_runs l) t × (text ≡ shown_trace p t)
IsTraced true p system None text = text ≡ []
IsTraced false p system listing text = text ≡ []

-- `reachable`, then the listing unless it is left out, then the states where they are asked for
pub record IsReachedText (options : Options) (p : ParsedProgram) (system : Pushdown ℕ Parts RelMap) (i : ℕ) (listing : Option Listing) (text : List ℕ) : Type 0 where
  pub trace : List ℕ
  pub traced : IsTraced options.traces p system listing trace
  pub lines : text ≡ query_line i (codes "reachable") ++ listed options listing ++ trace

-- The text of a query for a point, with its number: `reachable` and how, where some state of some run of the program's
-- machine has the point on top, and `unreachable` where none has.
pub record TellsPoint (options : Options) (p : ParsedProgram) (system : Pushdown ℕ Parts RelMap) (i : ℕ) (point : Point) (text : List ℕ) : Type 0 where
  -- the answer over the lowering, for runs from main's first line to the point
  pub answer : Answer ℕ Parts RelMap
  pub is_answer : IsAnswer relation_operations system options.by options.workers (entry_pattern (program_of p)) (point_pattern (program_of p) point) answer
  -- its value is not the empty relation exactly where the machine reaches the point
  pub decided : (answer.value ≢ (relation_operations (variables (program_of p))).zero) ↔ IsReached (program_of p) point
  pub told : (IsReached (program_of p) point × IsReachedText options p system i answer.listing text)
      ⊎ ((IsReached (program_of p) point → ⊥) × (text ≡ query_line i (codes "unreachable")))

-- The report tells of each query's point, in order, over one lowering of the program.
pub record IsProgramReport (options : Options) (p : ParsedProgram) (text : List ℕ) : Type 0 where
  pub system : Pushdown ℕ Parts RelMap
  pub is_system : IsSystem relation_operations system
  pub lowering : IsDiagramLowering (program_of p) system
  pub told : ByQuery (TellsPoint options p system) 1 p.queries text
