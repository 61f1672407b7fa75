-- What the answers to a program's queries stand on.
use Rattle.std.specs.Prelude.{◌≡◌, ℕ, Option, IfSome, length}
use Rattle.pushdown_rules.specs.Pushdown.{Pushdown, IsSystem}
use Rattle.witness_graph.specs.Runs.{listing_runs}
use Rattle.witness_graph.specs.declared.listing.Listing.{Listing}
use Rattle.program_traces.specs.Firsts.{FireFromEntry, HasFeasible}
use Rattle.config_patterns.specs.Membership.{PatternValue}
use Rattle.relation_laws.specs.Building.{Parts}
use Rattle.relation_weights.specs.declared.rel_map.RelMap.{RelMap}
use Rattle.relation_weights.specs.Relations.{relation_operations}
use Rattle.boolean_programs.specs.declared.point.Point.{Point}
use Rattle.boolean_programs.specs.Programs.{Program, program_of}
use Rattle.program_laws.specs.ReadPrograms.{IsProgram}
use Rattle.lowering_laws.specs.Lowering.{symbol_points}
use Rattle.lowering_laws.specs.Queries.{entry_pattern, point_pattern}
use Rattle.lowering_laws.specs.Weights.{IsDiagramLowering}
use Rattle.path_sum.specs.Answers.{IsValueOf}
use Rattle.query_answers.specs.declared.saturation.Saturation.{Saturation}
use Rattle.query_answers.specs.Answering.{opened_of, summed_of, saturated_system, IsAnswer, IsFinished, IsSaturated}
use Rattle.query_answers.specs.Values.{ValuesOf}
use Rattle.program_reports.specs.declared.asked.Asked.{Asked}

abbrev pub program_in : Asked → Program
program_in a = program_of a.program.now

-- a program as it is read, with its lowering
pub record IsAsked (a : Asked) : Type 0 where
  pub program : IsProgram a.program.now
  pub valid : IsSystem relation_operations a.lowering.system
  pub lowering : IsDiagramLowering (program_in a) a.lowering.system
  pub points : a.lowering.points ≡ symbol_points (program_in a)
  pub count : length a.lowering.points ≡ a.lowering.system.symbols

-- the pattern from which a saturation for a point starts, and the one that is summed over
abbrev pub opened : Asked → Point → PatternValue
opened a point = opened_of a.options.by (entry_pattern (program_in a)) (point_pattern (program_in a) point)

abbrev pub summed : Asked → Point → PatternValue
summed a point = summed_of a.options.by (entry_pattern (program_in a)) (point_pattern (program_in a) point)

-- it is the value of an answer for a point
abbrev pub IsValueFor : Asked → Point → Parts → Type 0
IsValueFor a point value = IsValueOf (IsAnswer relation_operations a.lowering.system a.options.by a.options.workers (entry_pattern (program_in a)) (point_pattern (program_in a) point)) value

-- what values are asked of: the lowering, as the options say
abbrev pub values_in : Asked → ValuesOf ℕ Parts RelMap
values_in a = record { system = a.lowering.system; side = a.options.by; workers = a.options.workers }

-- a finished saturation over the lowering, for a point
pub record Serves (a : Asked) (point : Point) (s : Saturation ℕ Parts RelMap) : Type 0 where
  pub finished : IsFinished s
  pub system : saturated_system s ≡ a.lowering.system
  pub saturated : IsSaturated relation_operations a.lowering.system a.options.by a.options.workers (opened a point) s

-- each listed run fires from main's first line, and one of them is feasible
abbrev pub CanTrace : Program → Pushdown ℕ Parts RelMap → Option Listing → Type 0
CanTrace p system listing = IfSome listing (λ l. FireFromEntry p system (listing_runs l) × HasFeasible system (listing_runs l))
