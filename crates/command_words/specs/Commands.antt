-- What the words of the command line ask for.
use Rattle.std.specs.Prelude.{ℕ, ◌<◌, ◌≤◌, Bool, true, false, ◌||◌, List, [], ◌∷◌, Option, Some, None, option_map, option_and_then, is_some, codes, bytes_eq, decimal, if◌then◌else◌}
use Rattle.std.specs.List.{find, range_with_len}
use Rattle.std.specs.Option.{option_map_or}
use Rattle.clap.specs.Words.{Rule, Row, App, Text, new_rule, new_app, with_rule, first_of, matches_of, fault_of, Kinds}
use Rattle.clap.specs.Simple.{on_top}
use Rattle.clap.specs.declared.builder.action.ArgAction.TheVariants.{SetTrue}
use Rattle.clap.specs.declared.error.kind.ErrorKind.{ErrorKind}
use Rattle.clap.specs.declared.error.kind.ErrorKind.TheVariants.{DisplayHelp, DisplayVersion}
use Rattle.wpds_base.specs.Limits.{most_rungs, most_seats}
use Rattle.witness_graph.specs.declared.node.Side.{Side}
use Rattle.witness_graph.specs.declared.node.Side.TheVariants.{Pre, Post}
use Rattle.command_words.specs.declared.options.Request.{Request}
use Rattle.command_words.specs.declared.options.Request.TheVariants.{Help, Version, Check, Generate}

-- ---- the command, as `clap` reads it

-- a task and perhaps a size, which stand in this order
abbrev pub task : Rule
task = record (new_rule (codes "task")) { required = true }

abbrev pub size : Rule
size = new_rule (codes "size")

-- an option with a value, and what it is where it is not given
abbrev pub option : Text → Text → Rule
option name default = record (new_rule name) { long = Some name; defaults = default ∷ [] }

abbrev pub workers : Rule
workers = option (codes "workers") (codes "1")

abbrev pub by : Rule
by = option (codes "by") (codes "pre")

-- an option without a value
abbrev pub flag : Text → Rule
flag name = record (new_rule name) { long = Some name; action = Some SetTrue }

abbrev pub brief : Rule
brief = flag (codes "brief")

abbrev pub traces : Rule
traces = flag (codes "traces")

-- The words begin behind the program's name. It has a version.
abbrev pub bare : App
bare = on_top (λ s. record s { no_binary_name = true; has_version = true }) (new_app (codes "wpds"))

abbrev pub command : App
command =
    with_rule (with_rule (with_rule (with_rule (with_rule (with_rule bare task) size) workers) by) brief) traces

-- ---- what the values say

-- the number from 1 to the most that these digits write, without a sign or a zero in front
unfoldable pub number_up_to : ℕ → Text → Option ℕ
number_up_to most text = find (λ n. bytes_eq text (decimal n)) (range_with_len 1 most)

abbrev pub side_named : Text → Option Side
side_named text =
    if bytes_eq text (codes "pre") then Some Pre
    else (if bytes_eq text (codes "post") then Some Post else None)

module _ (rows : List Row) where
  abbrev pub worker_count : Option ℕ
  worker_count = option_and_then (number_up_to most_seats) (first_of (codes "workers") rows)

  abbrev pub direction : Option Side
  direction = option_and_then side_named (first_of (codes "by") rows)

  -- a flag that is given has the value `true`, and else `false`
  abbrev pub is_set : Text → Bool
  is_set name = option_map_or (bytes_eq (codes "true")) (first_of name rows) false

  abbrev pub is_brief : Bool
  is_brief = is_set (codes "brief")

  abbrev pub has_traces : Bool
  has_traces = is_set (codes "traces")

  -- of `check`, which takes no size
  abbrev pub checking : Option Request
  checking =
      if is_some (first_of (codes "size") rows) then None
      else option_and_then (λ side. option_map (λ n. Check (record { brief = is_brief; traces = has_traces; by = side; workers = n })) worker_count) direction

  -- of `gen`, which needs one, and has neither a listing to leave out nor runs to write
  abbrev pub generating : Option Request
  generating =
      if is_brief || has_traces then None
      else option_and_then (λ rungs. option_and_then (λ side. option_map (λ n. Generate (record { rungs = rungs; by = side; workers = n })) worker_count) direction)
      (option_and_then (number_up_to most_rungs) (first_of (codes "size") rows))

  abbrev pub tasked : Text → Option Request
  tasked name =
      if bytes_eq name (codes "check") then checking
      else (if bytes_eq name (codes "gen") then generating else None)

  abbrev pub asked : Option Request
  asked = option_and_then tasked (first_of (codes "task") rows)

-- what is asked for where `clap` gives no matches: help and the version, or nothing that the program does
abbrev pub asked_instead : ErrorKind → Option Request
asked_instead DisplayHelp = Some Help
asked_instead DisplayVersion = Some Version
asked_instead _ = None

abbrev pub asked_by : Kinds → List Row → Option Request
asked_by [] rows = asked rows
asked_by (k ∷ ks) rows = asked_instead k

-- what the words behind the program's name ask for, if they are a command
abbrev pub request_of : List Text → Option Request
request_of words = asked_by (fault_of command words) (matches_of command words)

-- the counts that a request names are within their limits
abbrev pub IsWithin : Request → Type 0
IsWithin Help = Unit {0}
IsWithin Version = Unit {0}
IsWithin (Check o) = (0 < o.workers) × (o.workers ≤ most_seats)
IsWithin (Generate g) =
    ((0 < g.rungs) × (g.rungs ≤ most_rungs)) × ((0 < g.workers) × (g.workers ≤ most_seats))
