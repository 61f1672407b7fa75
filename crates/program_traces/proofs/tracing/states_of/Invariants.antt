use Rattle.std.proofs.Common.{◌≡◌, List, [], ◌++◌, map, drop, reverse}
use Rattle.pushdown_rules.specs.RunValue.{Frame}
use Rattle.relation_weights.specs.declared.rel_map.RelMap.{RelMap}
use Rattle.setting_runs.specs.Relations.{Setting}
use Rattle.boolean_meaning.specs.HeldStates.{held}
use Rattle.program_traces.specs.Traces.{entry_of}
use Rattle.program_traces.specs.private.Readers.{program_in}
use Rattle.program_traces.specs.private.Ways.{states_on, IsOnWay}
use Rattle.program_traces.proofs.tracing.states_of.Given as goal

abbrev pub invariant-loop-k : goal.invariant-loop-k
invariant-loop-k l =
    (calls : List (Frame Setting RelMap)) × IsOnWay l.system (drop l.k-index l.run) l.here calls (reverse l.saved.items) l.settings
    × (l.states.items ++ map held (states_on (program_in l.reader) l.system (drop l.k-index l.run) l.here calls l.settings) ≡ map held (states_on (program_in l.reader) l.system l.run (entry_of (program_in l.reader)) [] l.initial.settings))
