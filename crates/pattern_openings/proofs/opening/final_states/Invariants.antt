use Rattle.std.proofs.Common.{◌≡◌, ◌++◌, ◌-◌, suc, length}
use Rattle.std.specs.Prelude.{filter}
use Rattle.std.specs.List.{range_with_len}
use Rattle.config_patterns.specs.Edges.{is_final_of}
use Rattle.pattern_openings.specs.PatternOpenings.{finals_of_items}
use Rattle.pattern_openings.proofs.opening.final_states.Given as goal

abbrev pub invariant-loop-state : goal.invariant-loop-state
invariant-loop-state l =
    let items = l.pattern.items in
    l.finals.items ++ filter (is_final_of items) (range_with_len l.state (suc (length items) - l.state)) ≡ finals_of_items items
