use Rattle.std.proofs.Common.{◌≡◌, map, take}
use Rattle.pattern_openings.specs.PatternOpenings.{state_of}
use Rattle.pattern_openings.proofs.opening.states_of.Given as goal

abbrev pub invariant-loop-state : goal.invariant-loop-state
invariant-loop-state l = l.numbers.items ≡ map (state_of l.controls l.control) (take l.state-index l.states)
