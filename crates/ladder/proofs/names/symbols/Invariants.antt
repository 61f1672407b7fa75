use Rattle.std.proofs.Common.{◌≡◌, ◌-◌, ◌++◌}
use Rattle.ladder.specs.Ladders.{symbols_from}
use Rattle.ladder.proofs.names.symbols.Given as goal

abbrev pub invariant-loop-rung : goal.invariant-loop-rung
invariant-loop-rung l = l.names.items ++ symbols_from l.rung (l.rungs - l.rung) ≡ symbols_from 0 l.rungs
