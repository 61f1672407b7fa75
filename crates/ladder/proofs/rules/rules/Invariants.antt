use Rattle.std.proofs.Common.{◌≡◌, ◌-◌, ◌++◌}
use Rattle.ladder.specs.Ladders.{rules_from}
use Rattle.ladder.proofs.rules.rules.Given as goal

abbrev pub invariant-loop-rung : goal.invariant-loop-rung
invariant-loop-rung l = l.rules.items ++ rules_from l.rung (l.rungs - l.rung) ≡ rules_from 0 l.rungs
