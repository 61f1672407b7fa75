use Rattle.std.specs.Prelude.{◌≡◌}
use Rattle.tests_answers.proofs.renewed.some_system.Given as goal

abbrev pub invariant-loop-rule : goal.invariant-loop-rule
invariant-loop-rule l = l.system.semiring ≡ 5
