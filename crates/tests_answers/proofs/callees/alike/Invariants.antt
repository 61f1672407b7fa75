use Rattle.std.specs.Prelude.{All}
use Rattle.pattern_openings.specs.PatternOpenings.{IsOver}
use Rattle.tests_answers.proofs.callees.alike.Given as goal

abbrev pub invariant-loop-made : goal.invariant-loop-made
invariant-loop-made l = All (IsOver l.system.controls l.system.symbols) l.patterns.items
