use Rattle.std.specs.Prelude.{All}
use Rattle.pattern_openings.specs.PatternOpenings.{IsOver}
use Rattle.tests_answers.proofs.renewed.ends.Given as goal

abbrev pub invariant-loop-control : goal.invariant-loop-control
invariant-loop-control l = All (IsOver l.system.controls l.system.symbols) l.patterns.items
