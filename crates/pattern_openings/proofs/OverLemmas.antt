-- A pattern is over a system that has its control and its symbols.
use Rattle.std.proofs.Common.{ℕ, ◌<◌, ◌≤◌, arith}
use Rattle.config_patterns.specs.Membership.{PatternValue}
use Rattle.config_patterns.specs.Validity.{IsPattern}
use Rattle.pattern_openings.specs.PatternOpenings.{IsOver}

pub over : (p : PatternValue) (controls symbols : ℕ) → IsPattern p → p.control < controls → p.symbols ≤ symbols → IsOver controls symbols p
over p controls symbols is within few = record {
  control = within;
  sets = λ i x inside k g inside'. let below = (is.items i x inside).below k g inside' in omega (arith, below, few);
}
