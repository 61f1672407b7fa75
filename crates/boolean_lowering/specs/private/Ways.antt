-- The ways of a line, as the code has them.
use Rattle.std.specs.Prelude.{ℕ, true, List, []}
use Rattle.truth_tables.specs.Formulas.{Formula, Constant, Opposite}
use Rattle.boolean_programs.specs.declared.point.Point.{Point}
use Rattle.boolean_machine.specs.Machine.{Action, Jumps, Sets, Calls, Returns}
use Rattle.boolean_lowering.specs.declared.ways.Condition.{Condition}
use Rattle.boolean_lowering.specs.declared.ways.Condition.TheVariants.{Always, Holds, Fails}
use Rattle.boolean_lowering.specs.declared.ways.Way.{Way}

-- the condition as a formula
abbrev pub condition_of : Condition → Formula ℕ
condition_of Always = Constant true
condition_of (Holds e) = e.now
condition_of (Fails e) = Opposite e.now

abbrev pub way_of : Way → Formula ℕ × Point
way_of w = (condition_of w.condition, w.to)

-- the ways of an action that only jumps
abbrev pub ways_of : Action → List (Formula ℕ × Point)
ways_of (Jumps ways) = ways
ways_of (Sets targets values) = []
ways_of (Calls targets callee arguments) = []
ways_of (Returns values) = []
