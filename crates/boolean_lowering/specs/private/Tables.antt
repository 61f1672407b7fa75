-- The points of lines, and of the failures of others.
use Rattle.std.specs.Prelude.{ℕ, List, ◌++◌, map}
use Rattle.boolean_programs.specs.declared.point.Point.{Point}
use Rattle.boolean_machine.specs.Machine.{at_line}
use Rattle.lowering_laws.specs.Lowering.{failure_at}

abbrev pub points_in : List ℕ → List ℕ → List Point
points_in lines asserts = map at_line lines ++ map failure_at asserts
