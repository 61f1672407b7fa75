-- Trees that stand on a stack.
use Rattle.std.specs.Prelude.{ℕ, List, map, reverse}
use Rattle.truth_tables.specs.Formulas.{Formula, formula}
use Rattle.truth_tables.specs.declared.expr.Expr.{Expr}

-- their formulas, the newest first
abbrev pub formulas_of : List Expr → List (Formula ℕ)
formulas_of es = map formula (reverse es)
