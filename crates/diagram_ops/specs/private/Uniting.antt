-- What the walk through two operands of one table keeps.
use Rattle.std.specs.Prelude.{◌≡◌, ℕ, ◌⊎◌, true, false, List}
use Rattle.diagram_store.specs.declared.branch.Branch.{Branch}
use Rattle.diagram_ops.specs.declared.kept_results.Operation.{Operation}
use Rattle.diagram_ops.specs.declared.kept_results.Operation.TheVariants.{Union, Intersection, Composition}
use Rattle.diagram_ops.specs.declared.uniting.Junction.{Junction}
use Rattle.diagram_ops.specs.declared.uniting.Junction.TheVariants as junctions
use Rattle.diagram_ops.specs.declared.uniting.Ways.{Ways}
use Rattle.diagram_ops.specs.private.Applying.{variable, lower, cofactor}

-- the table of three places that is the disjunction or the conjunction of the first two
abbrev pub table_of : Junction → ℕ
table_of junctions.Or = 252
table_of junctions.And = 192

-- the constant that is the result wherever it is an operand
abbrev pub absorbing_of : Junction → ℕ
absorbing_of junctions.Or = 1
absorbing_of junctions.And = 0

-- what the results are kept as
abbrev pub operation_of : Junction → Operation
operation_of junctions.Or = Union
operation_of junctions.And = Intersection

-- the same two, in some order
abbrev pub AreThese : ℕ → ℕ → ℕ → ℕ → Type 0
AreThese x y a b = ((a ≡ x) × (b ≡ y)) ⊎ ((a ≡ y) × (b ≡ x))
