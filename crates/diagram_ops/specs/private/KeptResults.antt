-- Results of operations on references of one table.
use Rattle.std.specs.Prelude.{◌≡◌, ℕ, ◌+◌, ◌<◌, List, length, Some, slice_get}
use Rattle.diagram_store.specs.declared.branch.Branch.{Branch}
use Rattle.diagram_ops.specs.declared.kept_results.Operation.{Operation}
use Rattle.diagram_ops.specs.declared.kept_results.Operation.TheVariants.{Union, Intersection, Composition}
use Rattle.diagram_ops.specs.declared.kept_results.Slot.{Slot}
use Rattle.diagram_ops.specs.private.Applying.{IsApplied}
use Rattle.diagram_ops.specs.private.Composing.{IsComposition}

-- the composition of two references among the nodes of both
pub record IsOwnComposition (nodes : List Branch) (x y r : ℕ) : Type 0 where
  pub first : x < length nodes + 2
  pub second : y < length nodes + 2
  pub composed : IsComposition nodes nodes nodes x y r

-- what an operation gives at two references
abbrev pub IsResult : Operation → List Branch → ℕ → ℕ → ℕ → Type 0
IsResult Union nodes x y r = IsApplied 252 nodes x y 0 r
IsResult Intersection nodes x y r = IsApplied 192 nodes x y 0 r
IsResult Composition nodes x y r = IsOwnComposition nodes x y r

-- each slot has a result of its operation
abbrev pub AreRight : List Branch → List Slot → Type 0
AreRight nodes slots = (k : ℕ) (s : Slot) → slice_get slots k ≡ Some s → IsResult s.operation nodes s.x s.y s.result
