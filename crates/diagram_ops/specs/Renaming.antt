-- Other variables for those of a diagram.
use Rattle.std.specs.Prelude.{ℕ, ◌<◌, List, length, slice_index}
use Rattle.diagram_store.specs.declared.branch.Branch.{Branch}

-- each name is above those before it
abbrev pub Rises : List ℕ → Type 0
Rises names = (j k : ℕ) → j < k → k < length names → slice_index names j < slice_index names k

-- each name is below a limit
abbrev pub AreBelow : ℕ → List ℕ → Type 0
AreBelow limit names = (k : ℕ) → k < length names → slice_index names k < limit

-- the node with the name of its variable
abbrev pub with_variable : List ℕ → Branch → Branch
with_variable names n = record { var = slice_index names n.var; low = n.low; high = n.high }
