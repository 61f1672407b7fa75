-- What stays as nodes are added to a table, and relations among its references.
use Rattle.std.specs.Prelude.{◌≡◌, ℕ, Bool, IsTrue, List, Some}
use Rattle.diagram_store.specs.declared.branch.Branch.{Branch}
use Rattle.diagram_store.specs.Nodes.{node_at, HasVariablesBelow}
use Rattle.diagram_store.specs.Meaning.{value_at}
use Rattle.diagram_ops.specs.Relations.{of_states}

-- each reference keeps its node
pub record Keeps (old new : List Branch) : Type 0 where
  pub each : (r : ℕ) (n : Branch) → node_at old r ≡ Some n → node_at new r ≡ Some n

-- no variable comes up that is not below a limit where all were
abbrev pub KeepsLimits : List Branch → List Branch → Type 0
KeepsLimits old new = (limit : ℕ) → HasVariablesBelow limit old → HasVariablesBelow limit new

-- whether the relation of a reference leads from the old state to the new one
abbrev pub leads_at : List Branch → ℕ → (ℕ → Bool) → (ℕ → Bool) → Bool
leads_at nodes r old new = value_at nodes r (of_states old new)

-- the first reference leads from the old state to some state in the middle, and the second from there to the new one
abbrev pub LeadsThrough : List Branch → ℕ → ℕ → (ℕ → Bool) → (ℕ → Bool) → Type 0
LeadsThrough nodes a b old new = (middle : ℕ → Bool) × IsTrue (leads_at nodes a old middle) × IsTrue (leads_at nodes b middle new)
