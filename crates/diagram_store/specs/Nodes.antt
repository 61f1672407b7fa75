-- Nodes of decision diagrams, and the references that name them (Bryant 1986).
use Rattle.std.specs.Prelude.{◌≡◌, ◌≢◌, ℕ, zero, suc, ◌<◌, List, Option, None, Some, slice_get}
use Rattle.diagram_store.specs.declared.branch.Branch.{Branch}

-- the node that a reference names: 0 is false and 1 is true, which are no nodes, and i + 2 is node i
abbrev pub node_at : List Branch → ℕ → Option Branch
node_at nodes zero = None
node_at nodes (suc zero) = None
node_at nodes (suc (suc i)) = slice_get nodes i

-- the reference names false, true, or a node of a later variable
abbrev pub IsAbove : List Branch → ℕ → ℕ → Type 0
IsAbove nodes v r = (n : Branch) → node_at nodes r ≡ Some n → v < n.var

-- Nodes that are ordered and reduced: each names earlier ones alone, variables rise on each way down, no
-- node has equal branches, and no two nodes are equal.
pub record IsReduced (nodes : List Branch) : Type 0 where
  pub earlier : (r : ℕ) (n : Branch) → node_at nodes r ≡ Some n → (n.low < r) × (n.high < r)
  pub rises : (r : ℕ) (n : Branch) → node_at nodes r ≡ Some n → IsAbove nodes n.var n.low × IsAbove nodes n.var n.high
  pub differs : (r : ℕ) (n : Branch) → node_at nodes r ≡ Some n → n.low ≢ n.high
  pub distinct : (r s : ℕ) (n : Branch) → node_at nodes r ≡ Some n → node_at nodes s ≡ Some n → r ≡ s

-- each variable is below a limit
abbrev pub HasVariablesBelow : ℕ → List Branch → Type 0
HasVariablesBelow limit nodes = (r : ℕ) (n : Branch) → node_at nodes r ≡ Some n → n.var < limit
