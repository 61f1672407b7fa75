-- The canonical form of a diagram.
use Rattle.std.specs.Prelude.{◌≡◌, ℕ, ◌<◌, List, [], ◌∷◌, ◌++◌, Some}
use Rattle.wpds_base.specs.Lists.{IsIn}
use Rattle.diagram_store.specs.declared.branch.Branch.{Branch}
use Rattle.diagram_store.specs.Nodes.{node_at, IsReduced}

-- A walk from a reference in post-order, low first: the nodes that were left before it, and those that are
-- left after it, each in the order in which it was left. A constant is passed over, and so is a node that
-- was left before.
pub data IsWalked (nodes : List Branch) : List Branch → ℕ → List Branch → Type 0 where
  constant : {left : List Branch} {r : ℕ} → r < 2 → IsWalked nodes left r left
  again : {left : List Branch} {r : ℕ} {n : Branch} → node_at nodes r ≡ Some n → IsIn n left → IsWalked nodes left r left
  leaves : {left middle after : List Branch} {r : ℕ} {n : Branch} → node_at nodes r ≡ Some n
      → IsWalked nodes left n.low middle → IsWalked nodes middle n.high after → IsWalked nodes left r (after ++ n ∷ [])

-- the walk from the root reaches all nodes, and leaves them in the order in which they stand
abbrev pub IsPostOrder : ℕ → List Branch → Type 0
IsPostOrder root nodes = ∥ IsWalked nodes [] root nodes ∥₁

pub record IsCanonical (root : ℕ) (nodes : List Branch) : Type 0 where
  pub reduced : IsReduced nodes
  pub post_order : IsPostOrder root nodes
