-- What the test of a list of nodes asks of each node.
use Rattle.std.specs.Prelude.{◌≡◌, ◌≢◌, ℕ, ◌+◌, ◌<◌, List, Some, slice_get}
use Rattle.diagram_store.specs.declared.branch.Branch.{Branch}
use Rattle.diagram_store.specs.Nodes.{IsAbove}

-- node k of the list fits those before it
pub record IsFitting (nodes : List Branch) (k : ℕ) (n : Branch) : Type 0 where
  pub low_earlier : n.low < k + 2
  pub high_earlier : n.high < k + 2
  pub differs : n.low ≢ n.high
  pub low_above : IsAbove nodes n.var n.low
  pub high_above : IsAbove nodes n.var n.high
  pub fresh : (j : ℕ) → j < k → slice_get nodes j ≡ Some n → ⊥
