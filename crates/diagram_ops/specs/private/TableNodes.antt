-- The nodes of a table, and how they are spread, to be found.
use Rattle.std.proofs.Common.{◌≡◌, ℕ, ◌+◌, ◌≤◌, List, length, map, slice_get, ap, ap₂, ◌∙◌}
use Rattle.std.specs.Prelude.{IsTrue, ◌⊎◌, Some, ◌++◌, ◌∷◌, []}
use Rattle.std.specs.Ordering.{eq_by_cmp, nat_cmp, ordering_then}
use Rattle.key_rows.specs.Keys.{mixed}
use Rattle.key_rows.specs.KeyLaws.{same_numbers, both_equal}
use Rattle.diagram_store.specs.declared.branch.Branch.{Branch}
use Rattle.diagram_ops.specs.contracts.node.NodeOrd.TheImpl.{ghosts as of_nodes}
use Rattle.diagram_ops.specs.declared.node.Node.{Node}

abbrev pub node_spread : ℕ → Node → ℕ
node_spread n k = mixed (mixed (mixed n k.var) k.low) k.high

-- equal nodes are spread alike
pub nodes_alike : (n : ℕ) (a b : Node) → IsTrue (eq_by_cmp of_nodes.cmp a b) → node_spread n a ≡ node_spread n b
nodes_alike n a b e =
    let first = both_equal (nat_cmp a.var b.var) (ordering_then (nat_cmp a.low b.low) (nat_cmp a.high b.high)) e in
    let second = both_equal (nat_cmp a.low b.low) (nat_cmp a.high b.high) first.1 in
    ap (λ v. mixed (mixed (mixed n v) a.low) a.high) (same_numbers a.var b.var first.0)
    ∙ ap₂ (λ l h. mixed (mixed (mixed n b.var) l) h) (same_numbers a.low b.low second.0) (same_numbers a.high b.high second.1)

-- a node of a table as one of a diagram
abbrev pub branch_of : Node → Branch
branch_of n = record { var = n.var; low = n.low; high = n.high }

abbrev pub branches_of : List Node → List Branch
branches_of nodes = map branch_of nodes

-- how many nodes have references of 32 bits
abbrev pub most_nodes : ℕ
most_nodes = 4294967293

-- a node is there: it was, or it is new and stands last
pub record IsMade (old new : List Node) (node : Node) (number : ℕ) : Type 0 where
  pub there : slice_get new number ≡ Some node
  pub either : (new ≡ old) ⊎ ((new ≡ old ++ node ∷ []) × ((k : ℕ) → slice_get old k ≡ Some node → ⊥))
