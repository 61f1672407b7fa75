-- Scratch nodes: reduced, in any order, and found by their parts.
use Rattle.std.specs.Prelude.{◌≡◌, ℕ, ◌+◌, ◌<◌, Bool, List, length, Option, Some, if◌then◌else◌}
use Rattle.diagram_store.specs.declared.branch.Branch.{Branch}
use Rattle.diagram_store.specs.Nodes.{node_at, IsAbove, IsReduced}
use Rattle.diagram_store.specs.Meaning.{value_at}
pub use Rattle.diagram_ops.specs.NodeTables.{Keeps}

-- a node that may stand behind these, none of which it is
pub record IsNext (nodes : List Branch) (n : Branch) : Type 0 where
  pub low : n.low < length nodes + 2
  pub high : n.high < length nodes + 2
  pub low_above : IsAbove nodes n.var n.low
  pub high_above : IsAbove nodes n.var n.high
  pub differs : n.low ≡ n.high → ⊥
  pub fresh : (r : ℕ) → node_at nodes r ≡ Some n → ⊥

-- a table that finds each node, and nothing else
pub record FindsNodes (places : ℕ → ℕ → ℕ → Option ℕ) (nodes : List Branch) : Type 0 where
  pub finds : (r : ℕ) (n : Branch) → node_at nodes r ≡ Some n → places n.var n.low n.high ≡ Some r
  pub sound : (r : ℕ) (n : Branch) → places n.var n.low n.high ≡ Some r → node_at nodes r ≡ Some n

pub record IsScratch (places : ℕ → ℕ → ℕ → Option ℕ) (nodes : List Branch) : Type 0 where
  pub reduced : IsReduced nodes
  pub found : FindsNodes places nodes

-- the reference names a constant, or a node of a later place in an order of variables
abbrev pub IsPast : (ℕ → ℕ) → List Branch → ℕ → ℕ → Type 0
IsPast order nodes p r = (n : Branch) → node_at nodes r ≡ Some n → p < order n.var

-- A reference whose value on all bits is as `meaning` says. Its variables come after each that `before` says.
pub record Stands (nodes : List Branch) (r : ℕ) (meaning : (ℕ → Bool) → Bool → Type 0) (before : ℕ → Type 0) : Type 0 where
  pub within : r < length nodes + 2
  pub means : (bits : ℕ → Bool) → meaning bits (value_at nodes r bits)
  pub above : (v : ℕ) → before v → IsAbove nodes v r

-- a choice by the bit of a variable
abbrev pub IsChoice : List Branch → ℕ → ℕ → ℕ → (ℕ → Bool) → Bool → Type 0
IsChoice nodes v low high bits b = b ≡ (if bits v then value_at nodes high bits else value_at nodes low bits)
