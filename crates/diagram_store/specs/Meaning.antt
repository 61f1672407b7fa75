-- What a diagram means: a test on bits, one for each variable.
use Rattle.std.specs.Prelude.{◌≡◌, ℕ, zero, suc, ◌+◌, ◌<◌, Bool, false, List, length, Option, None, Some, nat_eq, slice_index_or, if◌then◌else◌}
use Rattle.diagram_store.specs.declared.branch.Branch.{Branch}
use Rattle.diagram_store.specs.Nodes.{node_at}

-- the branch of a node by the bit of its variable
abbrev pub branch_by : (ℕ → Bool) → Branch → ℕ
branch_by bits n = if bits n.var then n.high else n.low

-- the walk ends at a constant, and at a node goes on by the bit
abbrev pub step : (ℕ → Bool) → (ℕ → Bool) → ℕ → Option Branch → Bool
step rest bits r None = nat_eq r 1
step rest bits r (Some n) = rest (branch_by bits n)

-- whether a walk from a reference, so many nodes deep, ends at true
unfoldable pub walk : List Branch → (ℕ → Bool) → ℕ → ℕ → Bool
walk nodes bits zero r = nat_eq r 1
walk nodes bits (suc depth) r = step (walk nodes bits depth) bits r (node_at nodes r)

-- The value at a reference: where the walk by the bits ends. A node names earlier ones alone, so no walk
-- is deeper than its reference.
abbrev pub value_at : List Branch → ℕ → (ℕ → Bool) → Bool
value_at nodes r bits = walk nodes bits r r

-- a list of bits, false past its end
abbrev pub bits_of : List Bool → ℕ → Bool
bits_of list k = slice_index_or list k false

-- the bits with one of them set
abbrev pub set_bit : (ℕ → Bool) → ℕ → Bool → ℕ → Bool
set_bit bits v b k = if nat_eq k v then b else bits k

-- the value of one of two references, by the bit of a variable
abbrev pub choice : List Branch → ℕ → ℕ → ℕ → (ℕ → Bool) → Bool
choice nodes v low high bits = if bits v then value_at nodes high bits else value_at nodes low bits

-- the value at a node is that of the branch by the bit of its variable
abbrev pub GoesByBranch : List Branch → Type 0
GoesByBranch nodes = (r : ℕ) (n : Branch) (bits : ℕ → Bool) → node_at nodes r ≡ Some n → value_at nodes r bits ≡ choice nodes n.var n.low n.high bits

-- references with equal values on all bits are equal
abbrev pub TellsReferences : List Branch → Type 0
TellsReferences nodes = (r s : ℕ) → r < length nodes + 2 → s < length nodes + 2 → ((bits : ℕ → Bool) → value_at nodes r bits ≡ value_at nodes s bits) → r ≡ s
