-- The post-order of a walk by the numbers of references: each is left in its turn.
use Rattle.std.specs.Prelude.{◌≡◌, ℕ, zero, suc, ◌+◌, List, length, Option, None, Some, nat_eq, nat_lt, option_and_then, if◌then◌else◌}
use Rattle.diagram_store.specs.declared.branch.Branch.{Branch}
use Rattle.diagram_store.specs.Nodes.{node_at, IsReduced}

-- a reference that is left in its turn, and the one whose turn is next
abbrev pub in_turn : ℕ → ℕ → Option ℕ
in_turn r turn = if nat_eq r turn then Some (turn + 1) else None

-- low is walked first, then high, and then the node is left
abbrev pub leave : (ℕ → ℕ → Option ℕ) → ℕ → ℕ → Option Branch → Option ℕ
leave rest turn r None = None
leave rest turn r (Some n) = option_and_then (in_turn r) (option_and_then (λ t. rest t n.high) (rest turn n.low))

-- A walk from a reference, so many nodes deep, while the references below `turn` have been left. It gives
-- the turn after it, if each reference that it leaves is left in its turn.
unfoldable pub turn_after : List Branch → ℕ → ℕ → ℕ → Option ℕ
turn_after nodes zero turn r = if nat_lt r turn then Some turn else None
turn_after nodes (suc depth) turn r = if nat_lt r turn then Some turn else leave (turn_after nodes depth) turn r (node_at nodes r)

-- the walk from the root leaves each reference in its turn, and none is unreached
pub record IsTurned (root : ℕ) (nodes : List Branch) : Type 0 where
  pub reduced : IsReduced nodes
  pub post_order : turn_after nodes root 2 root ≡ Some (length nodes + 2)
