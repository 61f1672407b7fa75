-- The diagram of the numbers that keep their bits, from the last number down to the first.
use Rattle.std.specs.Prelude.{◌≡◌, ◌≢◌, ℕ, ◌+◌, ◌*◌, ◌<◌, ◌≤◌, Bool, ◌||◌, nat_lt, List, [], ◌∷◌, length, Some}
use Rattle.diagram_store.specs.declared.branch.Branch.{Branch}
use Rattle.diagram_store.specs.Nodes.{node_at, IsReduced}
use Rattle.diagram_store.specs.Meaning.{value_at}
use Rattle.diagram_store.specs.private.Turns.{turn_after}
use Rattle.diagram_ops.specs.Quantifying.{is_listed}
use Rattle.relation_laws.specs.States.{old_state, new_state, same_bit, each_below}
use Rattle.relation_laws.specs.Relations.{Pairs}

-- each number from j on and below n keeps its bit, but for those that are listed
abbrev pub frame_from : ℕ → List ℕ → ℕ → Pairs
frame_from n freed j x y = each_below n (λ k. nat_lt k j || (is_listed freed k || same_bit (x k) (y k)))

-- the nodes by which number v keeps its bit, before the rest, where the first of them has the reference a
abbrev pub pair_nodes : ℕ → ℕ → ℕ → List Branch
pair_nodes a v rest =
    record { var = 2 * v + 1; low = rest; high = 0 } ∷ record { var = 2 * v + 1; low = 0; high = rest } ∷ record { var = 2 * v; low = a; high = a + 1 } ∷ []

-- The diagram of the numbers from j on, as the loop has it.
pub record IsFrame (n : ℕ) (freed : List ℕ) (j root : ℕ) (nodes : List Branch) : Type 0 where
  pub reduced : IsReduced nodes
  pub post_order : turn_after nodes root 2 root ≡ Some (length nodes + 2)
  pub within : root < length nodes + 2
  pub not_false : root ≢ 0
  pub among : (r : ℕ) (m : Branch) → node_at nodes r ≡ Some m → (2 * j ≤ m.var) × (m.var < 2 * n)
  pub means : (bits : ℕ → Bool) → value_at nodes root bits ≡ frame_from n freed j (old_state bits) (new_state bits)
