-- The nodes reached from one, in post-order, and their listing.
use Rattle.std.specs.Prelude.{ℕ, zero, suc, ◌+◌, Bool, IsTrue, List, [], ◌∷◌, ◌++◌, map, fold, nat_eq, Option, None, Some, is_some, option_map, option_and_then, if◌then◌else◌}
use Rattle.witness_graph.specs.declared.node.Node.{Node}
use Rattle.witness_graph.specs.declared.node.Node.TheVariants.{Start, Lower}
use Rattle.witness_graph.specs.Nodes.{node_at, named}

-- where a number stands first
abbrev pub place_of : ℕ → List ℕ → Option ℕ
place_of k [] = None
place_of k (x ∷ xs) = if nat_eq x k then Some 0 else option_map (λ i. i + 1) (place_of k xs)

abbrev pub is_listed : List ℕ → ℕ → Bool
is_listed xs k = is_some (place_of k xs)

-- What is listed after a walk from a node: unless it is listed already, all that it names, one after
-- another, and then itself. The walk goes so many names deep.
unfoldable pub walk : List Node → ℕ → List ℕ → ℕ → List ℕ
walk nodes zero listed k = listed
walk nodes (suc depth) listed k = if is_listed listed k then listed else fold (walk nodes depth) listed (named (node_at nodes k)) ++ k ∷ []

-- The nodes reached from one, in post-order. A node names earlier ones alone, so no walk goes deeper.
abbrev pub post_order : List Node → ℕ → List ℕ
post_order nodes root = walk nodes (suc root) [] root

-- the node with other numbers
abbrev pub renamed : (ℕ → Option ℕ) → Node → Node
renamed new Start = Start
renamed new (Lower before rule first second) = Lower (option_and_then new before) rule (option_and_then new first) (option_and_then new second)

-- these nodes, each numbered by its place
abbrev pub listed : List Node → List ℕ → List Node
listed nodes order = map (λ k. renamed (λ j. place_of j order) (node_at nodes k)) order

abbrev pub listing_of : List Node → ℕ → List Node
listing_of nodes root = listed nodes (post_order nodes root)

-- The node is reached from the root: it is the root, or named by a node that is reached.
pub data Reaches (nodes : List Node) (root : ℕ) : ℕ → Type 0 where
  itself : Reaches nodes root root
  along : (j k : ℕ) → Reaches nodes root j → IsTrue (is_listed (named (node_at nodes j)) k) → Reaches nodes root k
