-- Sums made shorter: of the nodes that a sum adds to a graph, the first is the empty run, which is left out of parts, and a node that is one part alone is that part.
-- The graph's own nodes stay as they are.
use Rattle.std.specs.Prelude.{◌≡◌, ℕ, ◌-◌, ◌||◌, List, [], ◌∷◌, ◌++◌, length, nat_eq, nat_lt, Option, None, Some, is_some, unwrap_or, slice_index_or, if◌then◌else◌}
use Rattle.witness_graph.specs.declared.node.Node.{Node}
use Rattle.witness_graph.specs.declared.node.Node.TheVariants.{Start, Lower}
use Rattle.witness_graph.specs.Order.{listing_of}

-- the first of these is the empty run
abbrev pub BeginsEmpty : List Node → Type 0
BeginsEmpty added = (more : List Node) × (added ≡ Start ∷ more)

-- the part, unless it is the node with this number
abbrev pub but : ℕ → Option ℕ → Option ℕ
but g None = None
but g (Some j) = if nat_eq j g then None else Some j

-- the node without that part, unless it has no other
abbrev pub pruned : ℕ → Node → Node
pruned g Start = Start
pruned g (Lower before rule first second) =
    if is_some rule || (is_some (but g first) || is_some (but g second)) then Lower before rule (but g first) (but g second) else Lower before rule first second

-- the part that a node is, if it is one part alone
abbrev pub only_part : Node → Option ℕ
only_part (Lower None None (Some k) None) = Some k
only_part (Lower None None None (Some k)) = Some k
only_part _ = None

-- The number that stands for a node: its own where it is one of the first `g`, which are the graph's, and then those of a list.
abbrev pub stand : ℕ → List ℕ → ℕ → ℕ
stand g stands j = if nat_lt j g then j else slice_index_or stands (j - g) j

abbrev pub stand_for : ℕ → List ℕ → Option ℕ → Option ℕ
stand_for g stands None = None
stand_for g stands (Some j) = Some (stand g stands j)

-- the node by what stands for those that it names
abbrev pub by_stands : ℕ → List ℕ → Node → Node
by_stands g stands Start = Start
by_stands g stands (Lower before rule first second) = Lower (stand_for g stands before) rule (stand_for g stands first) (stand_for g stands second)

-- Nodes so far, of which `g` are the graph's, with what stands for each of the others, and then these.
abbrev pub shorten : ℕ → List Node → List ℕ → List Node → List Node × List ℕ
shorten g new stands [] = (new, stands)
shorten g new stands (n ∷ ns) =
    let m = pruned g (by_stands g stands n) in
    shorten g (new ++ m ∷ []) (stands ++ unwrap_or (only_part m) (length new) ∷ []) ns

-- the nodes of a graph and those that a sum added, these made shorter, and what stands for each of them
abbrev pub made_short : List Node → List Node → List Node × List ℕ
made_short graph added = shorten (length graph) graph [] added

-- the listing of what stands for a node
abbrev pub shortened : List Node → List Node → ℕ → List Node
shortened graph added root = let s = made_short graph added in listing_of s.0 (stand (length graph) s.1 root)
