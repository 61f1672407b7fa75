-- Lists of runs without parts that change nothing.
use Rattle.std.specs.Prelude.{◌≡◌, ◌≢◌, ℕ, List, map, None, Some, IsTrue, slice_get}
use Rattle.semiring_laws.specs.Semiring.{Operations}
use Rattle.semiring_laws.specs.Combination.{combination}
use Rattle.witness_graph.specs.declared.node.Node.{Node}
use Rattle.witness_graph.specs.declared.node.Node.TheVariants.{Start, Lower}
use Rattle.witness_graph.specs.declared.node.Side.{Side}
use Rattle.witness_graph.specs.Nodes.{node_at}
use Rattle.witness_graph.specs.Runs.{runs_of}
use Rattle.witness_graph.specs.Order.{is_listed}

-- the combination of the values of a node's runs
abbrev pub worth_of : {W Map : Type 0} → Operations W Map → (List ℕ → W) → Side → List Node → ℕ → W
worth_of s value side nodes k = combination s (map value (runs_of side nodes k))

-- the parts of a node change what the runs before them combine to
abbrev pub IsTightNode : {W : Type 0} → (ℕ → W) → W → ℕ → Node → Type 0
IsTightNode worth zero k Start = Unit {0}
IsTightNode worth zero k (Lower None rule first second) = worth k ≢ zero
IsTightNode worth zero k (Lower (Some j) rule first second) = worth k ≢ worth j

module _ {W Map : Type 0} (s : Operations W Map) (value : List ℕ → W) (side : Side) (nodes : List Node) where
  pub record IsTight : Type 0 where
    pub each : (k : ℕ) (n : Node) → slice_get nodes k ≡ Some n → IsTightNode (worth_of s value side nodes) s.zero k n

  -- the nodes with these numbers are so
  abbrev pub AreTight : List ℕ → Type 0
  AreTight order = (k : ℕ) → IsTrue (is_listed order k) → IsTightNode (worth_of s value side nodes) s.zero k (node_at nodes k)
