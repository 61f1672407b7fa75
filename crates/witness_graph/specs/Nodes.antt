-- Nodes, and which of them name earlier ones alone.
use Rattle.std.specs.Prelude.{◌≡◌, ℕ, ◌<◌, Bool, true, ◌||◌, ◌&&◌, nat_lt, IsTrue, List, [], ◌++◌, length, Option, None, Some, is_some, IfSome, option_to_list, slice_get, slice_index_or}
use Rattle.witness_graph.specs.declared.node.Node.{Node}
use Rattle.witness_graph.specs.declared.node.Node.TheVariants.{Start, Lower}
use Rattle.witness_graph.specs.declared.node.Side.{Side}

-- what a graph is seen as: its nodes, and how many more it has room for
pub record Nodes : Type 0 where
  pub side : Side
  pub nodes : List Node
  pub spare : ℕ

-- what an overlay is seen as: its graph, and the graph's nodes with those that were added
pub record Overlaid : Type 0 where
  pub graph : Nodes
  pub nodes : List Node

-- a node, the empty run past the end
abbrev pub node_at : List Node → ℕ → Node
node_at nodes k = slice_index_or nodes k Start

-- the numbers that a node names, those before it first
abbrev pub named : Node → List ℕ
named Start = []
named (Lower before rule first second) = option_to_list before ++ (option_to_list first ++ option_to_list second)

-- a fact about each number that a node names
abbrev pub EachNamed : (ℕ → Type 0) → Node → Type 0
EachNamed P Start = Unit {0}
EachNamed P (Lower before rule first second) = IfSome before P × IfSome first P × IfSome second P

abbrev pub is_earlier : ℕ → Option ℕ → Bool
is_earlier k None = true
is_earlier k (Some j) = nat_lt j k

-- whether the node with this number names earlier ones alone
abbrev pub is_orderly : ℕ → Node → Bool
is_orderly k Start = true
is_orderly k (Lower before rule first second) = is_earlier k before && (is_earlier k first && is_earlier k second)

-- whether a node that lowers has a part
abbrev pub has_part : Node → Bool
has_part Start = true
has_part (Lower before rule first second) = is_some rule || (is_some first || is_some second)

pub record IsNodeAt (k : ℕ) (n : Node) : Type 0 where
  pub orderly : IsTrue (is_orderly k n)
  pub part : IsTrue (has_part n)

-- each node names earlier ones alone, and has a part if it lowers
pub record AreNodes (nodes : List Node) : Type 0 where
  pub each : (k : ℕ) (n : Node) → slice_get nodes k ≡ Some n → IsNodeAt k n

-- there is a last node, whose runs are meant
pub record IsListing (nodes : List Node) : Type 0 where
  pub some : 0 < length nodes
  pub all : AreNodes nodes
