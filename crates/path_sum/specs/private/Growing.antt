-- A sum while it grows, as a state, and its steps.
use Rattle.std.specs.Prelude.{◌≡◌, ℕ, Bool, IsTrue, List, ◌∷◌, ◌++◌, length, Option, None, Some}
use Rattle.saturation_laws.specs.Openings.{AreKept, found_so_far}
use Rattle.saturation_laws.specs.States.{CoreState, Change}
use Rattle.semiring_laws.specs.Semiring.{Operations}
use Rattle.weighted_automata.specs.Entries.{index_at}
use Rattle.weighted_automata.specs.declared.place.Place.{Place}
use Rattle.weighted_automata.specs.declared.transitions.Entry.{Entry}
use Rattle.witness_graph.specs.Nodes.{Overlaid}
use Rattle.witness_graph.specs.declared.listing.Listing.{Listing}
use Rattle.witness_graph.specs.declared.node.Node.{Node}
use Rattle.witness_graph.specs.declared.node.Node.TheVariants.{Start}
use Rattle.path_sum.specs.Answers.{IsListingOf}
use Rattle.path_sum.specs.Sums.{ways_of, bare_sum, Move, move, grow}
use Rattle.path_sum.specs.declared.growing.Growing.{Growing}
use Rattle.path_sum.specs.private.Inputs.{SumInputValue}

-- the pairs, nodes and waiting places of a sum
abbrev pub state_of : {S W Map : Type 0} → Growing S W Map → CoreState S W Map
state_of g = found_so_far g.pairs.transitions g.nodes.nodes g.pairs.queue

module _ {S W Map : Type 0} (s : Operations W Map) where
  -- The transition at a place has this number, and weights and nodes are those of the state.
  pub record IsReady (ts : List (Entry S W Map)) (k : ℕ) (x : Place) (st : CoreState S W Map) : Type 0 where
    pub at : index_at x st.transitions ≡ Some k
    pub pairs : AreKept s st.transitions (length st.nodes)
    pub transitions : AreKept s ts (length st.nodes)

module _ {S W Map : Type 0} (operations : S → Operations W Map) (input : SumInputValue S W Map) where
  -- what goes on from a place can be added, and its transition has this number
  abbrev pub CanDraw : ℕ → Place → CoreState S W Map → Type 0
  CanDraw k x st = IsReady (operations input.semiring) input.transitions k x st

  -- the move, and these moves, make the second state of the first
  abbrev pub MovesBy : Move → CoreState S W Map → CoreState S W Map → Type 0
  MovesBy m old new = move (operations input.semiring) input.side input.opening input.transitions (ways_of input.pattern) m old ≡ Some new

  abbrev pub GrowsBy : List Move → CoreState S W Map → CoreState S W Map → Type 0
  GrowsBy ms old new = grow (operations input.semiring) input.side input.opening input.transitions (ways_of input.pattern) old ms ≡ Some new

-- a weight for a place, by the runs of one node or of two, one after the other
abbrev pub given : {W : Type 0} → Place → W → ℕ → Option ℕ → Change W
given place weight first second =
    record { goal = place; weight = weight; rule = None; first = Some first; second = second }

-- what a sum over no rounds is
abbrev pub begun_of : {S W Map : Type 0} → (S → Operations W Map) → SumInputValue S W Map → List Node → CoreState S W Map
begun_of operations input nodes = bare_sum (operations input.semiring) input.side nodes (ways_of input.pattern)

-- of all these nodes the first are those of a graph, and the next is the empty run
abbrev pub BeginsBehind : List Node → List Node → Type 0
BeginsBehind graph all = (more : List Node) × (all ≡ graph ++ Start ∷ more)

module _ {S W Map : Type 0} where
  -- the same of an overlay
  abbrev pub IsListedOver : Overlaid → Option (Entry S W Map) → Option Listing → Type 0
  IsListedOver o e listing = (added : List Node) × (o.nodes ≡ o.graph.nodes ++ added)
      × IsListingOf o.graph.side o.graph.nodes added e listing

  -- the same of what is shown of it: all where it is asked for
  abbrev pub IsShownOver : Bool → Overlaid → Option (Entry S W Map) → Option Listing → Type 0
  IsShownOver listed o e shown = (listing : Option Listing) × IsListedOver o e listing × (IsTrue listed → shown ≡ listing)
