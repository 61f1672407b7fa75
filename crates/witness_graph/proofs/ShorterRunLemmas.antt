-- A listing that is made shorter is one, with the same runs.
use Rattle.std.proofs.Common.{◌≡◌, ℕ, ◌-◌, ◌<◌, List, ◌++◌, length, ◌∙◌, arith}
use Rattle.witness_graph.specs.declared.node.Node.{Node}
use Rattle.witness_graph.specs.declared.node.Side.{Side}
use Rattle.witness_graph.specs.declared.node.Side.TheVariants.{Pre}
use Rattle.witness_graph.specs.Nodes.{AreNodes, IsListing}
use Rattle.witness_graph.specs.Runs.{runs_of}
use Rattle.witness_graph.proofs.ListingLemmas.{listing_is, listing_runs}
use Rattle.witness_graph.specs.Shorter.{BeginsEmpty, made_short, stand, shortened}
use Rattle.witness_graph.proofs.ShorterLemmas.{sum_short}

pub same_runs : (side : Side) (graph added : List Node) (root : ℕ) → AreNodes (graph ++ added) → BeginsEmpty added → root < length (graph ++ added)
    → runs_of side (shortened graph added root) (length (shortened graph added root) - 1) ≡ runs_of side (graph ++ added) root
same_runs side graph added root all begins within =
    let made = made_short graph added in
    let short = sum_short side graph added all begins in
    let low = short.low root within in
    listing_runs side made.0 short.valid (stand (length graph) made.1 root) (omega (arith, short.new_len)) ∙ short.stood root within

pub is_listing : (graph added : List Node) (root : ℕ) → AreNodes (graph ++ added) → BeginsEmpty added → root < length (graph ++ added) → IsListing (shortened graph added root)
is_listing graph added root all begins within =
    let made = made_short graph added in
    let short = sum_short Pre graph added all begins in
    let low = short.low root within in
    listing_is Pre made.0 short.valid (stand (length graph) made.1 root) (omega (arith, short.new_len))
