-- The listing of an answer, whether it is made or not.
use Rattle.std.proofs.Common.{◌≡◌, ◌∷◌, ◌++◌, length, refl, subst, List}
use Rattle.std.specs.Prelude.{Option, None, Some}
use Rattle.witness_graph.specs.declared.listing.Listing.{Listing}
use Rattle.witness_graph.specs.declared.node.Node.{Node}
use Rattle.witness_graph.specs.declared.node.Node.TheVariants.{Start}
use Rattle.witness_graph.specs.declared.node.Side.{Side}
use Rattle.witness_graph.specs.Nodes.{AreNodes, Overlaid}
use Rattle.weighted_automata.specs.Entries.{entry_at}
use Rattle.weighted_automata.specs.declared.transitions.Entry.{Entry}
use Rattle.semiring_laws.specs.Semiring.{Operations}
use Rattle.saturation_laws.specs.Openings.{AreKept}
use Rattle.witness_graph.specs.Shorter.{BeginsEmpty, shortened}
use Rattle.witness_graph.proofs.CallerLemmas.{is_listing, same_runs}
use Rattle.path_sum.specs.Sums.{answer_place}
use Rattle.path_sum.specs.Answers.{IsListingOf}
use Rattle.path_sum.specs.private.Growing.{IsListedOver, BeginsBehind}
use Rattle.path_sum.proofs.EntryLemmas.{present_here}

-- there is one
module _ {S W Map : Type 0} (s : Operations W Map) (side : Side) (graph added : List Node) (ts : List (Entry S W Map))
    (kept : AreKept s ts (length (graph ++ added))) (all : AreNodes (graph ++ added)) (begins : BeginsEmpty added) where
  pub listed : (e : Option (Entry S W Map)) → entry_at answer_place ts ≡ e → (l : Option Listing) × IsListingOf side graph added e l
  listed None is = (None, refl)
  listed (Some t) is =
      let within = (kept.each t (present_here answer_place ts t is)).1 in
      let l : Listing = record { side = side; nodes = shortened graph added t.node; is_listing = is_listing graph added t.node all begins within } in
      (Some l, (l, refl, refl, refl, same_runs side graph added t.node all begins within))

-- of an overlay whose nodes begin with the empty run
pub listed_over : {S W Map : Type 0} (s : Operations W Map) (o : Overlaid) (ts : List (Entry S W Map)) → AreKept s ts (length o.nodes) → AreNodes o.nodes → BeginsBehind o.graph.nodes o.nodes
    → (l : Option Listing) × IsListedOver o (entry_at answer_place ts) l
listed_over s o ts kept all (more, is) =
    let added = Start ∷ more in
    let l = listed s o.graph.side o.graph.nodes added ts (subst (λ ns. AreKept s ts (length ns)) is kept) (subst AreNodes is all) (more, refl) (entry_at answer_place ts) refl in
    (l.0, (added, is, l.1))
