use Rattle.std.proofs.Common.{◌≡◌, ℕ, List, ◌<◌, ◌-◌, length, All, sym, ◌∙◌, subst}
use Rattle.witness_graph.specs.declared.node.Node.{Node}
use Rattle.witness_graph.specs.declared.node.Side.TheVariants.{Pre}
use Rattle.witness_graph.specs.Nodes.{IsListing}
use Rattle.witness_graph.specs.Runs.{runs_of}
use Rattle.witness_graph.specs.Order.{listing_of}
use Rattle.witness_graph.specs.private.Paging.{place_on}
use Rattle.witness_graph.proofs.ListingLemmas.{order_within, made_listing, listing_is, listing_runs}
use Rattle.witness_graph.proofs.order.list_nodes.Goals as goal

pub renumber-requires : goal.renumber-requires
renumber-requires c =
    let P : List ℕ → Type 0 = λ o. All (λ k. k < length c.args.nodes.now) o in
    subst P (sym (c.deref.ensures.value ∙ c.in_ok-visited.ensures.order)) (order_within Pre c.args.nodes.now c.requires.nodes c.args.root c.requires.root)

is_list : (c : goal.After-drop-visited-3) → c.in_ok-list.list.items ≡ listing_of c.args.nodes.now c.args.root
is_list c = made_listing c.args.nodes.now c.args.root c.in_ok-list.list.items c.in_ok-visited.visited.order.items c.deref.result.now (place_on c.in_ok-visited.visited.places)
    c.in_ok-list.ensures c.deref.ensures.value c.in_ok-visited.ensures.order c.in_ok-visited.ensures.places

pub returns-clause-list : goal.returns-clause-list
returns-clause-list c = is_list c

pub returns-clause-listing : goal.returns-clause-listing
returns-clause-listing c = subst IsListing (sym (is_list c)) (listing_is Pre c.args.nodes.now c.requires.nodes c.args.root c.requires.root)

pub returns-clause-runs : goal.returns-clause-runs
returns-clause-runs c = λ side.
    let P : List Node → Type 0 = λ l. runs_of side l (length l - 1) ≡ runs_of side c.args.nodes.now c.args.root in
    subst P (sym (is_list c)) (listing_runs side c.args.nodes.now c.requires.nodes c.args.root c.requires.root)
