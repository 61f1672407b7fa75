use Rattle.std.proofs.Common.{◌++◌, ◌∷◌, ◌<◌, length, refl, sym, ap, ◌∙◌, subst}
use Rattle.std.specs.Prelude.{Some}
use Rattle.std.proofs.lemmas.List.{append_cancel_left}
use Rattle.std.proofs.lemmas.Option.{slice_get_within}
use Rattle.weighted_automata.specs.Entries.{entry_at}
use Rattle.witness_graph.specs.declared.node.Node.TheVariants.{Start}
use Rattle.witness_graph.specs.Nodes.{Nodes, AreNodes}
use Rattle.saturation_laws.proofs.CallerLemmas.{indexed}
use Rattle.path_sum.specs.Sums.{answer_place}
use Rattle.path_sum.specs.private.Growing.{IsListedOver}
use Rattle.path_sum.specs.Answers.{IsListingOf}
use Rattle.path_sum.proofs.EntryLemmas.{found_here, present_here}
use Rattle.path_sum.proofs.ListedLemmas.{listed_over}
use Rattle.path_sum.proofs.summing.list_answer.Goals as goal

pub entry-requires : goal.entry-requires
entry-requires g c =
    let ts = c.list-pairs.result.now.transitions in
    let there = indexed answer_place ts c.in-Some.k (sym c.find.ensures.index ∙ c.in-Some.is) in
    slice_get_within ts c.in-Some.k there.0 there.1

pub shorter-requires : goal.shorter-requires
shorter-requires g c =
    let at = sym (ap (entry_at answer_place) c.list-pairs.ensures) ∙ found_here answer_place c.list-pairs.result.now.transitions c.in-Some.k c.find.result c.entry.result.now c.find.ensures.entry c.in-Some.is c.entry.ensures.entry in
    let root = (c.requires.kept.1.each c.entry.result.now (present_here answer_place c.args.sum.now.pairs.transitions c.entry.result.now at)).1 in
    let added = c.added-added.result.now in
    let begins = c.requires.begins in
    let same = sym c.graph-graph.ensures in
    let all = c.added-added.ensures.added ∙ ap (λ (v : Nodes). v.nodes ++ added) same in
    record {
      nodes = subst AreNodes all c.added-added.ensures.nodes;
      begins = (begins.0, append_cancel_left c.graph-graph.result.now.nodes added (Start ∷ begins.0) (sym all ∙ begins.1 ∙ ap (λ (v : Nodes). v.nodes ++ Start ∷ begins.0) same));
      root = subst (λ ns. c.entry.result.now.node < length ns) all root;
    }

pub returns-then-not-listed : goal.returns-then-not-listed
returns-then-not-listed g c =
    let o = c.args.sum.now.nodes in
    let l = listed_over c.requires.kept.0 o c.args.sum.now.pairs.transitions c.requires.kept.1 c.added-added.ensures.nodes c.requires.begins in
    (l.0, l.1, λ asked. cc (asked, c.if-not-listed.true))

pub returns-in_ok-listing-in-Some : goal.returns-in_ok-listing-in-Some
returns-in_ok-listing-in-Some g c =
    let at = sym (ap (entry_at answer_place) c.list-pairs.ensures) ∙ found_here answer_place c.list-pairs.result.now.transitions c.in-Some.k c.find.result c.entry.result.now c.find.ensures.entry c.in-Some.is c.entry.ensures.entry in
    let l = c.in_ok-listing-in-Some in
    let added = c.added-added.result.now in
    let short = subst (λ (v : Nodes). IsListingOf v.side v.nodes added (Some c.entry.result.now) (Some l.listing)) c.graph-graph.ensures (l.listing, refl, l.ensures.side, l.ensures.nodes, l.ensures.runs) in
    (Some l.listing, subst (λ o. IsListedOver c.args.sum.now.nodes o (Some l.listing)) (sym at) (added, c.added-added.ensures.added, short), λ asked. refl)
