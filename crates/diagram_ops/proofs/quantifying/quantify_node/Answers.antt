use Rattle.std.proofs.Common.{◌+◌, get_or, sym, ◌∙◌, arith}
use Rattle.diagram_store.specs.declared.branch.Branch.{Branch}
use Rattle.diagram_ops.specs.private.Images.{IsQuantified}
use Rattle.diagram_ops.proofs.ImageLemmas.{node_of_list, low_placed, high_placed, low_within, high_within, low_above, high_above, choice_means}
use Rattle.diagram_store.specs.TripleTables.{known}
use Rattle.diagram_ops.proofs.ApplyingLemmas.{are_applied_kept}
use Rattle.diagram_ops.proofs.QuantifyingLemmas.{quantified_join, chosen_means}
use Rattle.diagram_ops.proofs.quantifying.quantify_node.Goals as goal

abbrev blank : Branch
blank = record { var = 0; low = 0; high = 0 }

pub place_at-low-requires : goal.place_at-low-requires
place_at-low-requires c = low_placed c.args.nodes.now c.requires.nodes (c.args.k + 2) (get_or c.args.nodes.now c.args.k blank) (node_of_list c.args.nodes.now c.args.k blank c.requires.k)
    c.args.scratch.now c.args.places.now (omega arith)

pub place_at-high-requires : goal.place_at-high-requires
place_at-high-requires c = high_placed c.args.nodes.now c.requires.nodes (c.args.k + 2) (get_or c.args.nodes.now c.args.k blank) (node_of_list c.args.nodes.now c.args.k blank c.requires.k)
    c.args.scratch.now c.args.places.now (omega arith)

pub branch-scratch-requires-clause-low : goal.branch-scratch-requires-clause-low
branch-scratch-requires-clause-low c = low_within c.args.nodes.now c.requires.nodes (c.args.k + 2) (get_or c.args.nodes.now c.args.k blank) (node_of_list c.args.nodes.now c.args.k blank c.requires.k)
    c.args.scratch.now c.args.places.now (omega arith) (IsQuantified c.args.nodes.now c.args.vars.now) c.requires.image c.place_at-low.result c.place_at-high.result c.place_at-low.ensures c.place_at-high.ensures

pub branch-scratch-requires-clause-high : goal.branch-scratch-requires-clause-high
branch-scratch-requires-clause-high c = high_within c.args.nodes.now c.requires.nodes (c.args.k + 2) (get_or c.args.nodes.now c.args.k blank) (node_of_list c.args.nodes.now c.args.k blank c.requires.k)
    c.args.scratch.now c.args.places.now (omega arith) (IsQuantified c.args.nodes.now c.args.vars.now) c.requires.image c.place_at-low.result c.place_at-high.result c.place_at-low.ensures c.place_at-high.ensures

pub branch-scratch-requires-clause-low_above : goal.branch-scratch-requires-clause-low_above
branch-scratch-requires-clause-low_above c = low_above c.args.nodes.now c.requires.nodes (c.args.k + 2) (get_or c.args.nodes.now c.args.k blank) (node_of_list c.args.nodes.now c.args.k blank c.requires.k)
    c.args.scratch.now c.args.places.now (omega arith) (IsQuantified c.args.nodes.now c.args.vars.now) c.requires.image c.place_at-low.result c.place_at-high.result c.place_at-low.ensures c.place_at-high.ensures

pub branch-scratch-requires-clause-high_above : goal.branch-scratch-requires-clause-high_above
branch-scratch-requires-clause-high_above c = high_above c.args.nodes.now c.requires.nodes (c.args.k + 2) (get_or c.args.nodes.now c.args.k blank) (node_of_list c.args.nodes.now c.args.k blank c.requires.k)
    c.args.scratch.now c.args.places.now (omega arith) (IsQuantified c.args.nodes.now c.args.vars.now) c.requires.image c.place_at-low.result c.place_at-high.result c.place_at-low.ensures c.place_at-high.ensures

pub returns-then-contains-clause-stands : goal.returns-then-contains-clause-stands
returns-then-contains-clause-stands c =
    quantified_join c.args.nodes.now c.requires.nodes (c.args.k + 2) (get_or c.args.nodes.now c.args.k blank) (node_of_list c.args.nodes.now c.args.k blank c.requires.k)
    c.args.scratch.now c.args.places.now (omega arith) c.args.vars.now c.requires.image c.place_at-low.result c.place_at-high.result c.place_at-low.ensures c.place_at-high.ensures
    (sym c.contains.ensures.value ∙ c.if-contains.true) c.apply.new.scratch (known c.apply.new.results) c.in_ok-joined.joined c.in_ok-joined.ensures

pub returns-clause-results : goal.returns-clause-results
returns-clause-results c =
    are_applied_kept c.args.scratch.now c.requires.image.reduced c.branch-scratch.new.self c.in_ok-place.ensures.reduced c.in_ok-place.ensures.keeps 252 (known c.args.results.now) c.requires.results

pub returns-clause-stands : goal.returns-clause-stands
returns-clause-stands c =
    choice_means c.args.nodes.now c.requires.nodes (c.args.k + 2) (get_or c.args.nodes.now c.args.k blank) (node_of_list c.args.nodes.now c.args.k blank c.requires.k)
    c.args.scratch.now c.args.places.now (omega arith) (IsQuantified c.args.nodes.now c.args.vars.now) c.requires.image c.place_at-low.result c.place_at-high.result c.place_at-low.ensures c.place_at-high.ensures
    c.branch-scratch.new.self c.in_ok-place.ensures.reduced c.in_ok-place.ensures.keeps c.in_ok-place.place c.in_ok-place.ensures.stands
    (chosen_means c.args.nodes.now c.requires.nodes c.args.vars.now (c.args.k + 2) (get_or c.args.nodes.now c.args.k blank) (node_of_list c.args.nodes.now c.args.k blank c.requires.k)
    (sym c.contains.ensures.value ∙ c.if-contains.false))
