use Rattle.std.proofs.Common.{◌+◌, get_or, arith}
use Rattle.diagram_store.specs.declared.branch.Branch.{Branch}
use Rattle.diagram_ops.specs.private.Images.{IsValue}
use Rattle.diagram_ops.proofs.ImageLemmas.{node_of_list, low_placed, high_placed, low_within, high_within, low_above, high_above, choice_means, value_by}
use Rattle.diagram_ops.proofs.table_loading.load_node.Goals as goal

abbrev blank : Branch
blank = record { var = 0; low = 0; high = 0 }

pub place_at-low-requires : goal.place_at-low-requires
place_at-low-requires c = low_placed c.args.nodes.now c.requires.nodes (c.args.k + 2) (get_or c.args.nodes.now c.args.k blank) (node_of_list c.args.nodes.now c.args.k blank c.requires.k)
    c.args.table.now c.args.places.now (omega arith)

pub place_at-high-requires : goal.place_at-high-requires
place_at-high-requires c = high_placed c.args.nodes.now c.requires.nodes (c.args.k + 2) (get_or c.args.nodes.now c.args.k blank) (node_of_list c.args.nodes.now c.args.k blank c.requires.k)
    c.args.table.now c.args.places.now (omega arith)

pub branch-table-requires-clause-low : goal.branch-table-requires-clause-low
branch-table-requires-clause-low c = low_within c.args.nodes.now c.requires.nodes (c.args.k + 2) (get_or c.args.nodes.now c.args.k blank) (node_of_list c.args.nodes.now c.args.k blank c.requires.k)
    c.args.table.now c.args.places.now (omega arith) (IsValue c.args.nodes.now) c.requires.image c.place_at-low.result c.place_at-high.result c.place_at-low.ensures c.place_at-high.ensures

pub branch-table-requires-clause-high : goal.branch-table-requires-clause-high
branch-table-requires-clause-high c = high_within c.args.nodes.now c.requires.nodes (c.args.k + 2) (get_or c.args.nodes.now c.args.k blank) (node_of_list c.args.nodes.now c.args.k blank c.requires.k)
    c.args.table.now c.args.places.now (omega arith) (IsValue c.args.nodes.now) c.requires.image c.place_at-low.result c.place_at-high.result c.place_at-low.ensures c.place_at-high.ensures

pub branch-table-requires-clause-low_above : goal.branch-table-requires-clause-low_above
branch-table-requires-clause-low_above c = low_above c.args.nodes.now c.requires.nodes (c.args.k + 2) (get_or c.args.nodes.now c.args.k blank) (node_of_list c.args.nodes.now c.args.k blank c.requires.k)
    c.args.table.now c.args.places.now (omega arith) (IsValue c.args.nodes.now) c.requires.image c.place_at-low.result c.place_at-high.result c.place_at-low.ensures c.place_at-high.ensures

pub branch-table-requires-clause-high_above : goal.branch-table-requires-clause-high_above
branch-table-requires-clause-high_above c = high_above c.args.nodes.now c.requires.nodes (c.args.k + 2) (get_or c.args.nodes.now c.args.k blank) (node_of_list c.args.nodes.now c.args.k blank c.requires.k)
    c.args.table.now c.args.places.now (omega arith) (IsValue c.args.nodes.now) c.requires.image c.place_at-low.result c.place_at-high.result c.place_at-low.ensures c.place_at-high.ensures

pub returns-clause-stands : goal.returns-clause-stands
returns-clause-stands c =
    choice_means c.args.nodes.now c.requires.nodes (c.args.k + 2) (get_or c.args.nodes.now c.args.k blank) (node_of_list c.args.nodes.now c.args.k blank c.requires.k)
    c.args.table.now c.args.places.now (omega arith) (IsValue c.args.nodes.now) c.requires.image c.place_at-low.result c.place_at-high.result c.place_at-low.ensures c.place_at-high.ensures
    c.branch-table.new.self c.in_ok-place.ensures.reduced c.in_ok-place.ensures.keeps c.in_ok-place.place c.in_ok-place.ensures.stands
    (value_by c.args.nodes.now c.requires.nodes (c.args.k + 2) (get_or c.args.nodes.now c.args.k blank) (node_of_list c.args.nodes.now c.args.k blank c.requires.k))

pub returns-in_err-place-clause-limits : goal.returns-in_err-place-clause-limits
returns-in_err-place-clause-limits c = λ limit there of_nodes.
    c.in_err-place.ensures.limits limit (of_nodes (c.args.k + 2) (get_or c.args.nodes.now c.args.k blank) (node_of_list c.args.nodes.now c.args.k blank c.requires.k)) there

pub returns-clause-limits : goal.returns-clause-limits
returns-clause-limits c = λ limit there of_nodes.
    c.in_ok-place.ensures.limits limit (of_nodes (c.args.k + 2) (get_or c.args.nodes.now c.args.k blank) (node_of_list c.args.nodes.now c.args.k blank c.requires.k)) there
