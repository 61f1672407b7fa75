use Rattle.std.proofs.Common.{sym, subst}
use Rattle.weight_tables.specs.private.Renewed.{AllCellsKnown}
use Rattle.weight_tables.proofs.RenewalLemmas.{cells_known, layers_moved, moved_same}
use Rattle.weight_tables.proofs.renewal.moved_layers.Goals as goal

pub moved_cells-requires-clause-cells : goal.moved_cells-requires-clause-cells
moved_cells-requires-clause-cells g c = subst (AllCellsKnown (g.M.Weigher.Knows c.args.from.now)) (sym c.cells.ensures) (cells_known (g.M.Weigher.Knows c.args.from.now) c.args.layers.now.base c.requires.layers.base)

pub moved_cells-requires-2-clause-cells : goal.moved_cells-requires-2-clause-cells
moved_cells-requires-2-clause-cells g c = subst (AllCellsKnown (g.M.Weigher.Knows c.args.from.now)) (sym c.cells-2.ensures) (cells_known (g.M.Weigher.Knows c.args.from.now) c.args.layers.now.target c.requires.layers.target)

pub moved_cells-requires-3-clause-cells : goal.moved_cells-requires-3-clause-cells
moved_cells-requires-3-clause-cells g c = subst (AllCellsKnown (g.M.Weigher.Knows c.args.from.now)) (sym c.cells-3.ensures) (cells_known (g.M.Weigher.Knows c.args.from.now) c.args.layers.now.walk c.requires.layers.walk)

pub returns-clause-moved : goal.returns-clause-moved
returns-clause-moved g c =
    let Knows = g.M.Weigher.Knows in
    let worth = g.M.Weigher.worth in
    let before = worth c.args.from.now in
    let a = c.moved_cells.new.into in
    let b = c.moved_cells-2.new.into in
    let d = c.moved_cells-3.new.into in
    layers_moved before c.args.layers.now a b d c.moved_cells-2.ensures.grows c.moved_cells-3.ensures.grows (record { base = c.in_ok-base.base; target = c.in_ok-target.target; walk = c.in_ok-walk.walk })
    (moved_same (Knows a) before (worth a) _ _ _ c.cells.ensures c.in_ok-base.ensures.moved)
    (moved_same (Knows b) before (worth b) _ _ _ c.cells-2.ensures c.in_ok-target.ensures.moved)
    (moved_same (Knows d) before (worth d) _ _ _ c.cells-3.ensures c.in_ok-walk.ensures.moved)
