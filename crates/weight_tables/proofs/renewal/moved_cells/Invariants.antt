use Rattle.std.proofs.Common.{take}
use Rattle.weight_tables.specs.Growth.{Grows}
use Rattle.weight_tables.specs.private.Renewed.{AreMoved}
use Rattle.weight_tables.proofs.renewal.moved_cells.Given as goal

abbrev pub invariant-loop-cell : goal.invariant-loop-cell
invariant-loop-cell g l = record {
  grows : Grows g.M.Weigher.pushdown g.M.Weigher.Knows g.M.Weigher.worth l.fn.into l.into;
  moved : AreMoved (g.M.Weigher.Knows l.into) (g.M.Weigher.worth l.from) (g.M.Weigher.worth l.into) (take l.cell-index l.cells) l.list.items;
}
