use Rattle.std.proofs.Common.{◌≡◌, ◌<◌, ℕ, ◌+◌, Bool, true, false, List, [], ◌∷◌, ◌++◌, length, set, refl, sym, ap, ◌∙◌, subst, arith}
use Rattle.std.specs.Prelude.{Some, None, IfSome, slice_get}
use Rattle.weight_tables.proofs.CellLemmas.{set_written, read_waits}
use Rattle.weight_tables.proofs.cell.set_cell.Goals as goal

pub returns-clause-waited : goal.returns-clause-waited
returns-clause-waited g c = read_waits c.args.cells.now c.args.t c.index-cells-t.result c.requires

pub returns-clause-cells : goal.returns-clause-cells
returns-clause-cells g c = set_written c.args.cells.now c.args.t c.args.weight
