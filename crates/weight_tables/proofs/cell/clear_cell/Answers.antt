use Rattle.std.proofs.Common.{◌≡◌, ◌<◌, ℕ, ◌+◌, Bool, true, false, List, [], ◌∷◌, ◌++◌, length, set, refl, sym, ap, ◌∙◌, subst, arith}
use Rattle.std.specs.Prelude.{Some, None, IfSome, slice_get}
use Rattle.weight_tables.proofs.CellLemmas.{set_cleared}
use Rattle.weight_tables.proofs.cell.clear_cell.Goals as goal

pub returns : goal.returns
returns g c = set_cleared c.args.cells.now c.args.t c.index-cells-t.result
