use Rattle.std.proofs.Common.{◌≡◌, refl, sym, ap, ◌∙◌}
use Rattle.weight_tables.specs.private.Cells.{cells_of}
use Rattle.weight_tables.proofs.CellLemmas.{cells_entries}
use Rattle.weight_tables.proofs.entry_list.EntryList.cells.Goals as goal

pub returns : goal.returns
returns g c = c.deref.ensures.value ∙ sym (cells_entries c.self.inside.places.members c.self.inside.cells.items c.self.invariant.long) ∙ ap cells_of c.self.view_is
