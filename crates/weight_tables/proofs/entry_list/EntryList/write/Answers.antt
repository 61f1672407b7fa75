use Rattle.std.proofs.Common.{◌≡◌, ◌<◌, ℕ, ◌+◌, Bool, true, false, List, [], ◌∷◌, ◌++◌, length, set, refl, sym, ap, ◌∙◌, subst, arith}
use Rattle.std.specs.Prelude.{Some, None, IfSome, slice_get}
use Rattle.weight_tables.proofs.ListLemmas.{list_same, list_written, cell_below}
use Rattle.weight_tables.proofs.CellLemmas.{entries-written}
use Rattle.weight_tables.specs.private.Marks.{AreMarked}
use Rattle.weight_tables.specs.private.Cells.{waits_in, entries_in, changed}
use Rattle.weight_tables.proofs.entry_list.EntryList.write.Goals as goal

pub invariant_of-self : goal.invariant_of-self
invariant_of-self g c = list_same c.self.inside.places.members c.self.inside.cells.items c.self.inside.index c.self.inside.waiting.items c.self.invariant _ _ refl c.reserve.ensures.items

pub write_cell-requires-clause-number : goal.write_cell-requires-clause-number
write_cell-requires-clause-number g c = cell_below c.self.inside.places.members c.self.inside.cells.items c.self.inside.index c.self.inside.waiting.items c.self.invariant c.args.self.now c.self.view_is c.args.t c.requires

pub write_cell-requires-clause-marked : goal.write_cell-requires-clause-marked
write_cell-requires-clause-marked g c = subst (λ q. AreMarked q (waits_in c.self.inside.cells.items)) (sym c.reserve.ensures.items) c.self.invariant.marked

pub invariant_of-self-2 : goal.invariant_of-self-2
invariant_of-self-2 g c = list_written c.self.inside.places.members c.self.inside.cells.items c.self.inside.index c.self.inside.waiting.items c.self.invariant c.args.t c.args.weight _ _ c.write_cell.ensures.cells c.write_cell.ensures.marked

pub returns-clause-ok : goal.returns-clause-ok
returns-clause-ok g c = ap (entries_in c.self.inside.places.members) c.write_cell.ensures.cells ∙ entries-written c.args.t c.args.weight c.self.inside.places.members c.self.inside.cells.items ∙ ap (changed c.args.t c.args.weight) c.self.view_is
