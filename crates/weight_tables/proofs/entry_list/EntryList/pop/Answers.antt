use Rattle.std.proofs.Common.{◌≡◌, ◌<◌, ℕ, ◌+◌, Bool, true, false, List, [], ◌∷◌, ◌++◌, length, set, refl, sym, ap, ◌∙◌, subst, arith}
use Rattle.std.specs.Prelude.{Some, None, IfSome, slice_get}
use Rattle.weight_tables.specs.Entries.{taken}
use Rattle.weight_tables.proofs.ListLemmas.{list_popped, waiting_entry, waiting_below, none_waiting}
use Rattle.weight_tables.proofs.LayerLemmas.{if_none, if_some, both_some}
use Rattle.weight_tables.proofs.CellLemmas.{entries-cleared}
use Rattle.weight_tables.specs.private.Cells.{entries_in}
use Rattle.std.specs.Prelude.{IfNone}
use Rattle.weight_tables.proofs.entry_list.EntryList.pop.Goals as goal

pub take_cell-requires : goal.take_cell-requires
take_cell-requires g c = c.self.invariant.marked

pub invariant_of-self : goal.invariant_of-self
invariant_of-self g c = list_popped c.self.inside.places.members c.self.inside.cells.items c.self.inside.index c.self.inside.waiting.items c.self.invariant c.take_cell.result _ _ c.take_cell.ensures.stays c.take_cell.ensures.cells c.take_cell.ensures.marked

pub returns-clause-none : goal.returns-clause-none
returns-clause-none g c = if_none c.take_cell.result (none_waiting c.self.inside.places.members c.self.inside.cells.items c.self.inside.index c.self.inside.waiting.items c.self.invariant c.args.self.now c.self.view_is) c.take_cell.ensures.none

pub returns-clause-stays : goal.returns-clause-stays
returns-clause-stays g c = if_none c.take_cell.result (λ e. ap (entries_in c.self.inside.places.members) e ∙ c.self.view_is) c.take_cell.ensures.stays

pub returns-clause-entry : goal.returns-clause-entry
returns-clause-entry g c = if_some c.take_cell.result (waiting_entry c.self.inside.places.members c.self.inside.cells.items c.self.inside.index c.self.inside.waiting.items c.self.invariant c.args.self.now c.self.view_is) c.take_cell.ensures.waited

pub returns-clause-within : goal.returns-clause-within
returns-clause-within g c = both_some c.take_cell.result (λ t at now. waiting_below c.self.inside.places.members c.self.inside.cells.items c.self.inside.index c.self.inside.waiting.items c.self.invariant t at _ now) c.take_cell.ensures.waited c.take_cell.ensures.cells

pub returns-clause-taken : goal.returns-clause-taken
returns-clause-taken g c = if_some c.take_cell.result (λ t e. ap (entries_in c.self.inside.places.members) e ∙ entries-cleared t c.self.inside.places.members c.self.inside.cells.items ∙ ap (taken t) c.self.view_is) c.take_cell.ensures.cells
