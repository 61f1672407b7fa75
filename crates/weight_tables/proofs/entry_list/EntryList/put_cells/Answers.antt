use Rattle.std.proofs.Common.{refl}
use Rattle.weight_tables.proofs.ListLemmas.{list_put, entries_put}
use Rattle.weight_tables.proofs.entry_list.EntryList.put_cells.Goals as goal

pub invariant_of-self : goal.invariant_of-self
invariant_of-self g c = list_put c.self.inside.places.members c.self.inside.cells.items c.self.inside.index c.self.inside.waiting.items c.self.invariant c.args.self.now c.self.view_is c.args.cells.items _ c.requires refl

pub returns : goal.returns
returns g c = entries_put c.self.inside.places.members c.self.inside.cells.items c.self.inside.index c.self.inside.waiting.items c.self.invariant c.args.self.now c.self.view_is c.args.cells.items _ refl
