use Rattle.std.proofs.Common.{◌≡◌, ◌<◌, ℕ, ◌+◌, Bool, true, false, List, [], ◌∷◌, ◌++◌, length, set, refl, sym, ap, ◌∙◌, subst, arith}
use Rattle.std.specs.Prelude.{Some, None, IfSome, slice_get}
use Rattle.weight_tables.specs.Entries.{index_at}
use Rattle.weight_tables.proofs.ListLemmas.{list_length, list_found}
use Rattle.weight_tables.proofs.entry_list.EntryList.find.Goals as goal

pub returns-clause-number : goal.returns-clause-number
returns-clause-number g c = c.find.ensures.number ∙ list_found c.self.inside.places.members c.self.inside.cells.items c.self.inside.index c.self.inside.waiting.items c.self.invariant c.args.place ∙ ap (index_at c.args.place) c.self.view_is

pub returns-clause-within : goal.returns-clause-within
returns-clause-within g c = subst (λ n. IfSome c.find.result (λ t. t < n)) (sym (list_length c.self.inside.places.members c.self.inside.cells.items c.self.inside.index c.self.inside.waiting.items c.self.invariant) ∙ ap length c.self.view_is) c.find.ensures.within
