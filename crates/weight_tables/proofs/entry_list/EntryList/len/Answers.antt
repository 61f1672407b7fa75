use Rattle.std.proofs.Common.{◌≡◌, ◌<◌, ◌^◌, ℕ, ◌+◌, Bool, true, false, List, [], ◌∷◌, ◌++◌, length, set, refl, sym, ap, ◌∙◌, subst, arith}
use Rattle.std.specs.Prelude.{Some, None, IfSome, slice_get}
use Rattle.weight_tables.specs.Entries.{HasDistinctPlaces}
use Rattle.weight_tables.proofs.ListLemmas.{list_length}
use Rattle.weight_tables.proofs.CellLemmas.{distinct-entries}
use Rattle.weight_tables.proofs.entry_list.EntryList.len.Goals as goal

pub returns-clause-len : goal.returns-clause-len
returns-clause-len g c = c.len.ensures.len ∙ sym (list_length c.self.inside.places.members c.self.inside.cells.items c.self.inside.index c.self.inside.waiting.items c.self.invariant) ∙ ap length c.self.view_is

pub returns-clause-few : goal.returns-clause-few
returns-clause-few g c = subst (λ n. n < 2 ^ 32) (sym (list_length c.self.inside.places.members c.self.inside.cells.items c.self.inside.index c.self.inside.waiting.items c.self.invariant) ∙ ap length c.self.view_is) c.self.invariant.few

pub returns-clause-distinct : goal.returns-clause-distinct
returns-clause-distinct g c = subst HasDistinctPlaces c.self.view_is (distinct-entries c.self.inside.places.members c.self.inside.cells.items c.self.invariant.long c.self.invariant.distinct)
