use Rattle.std.proofs.Common.{◌≡◌, ◌<◌, ◌^◌, ℕ, ◌+◌, Bool, true, false, List, [], ◌∷◌, ◌++◌, length, set, refl, sym, ap, ◌∙◌, subst, arith}
use Rattle.std.specs.Prelude.{Some, None, IfSome, slice_get}
use Rattle.weight_tables.specs.Entries.{index_at}
use Rattle.weight_tables.proofs.ListLemmas.{list_indexed, list_added, entries_added}
use Rattle.weight_tables.specs.private.Marks.{AreMarked}
use Rattle.weight_tables.specs.declared.cell.Cell.{Cell}
use Rattle.weight_tables.specs.private.Cells.{waits_in, entries_in}
use Rattle.weight_tables.proofs.entry_list.EntryList.add.Goals as goal

pub invariant_of-self : goal.invariant_of-self
invariant_of-self g c = list_indexed c.self.inside.places.members c.self.inside.cells.items c.self.inside.index c.self.inside.waiting.items c.self.invariant _ _ _ _ refl c.reserve.ensures.items c.self.invariant.indexed refl

pub invariant_of-self-in_err-reserve-2 : goal.invariant_of-self-in_err-reserve-2
invariant_of-self-in_err-reserve-2 g c = list_indexed c.self.inside.places.members c.self.inside.cells.items c.self.inside.index c.self.inside.waiting.items c.self.invariant _ _ _ _ refl c.reserve.ensures.items c.self.invariant.indexed c.reserve-2.ensures.items

pub invariant_of-self-in_err-reserve-3 : goal.invariant_of-self-in_err-reserve-3
invariant_of-self-in_err-reserve-3 g c = list_indexed c.self.inside.places.members c.self.inside.cells.items c.self.inside.index c.self.inside.waiting.items c.self.invariant _ _ _ _ refl c.reserve.ensures.items (c.reserve-3.ensures.rows _ c.self.invariant.indexed) c.reserve-2.ensures.items

pub invariant_of-self-in_err-append : goal.invariant_of-self-in_err-append
invariant_of-self-in_err-append g c = list_indexed c.self.inside.places.members c.self.inside.cells.items c.self.inside.index c.self.inside.waiting.items c.self.invariant _ _ _ _ c.in_err-append.ensures.stays c.reserve.ensures.items (c.reserve-3.ensures.rows _ c.self.invariant.indexed) c.reserve-2.ensures.items

pub invariant_of-self-2 : goal.invariant_of-self-2
invariant_of-self-2 g c =
    list_added c.self.inside.places.members c.self.inside.cells.items c.self.inside.index c.self.inside.waiting.items c.self.invariant c.args.place (record { weight = c.args.weight; waits = true }) refl (ap (index_at c.args.place) c.self.view_is ∙ c.requires) _ _ _ _ _
    c.in_ok-append.ensures.members (c.push_reserved.ensures.items ∙ ap (λ cs. cs ++ (record { weight = c.args.weight; waits = true }) ∷ []) c.reserve.ensures.items)
    (c.add.ensures _ (c.reserve-3.ensures.rows _ c.self.invariant.indexed)) c.len-number.ensures.len
    (c.push_back_reserved.ensures.items ∙ ap (λ q. q ++ c.len-number.result ∷ []) c.reserve-2.ensures.items)
    (subst (λ n. n < 2 ^ 32) c.len-count.ensures.len c.len-count.ensures.few)

pub returns-clause-ok : goal.returns-clause-ok
returns-clause-ok g c =
    entries_added c.self.inside.places.members c.self.inside.cells.items c.self.inside.index c.self.inside.waiting.items c.self.invariant c.args.place (record { weight = c.args.weight; waits = true }) _ _ c.in_ok-append.ensures.members (c.push_reserved.ensures.items ∙ ap (λ cs. cs ++ (record { weight = c.args.weight; waits = true }) ∷ []) c.reserve.ensures.items)
    ∙ ap (λ es. es ++ record { place = c.args.place; weight = c.args.weight; waits = true } ∷ []) c.self.view_is
