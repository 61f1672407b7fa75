use Rattle.std.proofs.Common.{◌≡◌, ◌<◌, ℕ, ◌+◌, Bool, true, false, List, [], ◌∷◌, ◌++◌, length, set, refl, sym, ap, ◌∙◌, subst, arith}
use Rattle.std.specs.Prelude.{Some, None, IfSome, slice_get}
use Rattle.std.proofs.Common.{rules}
use Rattle.std.proofs.lemmas.Grind.{common_steps}
use Rattle.std.proofs.lemmas.Option.{slice_get_read}
use Rattle.weight_tables.proofs.ListLemmas.{read_below, cell_below}
use Rattle.weight_tables.proofs.CellLemmas.{made-entry}
use Rattle.weight_tables.proofs.ValueLemmas.{there_is}
use Rattle.weight_tables.proofs.entry_list.EntryList.weight.Goals as goal

pub index-requires : goal.index-requires
index-requires g c = let below = cell_below c.self.inside.places.members c.self.inside.cells.items c.self.inside.index c.self.inside.waiting.items c.self.invariant c.args.self.now c.self.view_is c.args.t c.requires in first_of (search rules, grind (arith, common_steps))

pub returns : goal.returns
returns g c =
    let p = there_is c.self.inside.places.members c.args.t (read_below c.self.inside.places.members c.self.inside.cells.items c.self.inside.index c.self.inside.waiting.items c.self.invariant c.args.self.now c.self.view_is c.args.t c.requires) in
    let below = cell_below c.self.inside.places.members c.self.inside.cells.items c.self.inside.index c.self.inside.waiting.items c.self.invariant c.args.self.now c.self.view_is c.args.t c.requires in
    let there : slice_get c.self.inside.cells.items c.args.t ≡ Some c.index.result.now = slice_get_read c.self.inside.cells.items (length c.self.inside.cells.items) c.args.t c.index.result.now refl below c.index.ensures in
    (record { place = p.0; weight = c.index.result.now.weight; waits = c.index.result.now.waits }, ap (λ es. slice_get es c.args.t) (sym c.self.view_is) ∙ made-entry c.self.inside.places.members c.self.inside.cells.items c.args.t p.0 c.index.result.now p.1 there, refl)
