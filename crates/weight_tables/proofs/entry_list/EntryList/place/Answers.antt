use Rattle.std.proofs.Common.{◌≡◌, ◌<◌, ℕ, ◌+◌, Bool, true, false, List, [], ◌∷◌, ◌++◌, length, set, refl, sym, ap, ◌∙◌, subst, arith}
use Rattle.std.specs.Prelude.{Some, None, IfSome, slice_get}
use Rattle.weight_tables.proofs.ListLemmas.{read_made, read_below}
use Rattle.std.proofs.lemmas.Option.{same_Some}
use Rattle.weight_tables.proofs.entry_list.EntryList.place.Goals as goal

pub get-requires : goal.get-requires
get-requires g c = read_below c.self.inside.places.members c.self.inside.cells.items c.self.inside.index c.self.inside.waiting.items c.self.invariant c.args.self.now c.self.view_is c.args.t c.requires

pub returns : goal.returns
returns g c = λ e at.
    let made = read_made c.self.inside.places.members c.self.inside.cells.items c.self.inside.index c.self.inside.waiting.items c.self.invariant c.args.self.now c.self.view_is c.args.t e at in
    same_Some c.get.result.now e.place (sym c.get.ensures ∙ made.place)
