use Rattle.std.proofs.Common.{◌≡◌, ◌<◌, ℕ, ◌+◌, Bool, true, false, List, [], ◌∷◌, ◌++◌, length, set, refl, sym, ap, ◌∙◌, subst, arith}
use Rattle.std.specs.Prelude.{Some, None, IfSome, slice_get}
use Rattle.std.proofs.Common.{rules}
use Rattle.std.proofs.lemmas.Grind.{common_steps}
use Rattle.weight_tables.proofs.ListLemmas.{read_made, cell_below}
use Rattle.std.proofs.lemmas.Option.{same_Some, slice_get_read}
use Rattle.weight_tables.specs.declared.cell.Cell.{Cell}
use Rattle.weight_tables.proofs.entry_list.EntryList.waits.Goals as goal

pub index-requires : goal.index-requires
index-requires g c = let below = cell_below c.self.inside.places.members c.self.inside.cells.items c.self.inside.index c.self.inside.waiting.items c.self.invariant c.args.self.now c.self.view_is c.args.t c.requires in first_of (search rules, grind (arith, common_steps))

pub returns : goal.returns
returns g c = λ e at.
    let made = read_made c.self.inside.places.members c.self.inside.cells.items c.self.inside.index c.self.inside.waiting.items c.self.invariant c.args.self.now c.self.view_is c.args.t e at in
    let below = cell_below c.self.inside.places.members c.self.inside.cells.items c.self.inside.index c.self.inside.waiting.items c.self.invariant c.args.self.now c.self.view_is c.args.t c.requires in
    let there : slice_get c.self.inside.cells.items c.args.t ≡ Some c.index.result.now = slice_get_read c.self.inside.cells.items (length c.self.inside.cells.items) c.args.t c.index.result.now refl below c.index.ensures in
    ap (λ (o : Cell _). o.waits) (same_Some c.index.result.now made.cell (sym there ∙ made.there)) ∙ sym made.waits
