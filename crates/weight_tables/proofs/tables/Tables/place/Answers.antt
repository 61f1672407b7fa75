use Rattle.std.proofs.Common.{◌≡◌, ◌<◌, ℕ, ◌+◌, Bool, true, false, List, [], ◌∷◌, ◌++◌, length, set, refl, sym, ap, ◌∙◌, subst, arith}
use Rattle.std.specs.Prelude.{Some, None, IfSome, slice_get}
use Rattle.weight_tables.specs.Entries.{TableEntry}
use Rattle.weight_tables.proofs.LayerLemmas.{seen_entry, seen_below}
use Rattle.weight_tables.proofs.tables.Tables.place.Goals as goal

pub place-requires : goal.place-requires
place-requires g c = subst (λ (es : List (TableEntry _)). c.args.t < length es) (sym c.list.ensures) (seen_below (g.M.Weigher.worth c.self.inside.weigher) _ _ c.self.inside.layers c.args.self.now c.self.view_is c.args.layer c.args.t c.requires)

pub returns : goal.returns
returns g c = λ e at.
    let d = seen_entry (g.M.Weigher.worth c.self.inside.weigher) _ _ c.self.inside.layers c.args.self.now c.self.view_is c.args.layer c.args.t e at in
    c.place.ensures d.0 (ap (λ es. slice_get es c.args.t) c.list.ensures ∙ d.1) ∙ sym (ap (λ (x : TableEntry _). x.place) d.2)
