use Rattle.std.proofs.Common.{◌≡◌, ◌<◌, ℕ, ◌+◌, Bool, true, false, List, [], ◌∷◌, ◌++◌, length, set, refl, sym, ap, ◌∙◌, subst, arith}
use Rattle.std.specs.Prelude.{Some, None, IfSome, slice_get}
use Rattle.weight_tables.specs.Entries.{TableEntry, index_from, is_out_of}
use Rattle.weight_tables.proofs.LayerLemmas.{seen_entry, seen_from, seen_within}
use Rattle.weight_tables.specs.Tables.{entries_of}
use Rattle.weight_tables.proofs.tables.Tables.next_out_of.Goals as goal

pub returns-clause-row : goal.returns-clause-row
returns-clause-row g c = λ e at.
    let d = seen_entry (g.M.Weigher.worth c.self.inside.weigher) _ _ c.self.inside.layers c.args.self.now c.self.view_is c.args.layer c.args.t e at in
    let same : e.place ≡ d.0.place = ap (λ (x : TableEntry _). x.place) d.2 in
    c.next_out_of.ensures.row d.0 (ap (λ es. slice_get es c.args.t) c.list.ensures ∙ d.1)
    ∙ seen_from (g.M.Weigher.worth c.self.inside.weigher) _ _ c.self.inside.layers c.args.self.now c.self.view_is c.args.layer (is_out_of d.0.place.from) (is_out_of d.0.place.from) (λ e. refl) (c.args.t + 1) _ c.list.ensures
    ∙ ap (λ x. index_from (is_out_of x.from) (c.args.t + 1) (entries_of c.args.layer c.args.self.now)) (sym same)

pub returns-clause-within : goal.returns-clause-within
returns-clause-within g c = seen_within (g.M.Weigher.worth c.self.inside.weigher) _ _ c.self.inside.layers c.args.self.now c.self.view_is c.args.layer c.next_out_of.result _ c.list.ensures c.next_out_of.ensures.within
