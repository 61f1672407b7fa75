use Rattle.std.proofs.Common.{◌≡◌, ◌<◌, ℕ, ◌+◌, Bool, true, false, List, [], ◌∷◌, ◌++◌, length, set, refl, sym, ap, ◌∙◌, subst, arith}
use Rattle.std.specs.Prelude.{Some, None, IfSome, slice_get}
use Rattle.std.proofs.lemmas.Result.{IfOk-weaker}
use Rattle.weighted_automata.specs.Places.{same_place}
use Rattle.weight_tables.specs.Tables.{entries_of}
use Rattle.weight_tables.proofs.EntryLemmas.{weight_at_index, none_weight}
use Rattle.weight_tables.specs.private.Kept.{valued_entry}
use Rattle.weight_tables.proofs.LayerLemmas.{seen_where, entry_seen}
use Rattle.weight_tables.proofs.tables.Tables.value.Goals as goal

pub returns-in-Some : goal.returns-in-Some
returns-in-Some g c =
    let x = c.weight.ensures in
    let es = entries_of c.args.layer c.args.self.now in
    let at = c.in-Some.ensures.number ∙ seen_where (g.M.Weigher.worth c.self.inside.weigher) _ _ c.self.inside.layers c.args.self.now c.self.view_is c.args.layer (λ e. same_place e.place c.args.place) (λ e. same_place e.place c.args.place) (λ e. refl) _ c.list-list.ensures in
    let there = entry_seen (g.M.Weigher.worth c.self.inside.weigher) _ _ c.self.inside.layers c.args.self.now c.self.view_is c.args.layer c.in-Some.t x.0 (ap (λ es. slice_get es c.in-Some.t) (sym c.list-list.ensures) ∙ x.1) in
    let is = (weight_at_index (g.S.Semiring.operations c.args.self.now.system.semiring) c.args.place es c.in-Some.t (valued_entry (g.M.Weigher.worth c.self.inside.weigher) x.0) (sym at) there).0 in
    IfOk-weaker c.value.result _ _ (λ w e. e ∙ ap (g.M.Weigher.worth c.self.inside.weigher) x.2 ∙ sym is) c.value.ensures

pub returns-in-None : goal.returns-in-None
returns-in-None g c =
    let sys : g.M.Weigher.pushdown c.self.inside.weigher ≡ c.args.self.now.system = c.self.invariant.system ∙ ap (λ v. v.system) c.self.view_is in
    let es = entries_of c.args.layer c.args.self.now in
    let at = c.in-None.ensures.number ∙ seen_where (g.M.Weigher.worth c.self.inside.weigher) _ _ c.self.inside.layers c.args.self.now c.self.view_is c.args.layer (λ e. same_place e.place c.args.place) (λ e. same_place e.place c.args.place) (λ e. refl) _ c.list-list.ensures in
    IfOk-weaker c.no_value.result _ _ (λ w e. e ∙ ap (λ q. (g.S.Semiring.operations q.semiring).zero) sys ∙ sym (none_weight (g.S.Semiring.operations c.args.self.now.system.semiring) c.args.place es (sym at))) c.no_value.ensures
