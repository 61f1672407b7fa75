use Rattle.std.proofs.Common.{◌≡◌, ◌<◌, ℕ, ◌+◌, Bool, true, false, List, [], ◌∷◌, ◌++◌, length, set, refl, sym, ap, ◌∙◌, subst, arith}
use Rattle.std.specs.Prelude.{Some, None, IfSome, slice_get}
use Rattle.semiring_laws.specs.Semiring.{Fits}
use Rattle.weight_tables.specs.Tables.{with_hand}
use Rattle.weight_tables.specs.private.Kept.{worth_or, tables_of, valued_layers}
use Rattle.weight_tables.proofs.LayerLemmas.{layer_fits, zero_seen}
use Rattle.weight_tables.proofs.tables.Tables.put.Goals as goal

pub returns-in-None-clause-ok : goal.returns-in-None-clause-ok
returns-in-None-clause-ok g c =
    let sys : g.M.Weigher.pushdown c.self.inside.weigher ≡ c.args.self.now.system = c.self.invariant.system ∙ ap (λ v. v.system) c.self.view_is in
    let fits : (w : _) → (g.M.Weigher.Knows c.self.inside.weigher) w → Fits (g.S.Semiring.operations c.args.self.now.system.semiring) ((g.M.Weigher.worth c.self.inside.weigher) w) = (λ w k. subst (λ q. Fits (g.S.Semiring.operations q.semiring) ((g.M.Weigher.worth c.self.inside.weigher) w)) sys (g.met.M.Weigher.fits c.self.inside.weigher w k)) in
    let was : c.self.inside.hand ≡ None = sym c.in-None.ensures.value in
    let none : c.args.self.now.hand ≡ (g.S.Semiring.operations c.args.self.now.system.semiring).zero =
    ap (λ v. v.hand) (sym c.self.view_is) ∙ ap (worth_or ((g.S.Semiring.operations c.self.inside.system.now.semiring).zero) (g.M.Weigher.worth c.self.inside.weigher)) was ∙ ap (λ v. (g.S.Semiring.operations v.system.semiring).zero) c.self.view_is in
    ap (λ h. tables_of c.self.inside.system.now (worth_or ((g.S.Semiring.operations c.self.inside.system.now.semiring).zero) (g.M.Weigher.worth c.self.inside.weigher) h) (valued_layers (g.M.Weigher.worth c.self.inside.weigher) c.self.inside.layers)) c.in-None.ensures.after
    ∙ ap (λ v. with_hand ((g.S.Semiring.operations v.system.semiring).zero) v) c.self.view_is
    ∙ ap (with_hand (g.S.Semiring.operations c.args.self.now.system.semiring).zero) (zero_seen (g.S.Semiring.operations c.args.self.now.system.semiring) (g.S.Semiring.laws c.args.self.now.system.semiring) c.args.layer c.args.place c.args.self.now (layer_fits (g.S.Semiring.operations c.args.self.now.system.semiring) (g.S.Semiring.laws c.args.self.now.system.semiring) (g.M.Weigher.Knows c.self.inside.weigher) (g.M.Weigher.worth c.self.inside.weigher) fits _ _ c.self.inside.layers c.args.self.now c.self.view_is c.self.invariant.layers c.args.layer) _ none)
