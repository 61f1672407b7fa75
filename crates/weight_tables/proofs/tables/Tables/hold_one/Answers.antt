use Rattle.std.proofs.Common.{◌≡◌, ◌<◌, ℕ, ◌+◌, Bool, true, false, List, [], ◌∷◌, ◌++◌, length, set, refl, sym, ap, ◌∙◌, subst, arith}
use Rattle.std.specs.Prelude.{Some, None, IfSome, slice_get}
use Rattle.weight_tables.proofs.LayerLemmas.{kept_grown, kept_taken, layers_grown, hand_written}
use Rattle.weight_tables.proofs.tables.Tables.hold_one.Goals as goal

pub invariant_of-self : goal.invariant_of-self
invariant_of-self g c = kept_grown c.one.ensures.grows _ _ _ c.self.invariant

pub invariant_of-self-2 : goal.invariant_of-self-2
invariant_of-self-2 g c = kept_taken c.one.ensures.grows _ _ _ c.self.invariant c.in_ok-w.w c.in_ok-w.ensures.known

pub returns-clause-ok : goal.returns-clause-ok
returns-clause-ok g c =
    let old = g.M.Weigher.worth c.self.inside.weigher in
    let new = g.M.Weigher.worth c.one.new.self in
    let sys : g.M.Weigher.pushdown c.self.inside.weigher ≡ c.args.self.now.system = c.self.invariant.system ∙ ap (λ v. v.system) c.self.view_is in
    hand_written old new _ _ c.self.inside.layers c.args.self.now c.self.view_is (layers_grown c.one.ensures.grows c.self.inside.layers c.self.invariant.layers) (new c.in_ok-w.w) _
    (c.in_ok-w.ensures.worth ∙ ap (λ q. (g.S.Semiring.operations q.semiring).one) sys)
