use Rattle.std.proofs.Common.{◌≡◌, ◌<◌, ℕ, ◌+◌, Bool, true, false, List, [], ◌∷◌, ◌++◌, length, set, refl, sym, ap, ◌∙◌, subst, arith}
use Rattle.std.specs.Prelude.{Some, None, IfSome, slice_get}
use Rattle.semiring_laws.specs.Semiring.{Fits}
use Rattle.weight_tables.specs.Tables.{AreTables}
use Rattle.weight_tables.proofs.LayerLemmas.{hand_fits, list_is}
use Rattle.weight_tables.proofs.tables.Tables.valid.Goals as goal

pub returns-clause-tables : goal.returns-clause-tables
returns-clause-tables g c =
    let fits : (w : _) → (g.M.Weigher.Knows c.self.inside.weigher) w → Fits (g.S.Semiring.operations c.self.inside.system.now.semiring) ((g.M.Weigher.worth c.self.inside.weigher) w) = λ w k. subst (λ q. Fits (g.S.Semiring.operations q.semiring) ((g.M.Weigher.worth c.self.inside.weigher) w)) c.self.invariant.system (g.met.M.Weigher.fits c.self.inside.weigher w k) in
    subst (λ v. AreTables (g.S.Semiring.operations v.system.semiring) v) c.self.view_is (record {
      hand = hand_fits (g.S.Semiring.operations c.self.inside.system.now.semiring) (g.S.Semiring.laws c.self.inside.system.now.semiring) (g.M.Weigher.Knows c.self.inside.weigher) (g.M.Weigher.worth c.self.inside.weigher) fits c.self.inside.hand c.self.invariant.held;
      base = list_is (g.S.Semiring.operations c.self.inside.system.now.semiring) (g.S.Semiring.laws c.self.inside.system.now.semiring) (g.M.Weigher.Knows c.self.inside.weigher) (g.M.Weigher.worth c.self.inside.weigher) fits c.self.inside.layers.base c.self.invariant.layers.base c.len-base.ensures.distinct c.len-base.ensures.few;
      target = list_is (g.S.Semiring.operations c.self.inside.system.now.semiring) (g.S.Semiring.laws c.self.inside.system.now.semiring) (g.M.Weigher.Knows c.self.inside.weigher) (g.M.Weigher.worth c.self.inside.weigher) fits c.self.inside.layers.target c.self.invariant.layers.target c.len-target.ensures.distinct c.len-target.ensures.few;
      walk = list_is (g.S.Semiring.operations c.self.inside.system.now.semiring) (g.S.Semiring.laws c.self.inside.system.now.semiring) (g.M.Weigher.Knows c.self.inside.weigher) (g.M.Weigher.worth c.self.inside.weigher) fits c.self.inside.layers.walk c.self.invariant.layers.walk c.len-walk.ensures.distinct c.len-walk.ensures.few;
    })
