use Rattle.std.proofs.Common.{◌≡◌, ◌<◌, ℕ, ◌+◌, Bool, true, false, List, [], ◌∷◌, ◌++◌, length, set, refl, sym, ap, ◌∙◌, subst, arith}
use Rattle.std.specs.Prelude.{Some, None, IfSome, slice_get}
use Rattle.weight_tables.specs.private.Kept.{worth_or}
use Rattle.weight_tables.proofs.LayerLemmas.{layers_grown, hand_written, returned_is}
use Rattle.weight_tables.proofs.tables.Tables.return_hand.Goals as goal

pub returns-in_ok-w-in-Some-clause-ok : goal.returns-in_ok-w-in-Some-clause-ok
returns-in_ok-w-in-Some-clause-ok g c = λ r there.
    let new = g.M.Weigher.worth c.returned.new.self in
    let sys : g.M.Weigher.pushdown c.self.inside.weigher ≡ c.args.self.now.system = c.self.invariant.system ∙ ap (λ v. v.system) c.self.view_is in
    let same_hand = sym (ap (worth_or ((g.S.Semiring.operations c.self.inside.system.now.semiring).zero) (g.M.Weigher.worth c.self.inside.weigher)) c.in-Some.is) ∙ ap (λ v. v.hand) c.self.view_is in
    hand_written (g.M.Weigher.worth c.self.inside.weigher) new _ _ c.self.inside.layers c.args.self.now c.self.view_is (layers_grown c.returned.ensures.grows c.self.inside.layers c.self.invariant.layers) (new c.in_ok-w-in-Some.w) _
    (returned_is g.S.Semiring.operations sys r.map (c.in_ok-w-in-Some.ensures.worth r (ap (λ q. slice_get q.rules c.args.k) sys ∙ there)) same_hand)
