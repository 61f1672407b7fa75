use Rattle.std.proofs.Common.{◌≡◌, ◌<◌, ℕ, ◌+◌, Bool, true, false, List, [], ◌∷◌, ◌++◌, length, set, refl, sym, ap, ◌∙◌, subst, arith}
use Rattle.std.specs.Prelude.{Some, None, IfSome, slice_get}
use Rattle.std.proofs.lemmas.Result.{on_ok_weaker}
use Rattle.semiring_laws.specs.Semiring.{Fits}
use Rattle.weight_tables.specs.Tables.{entries_of}
use Rattle.weight_tables.specs.private.Kept.{worth_or, tables_of, valued_layers}
use Rattle.weight_tables.proofs.ValueLemmas.{known_at}
use Rattle.weight_tables.proofs.LayerLemmas.{layer_fits, layers_grown, zero_seen, lowered_seen, extended_is, seen_weight, hand_grown, held_grown}
use Rattle.weight_tables.proofs.tables.Tables.lower_after.Goals as goal

pub returns-in_ok-w-in-Some-clause-ok : goal.returns-in_ok-w-in-Some-clause-ok
returns-in_ok-w-in-Some-clause-ok g c =
    let grows = c.extend.ensures.grows in
    let mid = g.M.Weigher.worth c.extend.new.self in
    let zero = (g.S.Semiring.operations c.self.inside.system.now.semiring).zero in
    let p = c.self.inside.system.now in
    let sys : g.M.Weigher.pushdown c.self.inside.weigher ≡ c.args.self.now.system = c.self.invariant.system ∙ ap (λ v. v.system) c.self.view_is in
    let same_hand = sym (ap (worth_or ((g.S.Semiring.operations c.self.inside.system.now.semiring).zero) (g.M.Weigher.worth c.self.inside.weigher)) c.in-Some.is) ∙ ap (λ v. v.hand) c.self.view_is in
    let is_mid : tables_of p (worth_or zero (g.M.Weigher.worth c.self.inside.weigher) c.self.inside.hand) (valued_layers mid c.self.inside.layers) ≡ c.args.self.now =
    ap (tables_of p (worth_or zero (g.M.Weigher.worth c.self.inside.weigher) c.self.inside.hand)) (layers_grown grows c.self.inside.layers c.self.invariant.layers) ∙ c.self.view_is in
    let same_s = ap (λ q. g.S.Semiring.operations q.semiring) (grows.system ∙ sys) in
    let held = hand_grown c.lower.ensures.grows zero c.self.inside.hand (held_grown grows c.self.inside.hand c.self.invariant.held) ∙ hand_grown grows zero c.self.inside.hand c.self.invariant.held in
    on_ok_weaker c.lower.result (λ is. λ e at. lowered_seen mid p (worth_or zero (g.M.Weigher.worth c.self.inside.weigher) c.self.inside.hand) c.self.inside.layers c.args.self.now is_mid c.args.layer c.args.place _ _ same_s _ _
    (extended_is g.S.Semiring.operations sys c.in_ok-w-in-Some.ensures.worth (seen_weight (g.M.Weigher.worth c.self.inside.weigher) _ _ c.self.inside.layers c.args.self.now c.self.view_is c.args.of c.args.t e at c.weight.result.now c.weight.ensures) same_hand) _ is _ held) c.lower.ensures.ok

pub returns-in-None-clause-ok : goal.returns-in-None-clause-ok
returns-in-None-clause-ok g c = λ e at.
    let sys : g.M.Weigher.pushdown c.self.inside.weigher ≡ c.args.self.now.system = c.self.invariant.system ∙ ap (λ v. v.system) c.self.view_is in
    let fits : (w : _) → (g.M.Weigher.Knows c.self.inside.weigher) w → Fits (g.S.Semiring.operations c.args.self.now.system.semiring) ((g.M.Weigher.worth c.self.inside.weigher) w) = (λ w k. subst (λ q. Fits (g.S.Semiring.operations q.semiring) ((g.M.Weigher.worth c.self.inside.weigher) w)) sys (g.met.M.Weigher.fits c.self.inside.weigher w k)) in
    let none : c.args.self.now.hand ≡ (g.S.Semiring.operations c.args.self.now.system.semiring).zero =
    ap (λ v. v.hand) (sym c.self.view_is) ∙ ap (worth_or ((g.S.Semiring.operations c.self.inside.system.now.semiring).zero) (g.M.Weigher.worth c.self.inside.weigher)) c.in-None.is ∙ ap (λ v. (g.S.Semiring.operations v.system.semiring).zero) c.self.view_is in
    let one : Fits (g.S.Semiring.operations c.args.self.now.system.semiring) e.weight = known_at (Fits (g.S.Semiring.operations c.args.self.now.system.semiring)) (entries_of c.args.of c.args.self.now) c.args.t e (layer_fits (g.S.Semiring.operations c.args.self.now.system.semiring) (g.S.Semiring.laws c.args.self.now.system.semiring) (g.M.Weigher.Knows c.self.inside.weigher) (g.M.Weigher.worth c.self.inside.weigher) fits _ _ c.self.inside.layers c.args.self.now c.self.view_is c.self.invariant.layers c.args.of) at in
    zero_seen (g.S.Semiring.operations c.args.self.now.system.semiring) (g.S.Semiring.laws c.args.self.now.system.semiring) c.args.layer c.args.place c.args.self.now (layer_fits (g.S.Semiring.operations c.args.self.now.system.semiring) (g.S.Semiring.laws c.args.self.now.system.semiring) (g.M.Weigher.Knows c.self.inside.weigher) (g.M.Weigher.worth c.self.inside.weigher) fits _ _ c.self.inside.layers c.args.self.now c.self.view_is c.self.invariant.layers c.args.layer) ((g.S.Semiring.operations c.args.self.now.system.semiring).extend e.weight c.args.self.now.hand) (ap (λ h. (g.S.Semiring.operations c.args.self.now.system.semiring).extend e.weight h) none ∙ (g.S.Semiring.laws c.args.self.now.system.semiring).extend-zero_right e.weight one)
