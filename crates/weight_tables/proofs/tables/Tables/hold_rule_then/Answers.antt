use Rattle.std.proofs.Common.{◌≡◌, ◌<◌, ℕ, ◌+◌, Bool, true, false, List, [], ◌∷◌, ◌++◌, length, set, refl, sym, ap, ◌∙◌, subst, arith}
use Rattle.std.specs.Prelude.{Some, None, IfSome, slice_get}
use Rattle.pushdown_rules.specs.Pushdown.{Pushdown}
use Rattle.weight_tables.specs.private.Layered.{list_of}
use Rattle.weight_tables.proofs.ValueLemmas.{known_at}
use Rattle.weight_tables.proofs.LayerLemmas.{known_list, seen_below, seen_weight, kept_grown, kept_taken, layers_grown, hand_written}
use Rattle.weight_tables.proofs.tables.Tables.hold_rule_then.Goals as goal

pub weight-requires : goal.weight-requires
weight-requires g c = seen_below (g.M.Weigher.worth c.self.inside.weigher) _ _ c.self.inside.layers c.args.self.now c.self.view_is c.args.layer c.args.t c.requires.entry

pub rule_then-requires-clause-rule : goal.rule_then-requires-clause-rule
rule_then-requires-clause-rule g c = let sys : g.M.Weigher.pushdown c.self.inside.weigher ≡ c.args.self.now.system = c.self.invariant.system ∙ ap (λ v. v.system) c.self.view_is in
    subst (λ (q : Pushdown _ _ _). c.args.k < length q.rules) (sym sys) c.requires.rule

pub rule_then-requires-clause-weight : goal.rule_then-requires-clause-weight
rule_then-requires-clause-weight g c =
    let Known = g.M.Weigher.Knows c.self.inside.weigher in
    let x = c.weight.ensures in
    subst Known (sym x.2) (known_at Known (list_of c.args.layer c.self.inside.layers) c.args.t x.0 (known_list Known c.self.inside.layers c.self.invariant.layers c.args.layer) x.1)

pub invariant_of-self : goal.invariant_of-self
invariant_of-self g c = kept_grown c.rule_then.ensures.grows _ _ _ c.self.invariant

pub invariant_of-self-2 : goal.invariant_of-self-2
invariant_of-self-2 g c = kept_taken c.rule_then.ensures.grows _ _ _ c.self.invariant c.in_ok-w.w c.in_ok-w.ensures.known

pub returns-clause-ok : goal.returns-clause-ok
returns-clause-ok g c = λ r there e at.
    let old = g.M.Weigher.worth c.self.inside.weigher in
    let new = g.M.Weigher.worth c.rule_then.new.self in
    let sys : g.M.Weigher.pushdown c.self.inside.weigher ≡ c.args.self.now.system = c.self.invariant.system ∙ ap (λ v. v.system) c.self.view_is in
    hand_written old new _ _ c.self.inside.layers c.args.self.now c.self.view_is (layers_grown c.rule_then.ensures.grows c.self.inside.layers c.self.invariant.layers) (new c.in_ok-w.w) _
    (c.in_ok-w.ensures.worth r (ap (λ q. slice_get q.rules c.args.k) sys ∙ there) ∙ ap (λ q. (g.S.Semiring.operations q.semiring).extend r.weight (old c.weight.result.now)) sys ∙ ap (λ x. (g.S.Semiring.operations c.args.self.now.system.semiring).extend r.weight x) (seen_weight (g.M.Weigher.worth c.self.inside.weigher) _ _ c.self.inside.layers c.args.self.now c.self.view_is c.args.layer c.args.t e at c.weight.result.now c.weight.ensures))
