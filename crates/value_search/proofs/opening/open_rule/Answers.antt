use Rattle.std.proofs.Common.{◌≡◌, [], arith, sym, ◌∙◌, subst}
use Rattle.std.specs.Prelude.{None}
use Rattle.std.proofs.lemmas.List.{nil_from_length}
use Rattle.semiring_laws.specs.Semiring.{Below}
use Rattle.pushdown_rules.specs.Values.{value_of}
use Rattle.pushdown_rules.proofs.CallerLemmas.{weight_fits}
use Rattle.value_laws.specs.Runs.{Pops, Sums}
use Rattle.value_laws.proofs.CallerLemmas.{pop_sums}
use Rattle.value_search.specs.Views.{weights}
use Rattle.value_search.proofs.HandLemmas.{at_rule, hand_of, rule_hand, rule_within}
use Rattle.value_search.proofs.OnwardLemmas.{held_onward, onward_then, onward_itself}
use Rattle.value_search.proofs.opening.open_rule.Goals as goal

pub hold_rule-requires : goal.hold_rule-requires
hold_rule-requires g c = rule_within c.args.tables.now.system c.args.system.now c.requires.search.same c.args.k c.requires.rule

pub give-requires-clause-search : goal.give-requires-clause-search
give-requires-clause-search g c =
    let p = c.args.system.now in
    let law = g.S.Semiring.laws p.semiring in
    let valid = c.semiring-semiring.ensures.valid in
    let r = c.rule-rule.result.now in
    let there = c.rule-rule.ensures.rule in
    let old = c.args.tables.now in
    let mid = c.hold_rule.new.self in
    (held_onward valid law None old mid r.weight c.requires.search (weight_fits valid law c.args.k r there)
    (rule_hand old.system p c.requires.search.same c.args.k old mid c.in_ok-hold_rule-in-empty.ensures.ok r there)).search

pub give-requires-clause-sums : goal.give-requires-clause-sums
give-requires-clause-sums g c =
    let p = c.args.system.now in
    let s = g.S.Semiring.operations p.semiring in
    let law = g.S.Semiring.laws p.semiring in
    let valid = c.semiring-semiring.ensures.valid in
    let r = c.rule-rule.result.now in
    let there = c.rule-rule.ensures.rule in
    let old = c.args.tables.now in
    let mid = c.hold_rule.new.self in
    let made = rule_hand old.system p c.requires.search.same c.args.k old mid c.in_ok-hold_rule-in-empty.ensures.ok r there in
    let none : r.right ≡ [] = sym c.as_slice.ensures ∙ nil_from_length c.as_slice.result.now (omega (arith, c.in-empty.len_below)) in
    let Q : g.row.S-W.Denot → Type 0 = λ w. Sums s (value_of s p) (Pops p r.control r.symbol r.to) w in
    at_rule p.rules c.args.k r there (λ x. Sums s (value_of s p) (Pops p x.control x.symbol r.to) mid.hand)
    (subst Q (sym (hand_of r.weight old mid old made)) (pop_sums valid law c.args.k r there none))

pub returns-in_ok-give-in-empty-clause-onward : goal.returns-in_ok-give-in-empty-clause-onward
returns-in_ok-give-in-empty-clause-onward g c =
    let p = c.args.system.now in
    let law = g.S.Semiring.laws p.semiring in
    let valid = c.semiring-semiring.ensures.valid in
    let r = c.rule-rule.result.now in
    let there = c.rule-rule.ensures.rule in
    let old = c.args.tables.now in
    let mid = c.hold_rule.new.self in
    onward_then valid law None old mid c.give.new.tables c.requires.search (held_onward valid law None old mid r.weight c.requires.search (weight_fits valid law c.args.k r there)
    (rule_hand old.system p c.requires.search.same c.args.k old mid c.in_ok-hold_rule-in-empty.ensures.ok r there)) c.in_ok-give-in-empty.ensures.onward

pub returns-in_ok-give-in-empty-clause-given : goal.returns-in_ok-give-in-empty-clause-given
returns-in_ok-give-in-empty-clause-given g c =
    let p = c.args.system.now in
    let s = g.S.Semiring.operations p.semiring in
    let r = c.rule-rule.result.now in
    let there = c.rule-rule.ensures.rule in
    let old = c.args.tables.now in
    let mid = c.hold_rule.new.self in
    let new = c.give.new.tables in
    let made = rule_hand old.system p c.requires.search.same c.args.k old mid c.in_ok-hold_rule-in-empty.ensures.ok r there in
    let P : g.row.S-W.Denot → Type 0 = Below s (weights s new.base r.control r.symbol r.to) in
    at_rule p.rules c.args.k r there (λ x. x.right ≡ [] → Below s (weights s new.base x.control x.symbol x.to) x.weight)
    (λ _. subst P (hand_of r.weight old mid old made) (c.in_ok-give-in-empty.ensures.given r there))

pub returns-in_default-clause-onward : goal.returns-in_default-clause-onward
returns-in_default-clause-onward g c =
    let p = c.args.system.now in
    onward_itself c.semiring-semiring.ensures.valid (g.S.Semiring.laws p.semiring) None c.args.tables.now c.requires.search
