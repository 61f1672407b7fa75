use Rattle.std.proofs.Common.{sym, ◌∙◌}
use Rattle.std.specs.Prelude.{option_map}
use Rattle.std.proofs.lemmas.Option.{slice_get_within}
use Rattle.semiring_laws.specs.Semiring.{Below}
use Rattle.pushdown_rules.specs.Values.{value_of}
use Rattle.value_laws.specs.Runs.{Sums}
use Rattle.value_laws.specs.Settled.{returned_worth}
use Rattle.value_search.specs.Views.{counting, found, place_at, weights, Leads}
use Rattle.value_search.proofs.OnwardLemmas.{onward_itself, onward_then}
use Rattle.value_search.proofs.HandLemmas.{at_rule}
use Rattle.value_search.proofs.TakeLemmas.{at_later}
use Rattle.value_search.proofs.CalleeLemmas.{callee_at, callee_below, callee_held, callee_none, callee_onward, callee_sums, callee_waits}
use Rattle.value_search.proofs.meet.meet_callee.Goals as goal

pub give_then-requires-clause-search : goal.give_then-requires-clause-search
give_then-requires-clause-search g c =
    let p = c.args.system.now in
    let s = g.S.Semiring.operations p.semiring in
    let law = g.S.Semiring.laws p.semiring in
    let valid = c.semiring-semiring.ensures.valid in
    let old = c.args.tables.now in
    let at = c.args.at in
    let k = c.args.k in
    let target = option_map (λ t. t.now) c.args.target in
    let r = c.rule-rule.result.now in
    let there = c.rule-rule.ensures.rule in
    let right = c.requires.right r there in
    let first = c.in-Some.first in
    let is_at = sym c.find.ensures.number ∙ c.in-Some.is in
    let mid = c.hold_call.new.tables in
    let made = c.in_ok-hold_call.ensures in
    let onward = callee_onward valid law target k r there c.args.callee at.symbol right at.from at.to old c.requires.search first is_at mid made in
    let held = callee_held valid law target k r there c.args.callee at.symbol right at.from at.to old c.requires.search first is_at mid made in
    let at_mid = at_later s p target old mid onward at.number (place_at at.from at.symbol at.to) c.requires.at in
    onward.search

pub give_then-requires-clause-entry : goal.give_then-requires-clause-entry
give_then-requires-clause-entry g c =
    let p = c.args.system.now in
    let s = g.S.Semiring.operations p.semiring in
    let law = g.S.Semiring.laws p.semiring in
    let valid = c.semiring-semiring.ensures.valid in
    let old = c.args.tables.now in
    let at = c.args.at in
    let k = c.args.k in
    let target = option_map (λ t. t.now) c.args.target in
    let r = c.rule-rule.result.now in
    let there = c.rule-rule.ensures.rule in
    let right = c.requires.right r there in
    let first = c.in-Some.first in
    let is_at = sym c.find.ensures.number ∙ c.in-Some.is in
    let mid = c.hold_call.new.tables in
    let made = c.in_ok-hold_call.ensures in
    let onward = callee_onward valid law target k r there c.args.callee at.symbol right at.from at.to old c.requires.search first is_at mid made in
    let held = callee_held valid law target k r there c.args.callee at.symbol right at.from at.to old c.requires.search first is_at mid made in
    let at_mid = at_later s p target old mid onward at.number (place_at at.from at.symbol at.to) c.requires.at in
    slice_get_within (found target mid) at.number at_mid.0 at_mid.1

pub give_then-requires-clause-sums : goal.give_then-requires-clause-sums
give_then-requires-clause-sums g c = λ r' there' e is.
    let p = c.args.system.now in
    let s = g.S.Semiring.operations p.semiring in
    let law = g.S.Semiring.laws p.semiring in
    let valid = c.semiring-semiring.ensures.valid in
    let old = c.args.tables.now in
    let at = c.args.at in
    let k = c.args.k in
    let target = option_map (λ t. t.now) c.args.target in
    let r = c.rule-rule.result.now in
    let there = c.rule-rule.ensures.rule in
    let right = c.requires.right r there in
    let first = c.in-Some.first in
    let is_at = sym c.find.ensures.number ∙ c.in-Some.is in
    let mid = c.hold_call.new.tables in
    let made = c.in_ok-hold_call.ensures in
    let onward = callee_onward valid law target k r there c.args.callee at.symbol right at.from at.to old c.requires.search first is_at mid made in
    let held = callee_held valid law target k r there c.args.callee at.symbol right at.from at.to old c.requires.search first is_at mid made in
    let at_mid = at_later s p target old mid onward at.number (place_at at.from at.symbol at.to) c.requires.at in
    at_rule p.rules k r there (λ x. Sums s (value_of s p) (Leads p target x.control x.symbol at.to) (s.extend mid.hand e.weight)) (callee_sums valid law target k r there c.args.callee at.symbol right at.from at.to mid onward.search held at.number at_mid e is) r' there'

pub returns-clause-onward : goal.returns-clause-onward
returns-clause-onward g c =
    let p = c.args.system.now in
    let s = g.S.Semiring.operations p.semiring in
    let law = g.S.Semiring.laws p.semiring in
    let valid = c.semiring-semiring.ensures.valid in
    let old = c.args.tables.now in
    let at = c.args.at in
    let k = c.args.k in
    let target = option_map (λ t. t.now) c.args.target in
    let r = c.rule-rule.result.now in
    let there = c.rule-rule.ensures.rule in
    let right = c.requires.right r there in
    let first = c.in-Some.first in
    let is_at = sym c.find.ensures.number ∙ c.in-Some.is in
    let mid = c.hold_call.new.tables in
    let made = c.in_ok-hold_call.ensures in
    let onward = callee_onward valid law target k r there c.args.callee at.symbol right at.from at.to old c.requires.search first is_at mid made in
    let held = callee_held valid law target k r there c.args.callee at.symbol right at.from at.to old c.requires.search first is_at mid made in
    let at_mid = at_later s p target old mid onward at.number (place_at at.from at.symbol at.to) c.requires.at in
    onward_then valid law target old mid c.give_then.new.tables c.requires.search onward c.in_ok-give_then.ensures.onward

pub returns-clause-given : goal.returns-clause-given
returns-clause-given g c =
    let p = c.args.system.now in
    let s = g.S.Semiring.operations p.semiring in
    let law = g.S.Semiring.laws p.semiring in
    let valid = c.semiring-semiring.ensures.valid in
    let old = c.args.tables.now in
    let at = c.args.at in
    let k = c.args.k in
    let target = option_map (λ t. t.now) c.args.target in
    let r = c.rule-rule.result.now in
    let there = c.rule-rule.ensures.rule in
    let right = c.requires.right r there in
    let first = c.in-Some.first in
    let is_at = sym c.find.ensures.number ∙ c.in-Some.is in
    let mid = c.hold_call.new.tables in
    let made = c.in_ok-hold_call.ensures in
    let onward = callee_onward valid law target k r there c.args.callee at.symbol right at.from at.to old c.requires.search first is_at mid made in
    let held = callee_held valid law target k r there c.args.callee at.symbol right at.from at.to old c.requires.search first is_at mid made in
    let at_mid = at_later s p target old mid onward at.number (place_at at.from at.symbol at.to) c.requires.at in
    let new = c.give_then.new.tables in
    at_rule p.rules k r there (λ x. Below s (weights s (found target new) x.control x.symbol at.to) (returned_worth s x (counting s new.base x.to c.args.callee at.from) (counting s (found target new) at.from at.symbol at.to)))
    (callee_below valid law target k r there c.args.callee at.symbol right at.from at.to mid onward.search held at.number at_mid new c.in_ok-give_then.ensures.onward at_mid.0 at_mid.1 (c.in_ok-give_then.ensures.given r there at_mid.0 at_mid.1))

pub returns-then-waits-clause-onward : goal.returns-then-waits-clause-onward
returns-then-waits-clause-onward g c =
    let p = c.args.system.now in
    let s = g.S.Semiring.operations p.semiring in
    let law = g.S.Semiring.laws p.semiring in
    let valid = c.semiring-semiring.ensures.valid in
    let old = c.args.tables.now in
    let at = c.args.at in
    let k = c.args.k in
    let target = option_map (λ t. t.now) c.args.target in
    let r = c.rule-rule.result.now in
    let there = c.rule-rule.ensures.rule in
    let right = c.requires.right r there in
    onward_itself valid law target old c.requires.search

pub returns-then-waits-clause-given : goal.returns-then-waits-clause-given
returns-then-waits-clause-given g c =
    let p = c.args.system.now in
    let s = g.S.Semiring.operations p.semiring in
    let law = g.S.Semiring.laws p.semiring in
    let valid = c.semiring-semiring.ensures.valid in
    let old = c.args.tables.now in
    let at = c.args.at in
    let k = c.args.k in
    let target = option_map (λ t. t.now) c.args.target in
    let r = c.rule-rule.result.now in
    let there = c.rule-rule.ensures.rule in
    let right = c.requires.right r there in
    let first = c.in-Some.first in
    let is_at = sym c.find.ensures.number ∙ c.in-Some.is in
    let e = callee_at valid law target k r there c.args.callee at.symbol right at.from at.to old c.requires.search first is_at in
    at_rule p.rules k r there (λ x. Below s (weights s (found target old) x.control x.symbol at.to) (returned_worth s x (counting s old.base x.to c.args.callee at.from) (counting s (found target old) at.from at.symbol at.to)))
    (callee_waits valid law target k r there c.args.callee at.symbol right at.from at.to old c.requires.search first is_at e.0 e.1 (sym (c.if-waits.ensures e.0 e.1)))

pub returns-in_default-clause-onward : goal.returns-in_default-clause-onward
returns-in_default-clause-onward g c =
    let p = c.args.system.now in
    let s = g.S.Semiring.operations p.semiring in
    let law = g.S.Semiring.laws p.semiring in
    let valid = c.semiring-semiring.ensures.valid in
    let old = c.args.tables.now in
    let at = c.args.at in
    let k = c.args.k in
    let target = option_map (λ t. t.now) c.args.target in
    let r = c.rule-rule.result.now in
    let there = c.rule-rule.ensures.rule in
    let right = c.requires.right r there in
    onward_itself valid law target old c.requires.search

pub returns-in_default-clause-given : goal.returns-in_default-clause-given
returns-in_default-clause-given g c =
    let p = c.args.system.now in
    let s = g.S.Semiring.operations p.semiring in
    let law = g.S.Semiring.laws p.semiring in
    let valid = c.semiring-semiring.ensures.valid in
    let old = c.args.tables.now in
    let at = c.args.at in
    let k = c.args.k in
    let target = option_map (λ t. t.now) c.args.target in
    let r = c.rule-rule.result.now in
    let there = c.rule-rule.ensures.rule in
    let right = c.requires.right r there in
    at_rule p.rules k r there (λ x. Below s (weights s (found target old) x.control x.symbol at.to) (returned_worth s x (counting s old.base x.to c.args.callee at.from) (counting s (found target old) at.from at.symbol at.to)))
    (callee_none valid law target k r there c.args.callee at.symbol right at.from at.to old c.requires.search (sym c.find.ensures.number ∙ c.in_default.is))
