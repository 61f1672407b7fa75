use Rattle.std.proofs.Common.{◌≡◌, ◌∙◌, ℕ, ◌≤◌, [], ◌∷◌, length, get_or, refl, sym, ap, subst, arith}
use Rattle.std.proofs.lemmas.Option.{same_Some, slice_get_within}
use Rattle.weighted_automata.specs.declared.place.Label.TheVariants.{Symbol}
use Rattle.pushdown_rules.specs.declared.rule.Rule.{Rule}
use Rattle.forward_value_search.specs.Places.{arrow}
use Rattle.forward_value_search.specs.Settled.{head_at}
use Rattle.forward_value_search.specs.Search.{HasMet}
use Rattle.forward_value_search.proofs.OnwardLemmas.{onward_itself, onward_then}
use Rattle.forward_value_search.proofs.MeetLemmas.{for_rule, rule_within, returned_hand, return_onward, holds_now}
use Rattle.forward_value_search.proofs.WordLemmas.{two_from_length}
use Rattle.forward_value_search.proofs.ends.meet_calls.Goals as goal

pub hold_rule_then-requires-clause-rule : goal.hold_rule_then-requires-clause-rule
hold_rule_then-requires-clause-rule g c =
    rule_within c.semiring-semiring.ensures.valid (g.S.Semiring.laws c.args.system.now.semiring) c.args.first.now c.args.tables.now c.args.tables.now c.requires.ready refl c.args.k c.requires.rule

pub hold_rule_then-requires-clause-entry : goal.hold_rule_then-requires-clause-entry
hold_rule_then-requires-clause-entry g c = slice_get_within c.args.tables.now.base c.args.t c.requires.entry.0 c.requires.entry.1

pub return_hand-requires : goal.return_hand-requires
return_hand-requires g c =
    rule_within c.semiring-semiring.ensures.valid (g.S.Semiring.laws c.args.system.now.semiring) c.args.first.now c.args.tables.now c.hold_rule_then.new.self c.requires.ready c.hold_rule_then.ensures.system c.args.k c.requires.rule

pub meet_row-requires-clause-ready : goal.meet_row-requires-clause-ready
meet_row-requires-clause-ready g c =
    let valid = c.semiring-semiring.ensures.valid in
    let laws = g.S.Semiring.laws c.args.system.now.semiring in
    let r = c.rule-rule.result.now in
    let there = c.rule-rule.ensures.rule in
    let words = c.as_slice.result.now in
    let few : length words ≤ 2 = let e : length words ≡ length r.right = ap length c.as_slice.ensures in let short = c.rule-rule.ensures.valid.fits.short in omega (arith, e, short) in
    let right = sym c.as_slice.ensures ∙ two_from_length words few c.in-len2-up.len_at_least in
    let is = returned_hand valid laws c.args.first.now c.args.tables.now c.hold_rule_then.new.self c.return_hand.new.self c.requires.ready c.args.k r there c.args.t c.args.end c.requires.entry
    c.in_ok-hold_rule_then-in-len2-up.ensures.ok c.in_ok-return_hand-in-len2-up.ensures.ok in
    (return_onward valid laws c.args.first.now c.args.tables.now c.return_hand.new.self c.requires.ready c.args.k r there (get_or words 0 0) (get_or words 1 0) right c.args.end is).ready

pub meet_row-requires-clause-returns : goal.meet_row-requires-clause-returns
meet_row-requires-clause-returns g c =
    let r = c.rule-rule.result.now in
    let there = c.rule-rule.ensures.rule in
    let words = c.as_slice.result.now in
    let few : length words ≤ 2 = let e : length words ≡ length r.right = ap length c.as_slice.ensures in let short = c.rule-rule.ensures.valid.fits.short in omega (arith, e, short) in
    let right = sym c.as_slice.ensures ∙ two_from_length words few c.in-len2-up.len_at_least in
    record { rule = r; there = there; top = get_or words 0 0; right = right; entered = c.requires.enters r there (get_or words 0 0) (get_or words 1 0) right; empty = c.requires.empty }

pub meet_row-requires-clause-held : goal.meet_row-requires-clause-held
meet_row-requires-clause-held g c =
    let valid = c.semiring-semiring.ensures.valid in
    let laws = g.S.Semiring.laws c.args.system.now.semiring in
    let r = c.rule-rule.result.now in
    let there = c.rule-rule.ensures.rule in
    let is = returned_hand valid laws c.args.first.now c.args.tables.now c.hold_rule_then.new.self c.return_hand.new.self c.requires.ready c.args.k r there c.args.t c.args.end c.requires.entry
    c.in_ok-hold_rule_then-in-len2-up.ensures.ok c.in_ok-return_hand-in-len2-up.ensures.ok in
    holds_now valid laws c.args.first.now c.args.tables.now c.return_hand.new.self c.requires.ready c.args.k r there c.args.end is

pub meet_row-requires-clause-head : goal.meet_row-requires-clause-head
meet_row-requires-clause-head g c = λ q there n.
    let r = c.rule-rule.result.now in
    for_rule c.args.system.now.rules c.args.k r c.rule-rule.ensures.rule (λ z. arrow r.control (Symbol r.symbol) n ≡ head_at z n) refl q there

pub returns-in_ok-meet_row-in-len2-up-clause-onward : goal.returns-in_ok-meet_row-in-len2-up-clause-onward
returns-in_ok-meet_row-in-len2-up-clause-onward g c =
    let valid = c.semiring-semiring.ensures.valid in
    let laws = g.S.Semiring.laws c.args.system.now.semiring in
    let r = c.rule-rule.result.now in
    let there = c.rule-rule.ensures.rule in
    let words = c.as_slice.result.now in
    let few : length words ≤ 2 = let e : length words ≡ length r.right = ap length c.as_slice.ensures in let short = c.rule-rule.ensures.valid.fits.short in omega (arith, e, short) in
    let right = sym c.as_slice.ensures ∙ two_from_length words few c.in-len2-up.len_at_least in
    let is = returned_hand valid laws c.args.first.now c.args.tables.now c.hold_rule_then.new.self c.return_hand.new.self c.requires.ready c.args.k r there c.args.t c.args.end c.requires.entry
    c.in_ok-hold_rule_then-in-len2-up.ensures.ok c.in_ok-return_hand-in-len2-up.ensures.ok in
    onward_then valid laws c.args.first.now c.args.tables.now c.return_hand.new.self c.meet_row.new.tables c.requires.ready
    (return_onward valid laws c.args.first.now c.args.tables.now c.return_hand.new.self c.requires.ready c.args.k r there (get_or words 0 0) (get_or words 1 0) right c.args.end is)
    c.in_ok-meet_row-in-len2-up.ensures.onward

pub returns-in_ok-meet_row-in-len2-up-clause-met : goal.returns-in_ok-meet_row-in-len2-up-clause-met
returns-in_ok-meet_row-in-len2-up-clause-met g c = λ q there' a b right' n.
    let r = c.rule-rule.result.now in
    let words = c.as_slice.result.now in
    let few : length words ≤ 2 = let e : length words ≡ length r.right = ap length c.as_slice.ensures in let short = c.rule-rule.ensures.valid.fits.short in omega (arith, e, short) in
    let right = sym c.as_slice.ensures ∙ two_from_length words few c.in-len2-up.len_at_least in
    let same : r ≡ q = same_Some r q (sym c.rule-rule.ensures.rule ∙ there') in
    let both : get_or words 0 0 ∷ get_or words 1 0 ∷ [] ≡ a ∷ b ∷ [] = sym right ∙ ap (λ (z : Rule _ _ _). z.right) same ∙ right' in
    let below : get_or words 1 0 ≡ b = cc in
    let P : ℕ → Type 0 = λ h. HasMet g.S.Semiring.operations c.args.system.now c.args.first.now c.meet_row.new.tables c.args.k h (head_at q n) c.args.end in
    subst P below (c.in_ok-meet_row-in-len2-up.ensures.met q there' n)

pub returns-in_default-clause-onward : goal.returns-in_default-clause-onward
returns-in_default-clause-onward g c = onward_itself c.semiring-semiring.ensures.valid (g.S.Semiring.laws c.args.system.now.semiring) c.args.first.now c.args.tables.now c.requires.ready

pub returns-in_default-clause-met : goal.returns-in_default-clause-met
returns-in_default-clause-met g c = λ q there' a b right'.
    let r = c.rule-rule.result.now in
    let same : r ≡ q = same_Some r q (sym c.rule-rule.ensures.rule ∙ there') in
    let long : length c.as_slice.result.now ≡ 2 = ap length (c.as_slice.ensures ∙ ap (λ (z : Rule _ _ _). z.right) same ∙ right') in
    let low = c.in_default.len_below in
    absurd (omega (arith, long, low))
