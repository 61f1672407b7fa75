use Rattle.std.proofs.Common.{◌≡◌, ◌+◌, ◌≤◌, ◌∷◌, [], length, get_or, sym, ap, ◌∙◌, arith}
use Rattle.std.specs.Prelude.{Some, option_map}
use Rattle.weighted_automata.specs.declared.place.Label.TheVariants.{Symbol, Empty}
use Rattle.forward_value_search.specs.Places.{short_label}
use Rattle.forward_value_search.proofs.NumberLemmas.{first_within}
use Rattle.forward_value_search.proofs.MeetLemmas.{for_rule}
use Rattle.forward_value_search.proofs.WordLemmas.{none_from_length, one_from_length, two_from_length, goes_somewhere}
use Rattle.forward_value_search.proofs.fire.fire.Goals as goal

pub step-requires-clause-few : goal.step-requires-clause-few
step-requires-clause-few g c =
    let r = c.rule-rule.result.now in
    let none : r.right ≡ [] = sym c.as_slice.ensures ∙ none_from_length c.as_slice.result.now c.in-empty.len_below in
    for_rule c.args.system.now.rules c.args.k r c.rule-rule.ensures.rule (λ q. length q.right ≤ 1) (let e : length r.right ≡ 0 = ap length none in omega (arith, e))

pub step-requires-clause-label : goal.step-requires-clause-label
step-requires-clause-label g c =
    let r = c.rule-rule.result.now in
    let none : r.right ≡ [] = sym c.as_slice.ensures ∙ none_from_length c.as_slice.result.now c.in-empty.len_below in
    for_rule c.args.system.now.rules c.args.k r c.rule-rule.ensures.rule (λ q. Empty ≡ short_label q.right) (ap short_label (sym none))

pub step-requires-in-len1-clause-few : goal.step-requires-in-len1-clause-few
step-requires-in-len1-clause-few g c =
    let r = c.rule-rule.result.now in
    let one : r.right ≡ get_or c.as_slice.result.now 0 0 ∷ [] = sym c.as_slice.ensures ∙ one_from_length c.as_slice.result.now c.in-len1.len_below c.in-len1.len_at_least in
    for_rule c.args.system.now.rules c.args.k r c.rule-rule.ensures.rule (λ q. length q.right ≤ 1) (let e : length r.right ≡ 1 = ap length one in omega (arith, e))

pub step-requires-in-len1-clause-label : goal.step-requires-in-len1-clause-label
step-requires-in-len1-clause-label g c =
    let r = c.rule-rule.result.now in
    let one : r.right ≡ get_or c.as_slice.result.now 0 0 ∷ [] = sym c.as_slice.ensures ∙ one_from_length c.as_slice.result.now c.in-len1.len_below c.in-len1.len_at_least in
    for_rule c.args.system.now.rules c.args.k r c.rule-rule.ensures.rule (λ q. Symbol (get_or c.as_slice.result.now 0 0) ≡ short_label q.right) (ap short_label (sym one))

pub unreachable-requires : goal.unreachable-requires
unreachable-requires g c =
    let r = c.rule-rule.result.now in
    let few : length c.as_slice.result.now ≤ 2 = let e : length c.as_slice.result.now ≡ length r.right = ap length c.as_slice.ensures in let short = c.rule-rule.ensures.valid.fits.short in omega (arith, e, short) in
    let right = sym c.as_slice.ensures ∙ two_from_length c.as_slice.result.now few c.in-len2-up.len_at_least in
    goes_somewhere (length c.args.first.now.items) c.args.system.now c.args.k r c.rule-rule.ensures.rule _ _ right (sym c.first_onto.ensures ∙ c.in_default.is)

pub overflow_add-callee-in-len2-up : goal.overflow_add-callee-in-len2-up
overflow_add-callee-in-len2-up g c =
    let low = first_within _ c.args.system.now.rules c.in-Some.number (sym c.first_onto.ensures ∙ c.in-Some.is) in
    let few = c.semiring-semiring.ensures.valid.few in
    let items = c.items.ensures.limit in
    omega (arith, low, few, items)

pub call-requires-clause-call : goal.call-requires-clause-call
call-requires-clause-call g c =
    let r = c.rule-rule.result.now in
    let few : length c.as_slice.result.now ≤ 2 = let e : length c.as_slice.result.now ≡ length r.right = ap length c.as_slice.ensures in let short = c.rule-rule.ensures.valid.fits.short in omega (arith, e, short) in
    let right = sym c.as_slice.ensures ∙ two_from_length c.as_slice.result.now few c.in-len2-up.len_at_least in
    record {
      rule = r;
      there = c.rule-rule.ensures.rule;
      top = get_or c.as_slice.result.now 0 0;
      right = right;
      entered = ap (option_map (λ j. length c.args.first.now.items + 1 + j)) (sym c.first_onto.ensures ∙ c.in-Some.is) ∙ ap (λ n. Some (n + 1 + c.in-Some.number)) (sym c.items.ensures.value);
      head = c.requires.head r c.rule-rule.ensures.rule;
    }

pub call-requires-clause-top : goal.call-requires-clause-top
call-requires-clause-top g c =
    let r = c.rule-rule.result.now in
    let few : length c.as_slice.result.now ≤ 2 = let e : length c.as_slice.result.now ≡ length r.right = ap length c.as_slice.ensures in let short = c.rule-rule.ensures.valid.fits.short in omega (arith, e, short) in
    let right = sym c.as_slice.ensures ∙ two_from_length c.as_slice.result.now few c.in-len2-up.len_at_least in
    for_rule c.args.system.now.rules c.args.k r c.rule-rule.ensures.rule (λ q. q.right ≡ get_or c.as_slice.result.now 0 0 ∷ get_or c.as_slice.result.now 1 0 ∷ []) right
