use Rattle.std.proofs.Common.{◌≡◌, ◌∙◌, ℕ, ◌+◌, ◌-◌, [], ◌∷◌, length, get_or, sym, ap, subst, arith}
use Rattle.std.specs.Prelude.{None, Some, option_map}
use Rattle.std.proofs.lemmas.Option.{same_Some}
use Rattle.key_rows.specs.Rows.{index_where}
use Rattle.pushdown_rules.specs.Rows.{goes_onto, first_of}
use Rattle.forward_value_search.proofs.NumberLemmas.{callee_first, callee_within, callee_rule}
use Rattle.forward_value_search.proofs.WordLemmas.{none_from_length, some_from_length}
use Rattle.forward_value_search.proofs.callees.callee_at.Goals as goal

pub returns-then-rule-rules-clause-none : goal.returns-then-rule-rules-clause-none
returns-then-rule-rules-clause-none g c = λ to top is.
    let low = callee_within c.args.items c.args.system.now to top c.args.number is in
    absurd (omega (arith, low, c.if-rule-rules.true, c.rules.ensures.value))

pub returns-in_default-clause-none : goal.returns-in_default-clause-none
returns-in_default-clause-none g c = λ to top is.
    let rule = c.rule-onto.result.now in
    let none : rule.right ≡ [] = sym c.as_slice.ensures ∙ none_from_length c.as_slice.result.now c.in_default.len_below in
    let onto = callee_rule c.args.items c.args.system.now to top c.args.number is rule c.rule-onto.ensures.rule in
    let no : None ≡ Some top = sym (ap first_of none) ∙ onto.1 in cc

pub returns-in_default-first_onto-clause-none : goal.returns-in_default-first_onto-clause-none
returns-in_default-first_onto-clause-none g c = λ to top is.
    let rule = c.rule-onto.result.now in
    let words = c.as_slice.result.now in
    let word = some_from_length words c.in-len1-up.len_at_least in
    let right : rule.right ≡ get_or words 0 0 ∷ word.0 = sym c.as_slice.ensures ∙ word.1 in
    let onto = callee_rule c.args.items c.args.system.now to top c.args.number is rule c.rule-onto.ensures.rule in
    let symbol : get_or words 0 0 ≡ top = same_Some (get_or words 0 0) top (sym (ap first_of right) ∙ onto.1) in
    let P : ℕ → Type 0 = λ a. index_where (goes_onto a (get_or words 0 0)) c.args.system.now.rules ≡ Some (c.args.number - c.args.items - 1) in
    let Q : ℕ → Type 0 = λ b. index_where (goes_onto to b) c.args.system.now.rules ≡ Some (c.args.number - c.args.items - 1) in
    let found = subst P (sym onto.0) (subst Q (sym symbol) (callee_first c.args.items c.args.system.now to top c.args.number is)) in
    let no : None ≡ Some (c.args.number - c.args.items - 1) = sym c.in_default-first_onto.is ∙ c.first_onto.ensures ∙ found in cc

pub returns-then-first-rule-clause-none : goal.returns-then-first-rule-clause-none
returns-then-first-rule-clause-none g c = λ to top is.
    let rule = c.rule-onto.result.now in
    let words = c.as_slice.result.now in
    let word = some_from_length words c.in-len1-up.len_at_least in
    let right : rule.right ≡ get_or words 0 0 ∷ word.0 = sym c.as_slice.ensures ∙ word.1 in
    let onto = callee_rule c.args.items c.args.system.now to top c.args.number is rule c.rule-onto.ensures.rule in
    let symbol : get_or words 0 0 ≡ top = same_Some (get_or words 0 0) top (sym (ap first_of right) ∙ onto.1) in
    let P : ℕ → Type 0 = λ a. index_where (goes_onto a (get_or words 0 0)) c.args.system.now.rules ≡ Some (c.args.number - c.args.items - 1) in
    let Q : ℕ → Type 0 = λ b. index_where (goes_onto to b) c.args.system.now.rules ≡ Some (c.args.number - c.args.items - 1) in
    let found = subst P (sym onto.0) (subst Q (sym symbol) (callee_first c.args.items c.args.system.now to top c.args.number is)) in
    let same : c.in-Some.first ≡ c.args.number - c.args.items - 1 = same_Some c.in-Some.first (c.args.number - c.args.items - 1) (sym c.in-Some.is ∙ c.first_onto.ensures ∙ found) in
    absurd (c.if-first-rule.true same)
