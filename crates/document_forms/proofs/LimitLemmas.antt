-- The counts of accepted lines are within the limits.
use Rattle.std.proofs.Common.{◌≡◌, ◌⊎◌, inl, inr, ℕ, ◌+◌, ◌≤◌, Bool, true, false, not, cond, ◌&&◌, ◌||◌, List, [], ◌∷◌, ◌++◌, length, None, refl, sym, ap, ◌∙◌, subst, arith, length-append}
use Rattle.std.specs.Prelude.{IsTrue, nat_le, nat_lt, count_by, unwrap_or, option_map}
use Rattle.std.specs.List.{list_any}
use Rattle.std.proofs.lemmas.Bool.{and_parts, or_parts, or_right, leb-true, leb-false, ltb-false}
use Rattle.std.proofs.lemmas.List.Sums.{sum_by-append}
use Rattle.wpds_base.specs.Faults.{first_fault}
use Rattle.wpds_base.specs.Limits.{most_controls, most_symbols, most_rules, most_queries, most_cost}
use Rattle.wpds_base.specs.Lists.{IsOnce}
use Rattle.truth_tables.specs.Grammar.{number_of}
use Rattle.document_forms.specs.declared.weight.WeightsLine.{WeightsLine}
use Rattle.document_forms.specs.declared.weight.WeightsLine.TheVariants.{Reach, Cost, GenKill, Copy, Relation}
use Rattle.document_forms.specs.Names.{is_among, has_twice, once}
use Rattle.document_forms.specs.Patterns.{PatternForm}
use Rattle.document_forms.specs.Forms.{WeightsForm, ReachWeights, CostWeights, GenKillWeights, CopyWeights, RelationWeights, Class, Controls, Symbols, Facts, Variables, RuleForm, LineForm, OfWeights, OfNames, OfRule, OfQuery}
use Rattle.wpds_port.specs.declared.Kind.{Kind}
use Rattle.wpds_port.specs.declared.Kind.TheVariants.{Form, Twice, Count}
use Rattle.document_forms.specs.Above.{weights_line, item_class, has_class, most_names, is_rule, is_query, Above, above_of, class_names, with_line}
use Rattle.document_forms.specs.Kinds.{has_unlawful_cap, is_deep, rule_weight, is_large, names_conditions, rule_conditions, query_conditions, conditions}
use Rattle.document_forms.specs.Documents.{rules_on, queries_on, gathered}
use Rattle.document_forms.specs.Lawful.{IsWeightsLine}
use Rattle.document_forms.proofs.NameLemmas.{declared_once, once_joined}
use Rattle.document_forms.proofs.LowestLemmas.{none_in}
use Rattle.document_forms.proofs.RuleLemmas.{first_false}

-- ---- caps

pub cap_lawful : (w : WeightsForm) → has_unlawful_cap w ≡ false → IsWeightsLine (weights_line w)
cap_lawful ReachWeights h = tt
cap_lawful (CostWeights n) h =
    let k = and_parts (nat_le 1 (number_of n)) (nat_le (number_of n) most_cost) (is_true (nat_le 1 (number_of n) && nat_le (number_of n) most_cost) h) in
    (leb-true 1 (number_of n) k.0, leb-true (number_of n) most_cost k.1)
  where
    is_true : (b : Bool) → not b ≡ false → b ≡ true
    is_true true e = refl
    is_true false e = cc
cap_lawful GenKillWeights h = tt
cap_lawful CopyWeights h = tt
cap_lawful RelationWeights h = tt

-- ---- counts

pub record Within (u : WeightsLine) (a : Above) : Type 0 where
  pub controls : length a.controls ≤ most_controls
  pub symbols : length a.symbols ≤ most_symbols
  pub items : length a.items ≤ most_names u (item_class u)
  pub has_items : IsTrue (has_class u (item_class u)) ⊎ (a.items ≡ [])
  pub rules : a.rules ≤ most_rules
  pub queries : a.queries ≤ most_queries

three_false : (b c d : Bool) (i j k : Kind) → first_fault ((b, i) ∷ (c, j) ∷ (d, k) ∷ []) ≡ None → (b ≡ false) × (c ≡ false) × (d ≡ false)
three_false b c d i j k h =
    let l = first_false b i ((c, j) ∷ (d, k) ∷ []) h in
    let m = first_false c j ((d, k) ∷ []) l.1 in
    (l.0, m.0, (first_false d k [] m.1).0)

pub names_few : (a : Above) (c : Class) (xs : List (List ℕ)) → IsOnce (class_names a c) → first_fault (names_conditions a c xs) ≡ None → (has_class a.weights c ≡ true) × (length (class_names a c ++ xs) ≤ most_names a.weights c)
names_few a c xs o h =
    let known = class_names a c in
    let m = three_false (not (has_class a.weights c)) (has_twice xs || list_any (is_among known) xs) (nat_lt (most_names a.weights c) (length (once (known ++ xs)))) Form Twice Count h in
    let t = or_parts (has_twice xs) (list_any (is_among known) xs) m.1 in
    let few = ltb-false (most_names a.weights c) (length (once (known ++ xs))) m.2 in (
      is_true (has_class a.weights c) m.0,
      subst (λ ys. length ys ≤ most_names a.weights c) (once_joined known xs o t.1 t.0) few,
    )
  where
    is_true : (b : Bool) → not b ≡ false → b ≡ true
    is_true true e = refl
    is_true false e = cc

pub facts_limit : (u : WeightsLine) → has_class u Facts ≡ true → most_names u Facts ≡ most_names u (item_class u)
facts_limit Reach h = cc
facts_limit (Cost cap) h = cc
facts_limit GenKill h = refl
facts_limit Copy h = cc
facts_limit Relation h = cc

pub variables_limit : (u : WeightsLine) → has_class u Variables ≡ true → most_names u Variables ≡ most_names u (item_class u)
variables_limit Reach h = cc
variables_limit (Cost cap) h = cc
variables_limit GenKill h = cc
variables_limit Copy h = refl
variables_limit Relation h = refl

facts_are_items : (u : WeightsLine) → has_class u Facts ≡ true → has_class u (item_class u) ≡ true
facts_are_items Reach h = cc
facts_are_items (Cost cap) h = cc
facts_are_items GenKill h = refl
facts_are_items Copy h = cc
facts_are_items Relation h = cc

variables_are_items : (u : WeightsLine) → has_class u Variables ≡ true → has_class u (item_class u) ≡ true
variables_are_items Reach h = cc
variables_are_items (Cost cap) h = cc
variables_are_items GenKill h = cc
variables_are_items Copy h = refl
variables_are_items Relation h = refl

rules_few : (a : Above) (r : RuleForm) → first_fault (rule_conditions a r) ≡ None → a.rules + 1 ≤ most_rules
rules_few a r h = go (nat_le most_rules a.rules) refl
  where
    go : (t : Bool) → nat_le most_rules a.rules ≡ t → a.rules + 1 ≤ most_rules
    go true e =
        absurd (none_in (rule_conditions a r) h Count
        (inr (inr (inr (inr (inl (ap (λ t. (t, Count)) (or_right (unwrap_or (option_map is_deep (rule_weight a.weights r.weight)) false) (nat_le most_rules a.rules) e))))))))
    go false e = let less = leb-false most_rules a.rules e in omega arith

queries_few : (all : ℕ) (a : Above) (p q : PatternForm) → first_fault (query_conditions all a p q) ≡ None → a.queries + 1 ≤ most_queries
queries_few all a p q h = go (nat_le most_queries a.queries) refl
  where
    go : (t : Bool) → nat_le most_queries a.queries ≡ t → a.queries + 1 ≤ most_queries
    go true e =
        absurd (none_in (query_conditions all a p q) h Count
        (inr (inr (inl (ap (λ t. (t, Count)) (or_right (is_large all p || is_large all q) (nat_le most_queries a.queries) e))))))
    go false e = let less = leb-false most_queries a.queries e in omega arith

-- a line more
pub within_more : (all : ℕ) (w : WeightsForm) (ls : List LineForm) (f : LineForm) → first_fault (conditions all (above_of (OfWeights w ∷ ls)) f) ≡ None → Within (weights_line w) (above_of (OfWeights w ∷ ls)) → Within (weights_line w) (with_line (above_of (OfWeights w ∷ ls)) f)
within_more all w ls (OfWeights v) h m = m
within_more all w ls (OfNames Controls xs) h m =
    let k = names_few (above_of (OfWeights w ∷ ls)) Controls xs (declared_once Controls (OfWeights w ∷ ls)) h in
    record { controls = k.1; symbols = m.symbols; items = m.items; has_items = m.has_items; rules = m.rules; queries = m.queries }
within_more all w ls (OfNames Symbols xs) h m =
    let k = names_few (above_of (OfWeights w ∷ ls)) Symbols xs (declared_once Symbols (OfWeights w ∷ ls)) h in
    record { controls = m.controls; symbols = k.1; items = m.items; has_items = m.has_items; rules = m.rules; queries = m.queries }
within_more all w ls (OfNames Facts xs) h m =
    let a = above_of (OfWeights w ∷ ls) in
    let k = names_few a Facts xs (declared_once (item_class (weights_line w)) (OfWeights w ∷ ls)) h in
    record { controls = m.controls; symbols = m.symbols; items = subst (λ n. length (a.items ++ xs) ≤ n) (facts_limit (weights_line w) k.0) k.1; has_items = inl (facts_are_items (weights_line w) k.0); rules = m.rules; queries = m.queries }
within_more all w ls (OfNames Variables xs) h m =
    let a = above_of (OfWeights w ∷ ls) in
    let k = names_few a Variables xs (declared_once (item_class (weights_line w)) (OfWeights w ∷ ls)) h in
    record { controls = m.controls; symbols = m.symbols; items = subst (λ n. length (a.items ++ xs) ≤ n) (variables_limit (weights_line w) k.0) k.1; has_items = inl (variables_are_items (weights_line w) k.0); rules = m.rules; queries = m.queries }
within_more all w ls (OfRule r) h m =
    record { controls = m.controls; symbols = m.symbols; items = m.items; has_items = m.has_items; rules = rules_few (above_of (OfWeights w ∷ ls)) r h; queries = m.queries }
within_more all w ls (OfQuery p q) h m =
    record { controls = m.controls; symbols = m.symbols; items = m.items; has_items = m.has_items; rules = m.rules; queries = queries_few all (above_of (OfWeights w ∷ ls)) p q h }

pub within_none : (w : WeightsForm) → Within (weights_line w) (above_of (OfWeights w ∷ []))
within_none w = record { controls = omega arith; symbols = omega arith; items = omega arith; has_items = inr refl; rules = omega arith; queries = omega arith }

-- ---- the rules and queries of lines are as many as they count

pub count_rules : (pre fs : List LineForm) → length (gathered rules_on pre fs) ≡ count_by is_rule fs
count_rules pre [] = refl
count_rules pre (f ∷ fs) =
    length-append (rules_on (above_of pre) f) (gathered rules_on (pre ++ f ∷ []) fs)
    ∙ ap (λ n. length (rules_on (above_of pre) f) + n) (count_rules (pre ++ f ∷ []) fs)
    ∙ ap (λ n. n + count_by is_rule fs) (one f)
    ∙ sym (sum_by-append (λ x. cond (is_rule x) 1 0) (f ∷ []) fs)
  where
    one : (g : LineForm) → length (rules_on (above_of pre) g) ≡ count_by is_rule (g ∷ [])
    one (OfWeights w) = refl
    one (OfNames c xs) = refl
    one (OfRule r) = refl
    one (OfQuery p q) = refl

pub count_queries : (pre fs : List LineForm) → length (gathered queries_on pre fs) ≡ count_by is_query fs
count_queries pre [] = refl
count_queries pre (f ∷ fs) =
    length-append (queries_on (above_of pre) f) (gathered queries_on (pre ++ f ∷ []) fs)
    ∙ ap (λ n. length (queries_on (above_of pre) f) + n) (count_queries (pre ++ f ∷ []) fs)
    ∙ ap (λ n. n + count_by is_query fs) (one f)
    ∙ sym (sum_by-append (λ x. cond (is_query x) 1 0) (f ∷ []) fs)
  where
    one : (g : LineForm) → length (queries_on (above_of pre) g) ≡ count_by is_query (g ∷ [])
    one (OfWeights w) = refl
    one (OfNames c xs) = refl
    one (OfRule r) = refl
    one (OfQuery p q) = refl
