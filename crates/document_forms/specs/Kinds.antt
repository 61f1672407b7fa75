-- Which kinds of refusal a line has, below the lines above it.
use Rattle.std.specs.Prelude.{ℕ, ◌+◌, ◌*◌, ◌^◌, Bool, true, false, not, ◌||◌, ◌&&◌, ◌==◌, nat_le, nat_lt, if◌then◌else◌, List, [], ◌∷◌, ◌++◌, length, Option, Some, None, option_map, unwrap_or, map, flat_map, is_some, is_none}
use Rattle.std.specs.List.{list_any}
use Rattle.wpds_base.specs.Limits.{most_rules, most_queries, most_items, most_edges, most_cost, most_depth}
use Rattle.wpds_port.specs.declared.Word.{Word}
use Rattle.truth_tables.specs.Grammar.{Tree, depth, number_of, has_large_table, tree_variables}
use Rattle.document_forms.specs.declared.weight.WeightsLine.{WeightsLine}
use Rattle.document_forms.specs.declared.weight.WeightsLine.TheVariants.{GenKill, Copy, Relation}
use Rattle.document_forms.specs.Names.{is_among, has_twice, once, has_unknown}
use Rattle.document_forms.specs.Patterns.{SetForm, Dotted, Bare, Braced, ItemForm, PatternForm}
use Rattle.document_forms.specs.Returns.{MoveForm, MapForm, ReturnForm, PlainReturn, GivenMap}
use Rattle.document_forms.specs.Weights.{PartForm, OfVariable, OfNumber, PartsForm, Parts, ValueForm, FreeValue, TreeValue, ActionForm, AssumeForm, ChooseForm, AssignForm, WeightForm, OneForm, NumberForm, SignsForm, PairsForm, ActionsForm, weight_of}
use Rattle.document_forms.specs.Forms.{WeightsForm, CostWeights, Class, RuleForm, LineForm, OfWeights, OfNames, OfRule, OfQuery}
use Rattle.wpds_port.specs.declared.Kind.{Kind}
use Rattle.wpds_port.specs.declared.Kind.TheVariants.{Form, Twice, Unknown, WeightText, Return, Count}
use Rattle.document_forms.specs.Above.{has_class, most_names, Above, class_names}

-- a line's conditions in the order of their kinds, each with the kind that it has where it holds
abbrev pub Conditions : Type 0
Conditions = List (Bool × Kind)

-- ---- the names of a weight

abbrev pub part_names : PartForm → List (List ℕ)
part_names (OfVariable x) = x ∷ []
part_names (OfNumber negative n) = []

abbrev pub parts_names : PartsForm → List (List ℕ)
parts_names (Parts ps) = flat_map part_names ps
parts_names _ = []

abbrev pub value_names : ValueForm → List (List ℕ)
value_names FreeValue = []
value_names (TreeValue e) = tree_variables e

abbrev pub action_names : ActionForm → List (List ℕ)
action_names (AssumeForm e) = tree_variables e
action_names (ChooseForm xs) = xs
action_names (AssignForm xs vs) = xs ++ flat_map value_names vs

abbrev pub weight_names : WeightForm → List (List ℕ)
weight_names (SignsForm ss) = map (λ s. s.fact) ss
weight_names (PairsForm ps) = flat_map (λ p. p.variable ∷ parts_names p.parts) ps
weight_names (ActionsForm acts) = flat_map action_names acts
weight_names _ = []

-- ---- numbers and expressions of a weight

-- a whole number that 64 bits with a sign don't hold
abbrev pub is_wide_part : PartForm → Bool
is_wide_part (OfVariable x) = false
is_wide_part (OfNumber false n) = nat_le (2 ^ 63) (number_of n)
is_wide_part (OfNumber true n) = nat_lt (2 ^ 63) (number_of n)

abbrev pub has_wide_part : PartsForm → Bool
has_wide_part (Parts ps) = list_any is_wide_part ps
has_wide_part _ = false

abbrev pub value_trees : ValueForm → List Tree
value_trees FreeValue = []
value_trees (TreeValue e) = e ∷ []

abbrev pub action_trees : ActionForm → List Tree
action_trees (AssumeForm e) = e ∷ []
action_trees (ChooseForm xs) = []
action_trees (AssignForm xs vs) = flat_map value_trees vs

-- an assignment that has not as many values as targets, or a target twice
abbrev pub is_uneven : ActionForm → Bool
is_uneven (AssignForm xs vs) = not (length xs == length vs) || has_twice xs
is_uneven _ = false

-- what is asked of the text of a weight, besides its names and its depth, is not met
abbrev pub is_unlawful : WeightForm → Bool
is_unlawful (NumberForm n) = nat_le (2 ^ 64) (number_of n)
is_unlawful (SignsForm ss) = has_twice (map (λ s. s.fact) ss)
is_unlawful (PairsForm ps) =
    has_twice (map (λ p. p.variable) ps) || list_any (λ p. has_wide_part p.parts) ps
is_unlawful (ActionsForm acts) =
    list_any is_uneven acts || list_any has_large_table (flat_map action_trees acts)
is_unlawful _ = false

abbrev pub is_deep : WeightForm → Bool
is_deep (ActionsForm acts) =
    list_any (λ e. nat_lt most_depth (depth e)) (flat_map action_trees acts)
is_deep _ = false

-- the weight of a rule: `one` where no text stands, and none where the text has no form
abbrev pub rule_weight : WeightsLine → Option (List Word) → Option WeightForm
rule_weight weights None = Some OneForm
rule_weight weights (Some ws) = weight_of weights ws

-- ---- return maps

abbrev pub allows_restore : WeightsLine → Bool
allows_restore GenKill = true
allows_restore Copy = true
allows_restore Relation = true
allows_restore _ = false

abbrev pub allows_moves : WeightsLine → Bool
allows_moves Relation = true
allows_moves _ = false

abbrev pub restored : MapForm → List (List ℕ)
restored m = unwrap_or m.restore []

abbrev pub moved : MapForm → List MoveForm
moved m = unwrap_or m.moves []

-- a name is restored or moved a second time
abbrev pub has_map_twice : ReturnForm → Bool
has_map_twice PlainReturn = false
has_map_twice (GivenMap m) = has_twice (restored m ++ map (λ p. p.to) (moved m))

-- The names that are looked up: those behind a word that the weights allow.
abbrev pub map_names : WeightsLine → ReturnForm → List (List ℕ)
map_names weights PlainReturn = []
map_names weights (GivenMap m) =
    (if allows_restore weights then restored m else [])
    ++ (if allows_moves weights then flat_map (λ p. p.to ∷ p.from ∷ []) (moved m) else [])

-- the weights don't allow a word of it
abbrev pub is_foreign_map : WeightsLine → ReturnForm → Bool
is_foreign_map weights PlainReturn = false
is_foreign_map weights (GivenMap m) =
    (is_some m.restore && not (allows_restore weights))
    || (is_some m.moves && not (allows_moves weights))

-- ---- patterns

abbrev pub set_names : SetForm → List (List ℕ)
set_names Dotted = []
set_names (Bare x) = x ∷ []
set_names (Braced xs) = xs

abbrev pub pattern_symbols : PatternForm → List (List ℕ)
pattern_symbols p = flat_map (λ i. set_names i.set) p.items

abbrev pub has_symbol_twice : PatternForm → Bool
has_symbol_twice p = list_any (λ i. has_twice (set_names i.set)) p.items

-- how many symbols a set has, where `.` has so many
abbrev pub set_size : ℕ → SetForm → ℕ
set_size all Dotted = all
set_size all (Bare x) = 1
set_size all (Braced xs) = length xs

-- how many symbols an item has, and whether it has a star
abbrev pub item_size : ℕ → ItemForm → ℕ × Bool
item_size all i = (set_size all i.set, i.star)

-- how many states have an edge to an item, where so many before it have one
abbrev pub sources : ℕ → (star : Bool) → ℕ
sources from star = if star then from + 1 else from

-- The edges of the automaton of items of these sizes: to each item from the state before it, from
-- those that stars between pass over, and from itself where it has a star.
abbrev pub edges : ℕ → List (ℕ × Bool) → ℕ
edges from [] = 0
edges from (i ∷ is) = i.0 * sources from i.1 + edges (if i.1 then from + 1 else 1) is

abbrev pub is_large : ℕ → PatternForm → Bool
is_large all p =
    nat_lt most_items (length p.items) || nat_lt most_edges (edges 1 (map (item_size all) p.items))

-- ---- the conditions of each form

-- a cap that is not from 1 to the largest cost
abbrev pub has_unlawful_cap : WeightsForm → Bool
has_unlawful_cap (CostWeights n) = not (nat_le 1 (number_of n) && nat_le (number_of n) most_cost)
has_unlawful_cap _ = false

-- on the second line
abbrev pub weights_conditions : LineForm → Conditions
weights_conditions (OfWeights w) = (has_unlawful_cap w, Count) ∷ []
weights_conditions _ = (true, Form) ∷ []

abbrev pub names_conditions : Above → Class → List (List ℕ) → Conditions
names_conditions a c xs =
    let known = class_names a c in
    (not (has_class a.weights c), Form)
    ∷ (has_twice xs || list_any (is_among known) xs, Twice)
    ∷ (nat_lt (most_names a.weights c) (length (once (known ++ xs))), Count)
    ∷ []

-- a name of a rule is declared nowhere above
abbrev pub has_unknown_name : Above → RuleForm → Option WeightForm → ReturnForm → Bool
has_unknown_name a r weight back =
    has_unknown a.controls (r.control ∷ r.to ∷ [])
    || has_unknown a.symbols (r.symbol ∷ r.right)
    || has_unknown a.items (unwrap_or (option_map weight_names weight) [])
    || has_unknown a.items (map_names a.weights back)

abbrev pub rule_conditions : Above → RuleForm → Conditions
rule_conditions a r =
    let weight = rule_weight a.weights r.weight in
    let back = unwrap_or r.back PlainReturn in
    (has_map_twice back, Twice)
    ∷ (has_unknown_name a r weight back, Unknown)
    ∷ (is_none weight || unwrap_or (option_map is_unlawful weight) false, WeightText)
    ∷ ((is_some r.back && not (length r.right == 2)) || is_foreign_map a.weights back, Return)
    ∷ (unwrap_or (option_map is_deep weight) false || nat_le most_rules a.rules, Count)
    ∷ []

-- where the document declares so many symbols, on all its lines
abbrev pub query_conditions : ℕ → Above → (from to : PatternForm) → Conditions
query_conditions all a p q =
    let symbols = pattern_symbols p ++ pattern_symbols q in
    (has_symbol_twice p || has_symbol_twice q, Twice)
    ∷ (
      has_unknown a.controls (p.control ∷ q.control ∷ []) || has_unknown a.symbols symbols,
      Unknown,
    )
    ∷ (is_large all p || is_large all q || nat_le most_queries a.queries, Count)
    ∷ []

-- on every line behind the second
abbrev pub conditions : ℕ → Above → LineForm → Conditions
conditions all a (OfWeights w) = (true, Twice) ∷ (has_unlawful_cap w, Count) ∷ []
conditions all a (OfNames c xs) = names_conditions a c xs
conditions all a (OfRule r) = rule_conditions a r
conditions all a (OfQuery p q) = query_conditions all a p q
