-- Worked documents and their first refusals, each computed.
use Rattle.std.proofs.Common.{◌≡◌, ℕ, List, [], ◌∷◌, ◌++◌, refl, Option, Some, None}
use Rattle.std.specs.Prelude.{codes, flat_map}
use Rattle.wpds_port.specs.declared.Kind.TheVariants.{NotText, Header, Form, Twice, Unknown, WeightText, Return, Count, NothingAsked}
use Rattle.wpds_port.specs.declared.Refusal.{Refusal}
use Rattle.wpds_port.specs.Refusals.{refusal}
use Rattle.document_forms.specs.FirstRefusal.{refusal_of}

-- lines, a line feed behind each
abbrev text : List (List ℕ) → List ℕ
text ls = flat_map (λ l. l ++ 10 ∷ []) ls

abbrev document : List (List ℕ) → Option Refusal
document ls = refusal_of (text ls)

-- these lines behind a header
abbrev told : List (List ℕ) → Option Refusal
told ls = document (codes "wpds 1" ∷ ls)

-- these lines behind a header, weights, a control `p` and symbols `a b`: the first is line 5
abbrev behind : List ℕ → List (List ℕ) → Option Refusal
behind weights ls = told (weights ∷ codes "controls p" ∷ codes "symbols a b" ∷ ls)

abbrev reach : List (List ℕ) → Option Refusal
reach ls = behind (codes "weights reach") ls

abbrev cost : List (List ℕ) → Option Refusal
cost ls = behind (codes "weights cost 9") ls

-- the same with facts or variables `x y`: the first line is line 6
abbrev genkill : List (List ℕ) → Option Refusal
genkill ls = behind (codes "weights genkill") (codes "facts x y" ∷ ls)

abbrev copy : List (List ℕ) → Option Refusal
copy ls = behind (codes "weights copy") (codes "variables x y" ∷ ls)

abbrev relation : List (List ℕ) → Option Refusal
relation ls = behind (codes "weights relation") (codes "variables x y" ∷ ls)

abbrev asked : List ℕ
asked = codes "query p: => p:"

-- ---- the worked rows that are refused

undeclared_symbol : reach (codes "rule p c -> p" ∷ []) ≡ Some (refusal 5 Unknown)
undeclared_symbol = refl

control_twice : told (codes "weights reach" ∷ codes "controls p p" ∷ []) ≡ Some (refusal 3 Twice)
control_twice = refl

restore_with_costs : cost (
    codes "rule p a -> p a a : 1 return restore a" ∷ []
    ) ≡ Some (refusal 5 Return)
restore_with_costs = refl

return_on_a_step : reach (codes "rule p a -> p a return plain" ∷ []) ≡ Some (refusal 5 Return)
return_on_a_step = refl

no_query : reach ([]) ≡ Some (refusal 5 NothingAsked)
no_query = refl

cap_of_zero : told (codes "weights cost 0" ∷ []) ≡ Some (refusal 2 Count)
cap_of_zero = refl

wide_cost : cost (codes "rule p a -> p : 18446744073709551616" ∷ []) ≡ Some (refusal 5 WeightText)
wide_cost = refl

byte_7 : told (
    codes "weights reach" ∷ (codes "controls p" ++ 7 ∷ []) ∷ []
    ) ≡ Some (refusal 3 NotText)
byte_7 = refl

half_an_arrow :
    refusal_of (text (codes "wpds 1" ∷ codes "weights reach" ∷ []) ++ codes "controls -")
    ≡ Some (refusal 3 Form)
half_an_arrow = refl

no_bytes : refusal_of [] ≡ Some (refusal 1 Header)
no_bytes = refl

name_of_65_bytes : told (
    codes "weights reach"
    ∷ codes "controls nnnnnnnnnnnnnnnnnnnnnnnnnnnnnnnnnnnnnnnnnnnnnnnnnnnnnnnnnnnnnnnnn" ∷ []
    ) ≡ Some (refusal 3 Form)
name_of_65_bytes = refl

name_of_64_bytes : told (
    codes "weights reach"
    ∷ codes "controls nnnnnnnnnnnnnnnnnnnnnnnnnnnnnnnnnnnnnnnnnnnnnnnnnnnnnnnnnnnnnnnn" ∷ []
    ) ≡ Some (refusal 4 NothingAsked)
name_of_64_bytes = refl

two_weights_lines : told (
    codes "weights reach" ∷ codes "weights reach" ∷ []
    ) ≡ Some (refusal 3 Twice)
two_weights_lines = refl

wide_cap : told (codes "weights cost 18446744073709551616" ∷ []) ≡ Some (refusal 2 Count)
wide_cap = refl

header_alone : told ([]) ≡ Some (refusal 2 NothingAsked)
header_alone = refl

undeclared_variable : relation (codes "rule p a -> p : assume z" ∷ []) ≡ Some (refusal 6 Unknown)
undeclared_variable = refl

table_16 : relation (
    codes "rule p a -> p : assume tab2 16 (x, x)" ∷ []
    ) ≡ Some (refusal 6 WeightText)
table_16 = refl

table_15 : relation (codes "rule p a -> p : assume tab2 15 (x, x)" ∷ asked ∷ []) ≡ None
table_15 = refl

brackets_64 : relation (
    codes "rule p a -> p : assume ((((((((((((((((((((((((((((((((((((((((((((((((((((((((((((((((x))))))))))))))))))))))))))))))))))))))))))))))))))))))))))))))))"
    ∷ []
    ) ≡ Some (refusal 6 Count)
brackets_64 = refl

brackets_63 : relation (
    codes "rule p a -> p : assume (((((((((((((((((((((((((((((((((((((((((((((((((((((((((((((((x)))))))))))))))))))))))))))))))))))))))))))))))))))))))))))))))"
    ∷ asked ∷ []
    ) ≡ None
brackets_63 = refl

-- ---- lines

one_line_feed : refusal_of (10 ∷ []) ≡ Some (refusal 2 Header)
one_line_feed = refl

-- the last line is empty, and is counted by the line after the last
feed_and_return : refusal_of (10 ∷ 13 ∷ []) ≡ Some (refusal 3 Header)
feed_and_return = refl

return_at_the_end : refusal_of (codes "wpds 1" ++ 13 ∷ []) ≡ Some (refusal 2 NothingAsked)
return_at_the_end = refl

-- only one is dropped
two_returns : refusal_of (codes "wpds 1" ++ 13 ∷ 13 ∷ []) ≡ Some (refusal 1 NotText)
two_returns = refl

returns_before_feeds : document (
    (codes "wpds 1" ++ 13 ∷ []) ∷ (codes "weights reach" ++ 13 ∷ [])
    ∷ (codes "controls p" ++ 13 ∷ []) ∷ (asked ++ 13 ∷ []) ∷ []
    ) ≡ None
returns_before_feeds = refl

remarks_and_blanks : document (
    codes "  # x" ∷ (9 ∷ codes "wpds" ++ 9 ∷ codes " 1 ") ∷ codes ""
    ∷ (codes " #" ++ 0 ∷ 200 ∷ 255 ∷ []) ∷ codes "weights reach" ∷ codes "controls p" ∷ asked
    ∷ []
    ) ≡ None
remarks_and_blanks = refl

remark_behind_a_header : document (codes "wpds 1 # x" ∷ []) ≡ Some (refusal 1 Header)
remark_behind_a_header = refl

remark_behind_names : told (
    codes "weights reach" ∷ codes "controls p # x" ∷ []
    ) ≡ Some (refusal 3 Form)
remark_behind_names = refl

bad_byte_on_no_header : document ((codes "query" ++ 200 ∷ []) ∷ []) ≡ Some (refusal 1 NotText)
bad_byte_on_no_header = refl

other_header : document (codes "bool 1" ∷ []) ≡ Some (refusal 1 Header)
other_header = refl

later_version : document (codes "wpds 2" ∷ []) ≡ Some (refusal 1 Header)
later_version = refl

zero_before_a_version : document (codes "wpds 01" ∷ []) ≡ Some (refusal 1 Header)
zero_before_a_version = refl

names_before_weights : told (
    codes "controls p" ∷ codes "weights reach" ∷ []
    ) ≡ Some (refusal 2 Form)
names_before_weights = refl

unknown_weights : told (codes "weights foo" ∷ []) ≡ Some (refusal 2 Form)
unknown_weights = refl

zero_before_a_cap : told (codes "weights cost 05" ∷ []) ≡ Some (refusal 2 Form)
zero_before_a_cap = refl

largest_cap : told (codes "weights cost 1000000000000000000" ∷ []) ≡ Some (refusal 3 NothingAsked)
largest_cap = refl

cap_past_the_largest : told (
    codes "weights cost 1000000000000000001" ∷ []
    ) ≡ Some (refusal 2 Count)
cap_past_the_largest = refl

cap_of_other_weights : told (codes "weights reach 5" ∷ []) ≡ Some (refusal 2 Form)
cap_of_other_weights = refl

later_weights_line_of_no_form : told (
    codes "weights reach" ∷ codes "weights foo" ∷ []
    ) ≡ Some (refusal 3 Form)
later_weights_line_of_no_form = refl

-- of the kinds 5 and 9 the lower counts
later_weights_line_with_a_cap_of_zero : told (
    codes "weights reach" ∷ codes "weights cost 0" ∷ []
    ) ≡ Some (refusal 3 Twice)
later_weights_line_with_a_cap_of_zero = refl

no_form_at_all : reach (codes "foo p" ∷ []) ≡ Some (refusal 5 Form)
no_form_at_all = refl

-- ---- names

no_names : told (codes "weights reach" ∷ codes "controls" ∷ []) ≡ Some (refusal 3 Form)
no_names = refl

reserved_word_declared : told (
    codes "weights reach" ∷ codes "controls none" ∷ []
    ) ≡ Some (refusal 3 Form)
reserved_word_declared = refl

words_that_can_be_declared : told (
    codes "weights reach"
    ∷ codes "controls wpds bool weights rule controls symbols facts variables"
    ∷ codes "symbols reach fails main gen kill empty" ∷ codes "query gen: => wpds:" ∷ []
    ) ≡ Some (refusal 5 Unknown)
words_that_can_be_declared = refl

words_declared_and_used : told (
    codes "weights reach" ∷ codes "controls rule rules" ∷ codes "symbols controls"
    ∷ codes "rule rule controls -> rules" ∷ codes "query rule: controls => rules:" ∷ []
    ) ≡ None
words_declared_and_used = refl

reserved_word_used : reach (codes "rule p none -> p" ∷ []) ≡ Some (refusal 5 Unknown)
reserved_word_used = refl

return_as_a_symbol : reach (codes "rule return return -> return" ∷ []) ≡ Some (refusal 5 Unknown)
return_as_a_symbol = refl

one_name_in_three_classes : told (
    codes "weights copy" ∷ codes "controls p" ∷ codes "symbols p" ∷ codes "variables p"
    ∷ codes "rule p p -> p : p=p" ∷ asked ∷ []
    ) ≡ None
one_name_in_three_classes = refl

declared_twice_on_two_lines : told (
    codes "weights reach" ∷ codes "controls p q" ∷ codes "controls r q" ∷ []
    ) ≡ Some (refusal 4 Twice)
declared_twice_on_two_lines = refl

facts_with_costs : cost (codes "facts f" ∷ []) ≡ Some (refusal 5 Form)
facts_with_costs = refl

facts_with_copies : copy (codes "facts f" ∷ []) ≡ Some (refusal 6 Form)
facts_with_copies = refl

variables_with_facts : genkill (codes "variables v" ∷ []) ≡ Some (refusal 6 Form)
variables_with_facts = refl

-- of the kinds 4 and 5 the lower counts
facts_twice_with_reach : reach (codes "facts f f" ∷ []) ≡ Some (refusal 5 Form)
facts_twice_with_reach = refl

many_variables : told (
    codes "weights relation"
    ∷ codes "variables v0 v1 v2 v3 v4 v5 v6 v7 v8 v9 v10 v11 v12 v13 v14 v15 v16 v17 v18 v19 v20 v21 v22 v23 v24"
    ∷ []
    ) ≡ Some (refusal 3 Count)
many_variables = refl

most_variables : told (
    codes "weights relation"
    ∷ codes "variables v0 v1 v2 v3 v4 v5 v6 v7 v8 v9 v10 v11 v12 v13 v14 v15 v16 v17 v18 v19 v20 v21 v22 v23"
    ∷ []
    ) ≡ Some (refusal 4 NothingAsked)
most_variables = refl

many_copied : told (
    codes "weights copy"
    ∷ codes "variables v0 v1 v2 v3 v4 v5 v6 v7 v8 v9 v10 v11 v12 v13 v14 v15 v16 v17 v18 v19 v20 v21 v22 v23 v24 v25 v26 v27 v28 v29 v30 v31 v32 v33 v34 v35 v36 v37 v38 v39 v40 v41 v42 v43 v44 v45 v46 v47 v48 v49 v50 v51 v52 v53 v54 v55 v56 v57 v58 v59 v60 v61 v62 v63"
    ∷ codes "variables w" ∷ []
    ) ≡ Some (refusal 4 Count)
many_copied = refl

-- of the kinds 5 and 9 the lower counts
many_variables_and_one_twice : told (
    codes "weights relation"
    ∷ codes "variables v0 v1 v2 v3 v4 v5 v6 v7 v8 v9 v10 v11 v12 v13 v14 v15 v16 v17 v18 v19 v20 v21 v22 v23 v24 v0"
    ∷ []
    ) ≡ Some (refusal 3 Twice)
many_variables_and_one_twice = refl

used_above_its_line : told (
    codes "weights reach" ∷ codes "controls p" ∷ codes "query p: a => p:" ∷ codes "symbols a"
    ∷ []
    ) ≡ Some (refusal 4 Unknown)
used_above_its_line = refl

-- ---- rules

three_symbols : reach (codes "rule p a -> p a a a" ∷ []) ≡ Some (refusal 5 Form)
three_symbols = refl

rule_without_an_arrow : reach (codes "rule p a p" ∷ []) ≡ Some (refusal 5 Form)
rule_without_an_arrow = refl

undeclared_control : reach (codes "rule p a -> q" ∷ []) ≡ Some (refusal 5 Unknown)
undeclared_control = refl

undeclared_on_the_right : reach (codes "rule p a -> p c" ∷ []) ≡ Some (refusal 5 Unknown)
undeclared_on_the_right = refl

nothing_behind_the_colon : reach (codes "rule p a -> p :" ∷ []) ≡ Some (refusal 5 WeightText)
nothing_behind_the_colon = refl

one_and_none : reach (
    codes "rule p a -> p : one" ∷ codes "rule p a -> p b : none" ∷ asked ∷ []
    ) ≡ None
one_and_none = refl

cost_with_reach : reach (codes "rule p a -> p : 3" ∷ []) ≡ Some (refusal 5 WeightText)
cost_with_reach = refl

zero_before_a_cost : cost (codes "rule p a -> p : 03" ∷ []) ≡ Some (refusal 5 Form)
zero_before_a_cost = refl

byte_behind_the_colon : cost (codes "rule p a -> p : $" ∷ []) ≡ Some (refusal 5 Form)
byte_behind_the_colon = refl

long_name_behind_the_colon : cost (
    codes "rule p a -> p : nnnnnnnnnnnnnnnnnnnnnnnnnnnnnnnnnnnnnnnnnnnnnnnnnnnnnnnnnnnnnnnnn"
    ∷ []
    ) ≡ Some (refusal 5 Form)
long_name_behind_the_colon = refl

largest_cost : cost (codes "rule p a -> p : 18446744073709551615" ∷ asked ∷ []) ≡ None
largest_cost = refl

-- of the kinds 6 and 7 the lower counts
wide_cost_and_an_unknown_symbol : cost (
    codes "rule p c -> p : 18446744073709551616" ∷ []
    ) ≡ Some (refusal 5 Unknown)
wide_cost_and_an_unknown_symbol = refl

-- its names are not looked up
weight_of_other_weights : cost (codes "rule p a -> p : +f" ∷ []) ≡ Some (refusal 5 WeightText)
weight_of_other_weights = refl

-- of the kinds 7 and 8 the lower counts
no_weight_and_a_return_on_a_step : cost (
    codes "rule p a -> p : x return plain" ∷ []
    ) ≡ Some (refusal 5 WeightText)
no_weight_and_a_return_on_a_step = refl

-- ---- weights: facts

facts : genkill (codes "rule p a -> p : +x - y" ∷ asked ∷ []) ≡ None
facts = refl

fact_twice : genkill (codes "rule p a -> p : +x -x" ∷ []) ≡ Some (refusal 6 WeightText)
fact_twice = refl

undeclared_fact_twice : genkill (codes "rule p a -> p : +z -z" ∷ []) ≡ Some (refusal 6 Unknown)
undeclared_fact_twice = refl

fact_without_a_sign : genkill (codes "rule p a -> p : x" ∷ []) ≡ Some (refusal 6 WeightText)
fact_without_a_sign = refl

-- ---- weights: copies

copies : copy (codes "rule p a -> p : x=?  y = - 5 , x, 7" ∷ asked ∷ []) ≡ None
copies = refl

undefined : copy (codes "rule p a -> p : x=undef" ∷ asked ∷ []) ≡ None
undefined = refl

undef_among_parts : copy (codes "rule p a -> p : x=undef,y" ∷ []) ≡ Some (refusal 6 Unknown)
undef_among_parts = refl

copied_twice : copy (codes "rule p a -> p : x=y x=1" ∷ []) ≡ Some (refusal 6 WeightText)
copied_twice = refl

no_parts : copy (codes "rule p a -> p : x= y=1" ∷ []) ≡ Some (refusal 6 WeightText)
no_parts = refl

least_number : copy (codes "rule p a -> p : x=-9223372036854775808" ∷ asked ∷ []) ≡ None
least_number = refl

below_the_least : copy (
    codes "rule p a -> p : x=-9223372036854775809" ∷ []
    ) ≡ Some (refusal 6 WeightText)
below_the_least = refl

greatest_number : copy (codes "rule p a -> p : x=9223372036854775807" ∷ asked ∷ []) ≡ None
greatest_number = refl

past_the_greatest : copy (
    codes "rule p a -> p : x=9223372036854775808" ∷ []
    ) ≡ Some (refusal 6 WeightText)
past_the_greatest = refl

-- ---- weights: relations

actions : relation (
    codes "rule p a -> p : assume x & !y; choose x y; x, y := *, (x => y)" ∷ asked ∷ []
    ) ≡ None
actions = refl

atom_2 : relation (codes "rule p a -> p : assume x & 2" ∷ []) ≡ Some (refusal 6 WeightText)
atom_2 = refl

fewer_values : relation (codes "rule p a -> p : x, y := 1" ∷ []) ≡ Some (refusal 6 WeightText)
fewer_values = refl

target_twice : relation (codes "rule p a -> p : x, x := 1, 0" ∷ []) ≡ Some (refusal 6 WeightText)
target_twice = refl

unknown_target_twice : relation (
    codes "rule p a -> p : z, z := 1, 0" ∷ []
    ) ≡ Some (refusal 6 Unknown)
unknown_target_twice = refl

assume_nothing : relation (codes "rule p a -> p : assume" ∷ []) ≡ Some (refusal 6 WeightText)
assume_nothing = refl

choose_nothing : relation (codes "rule p a -> p : choose" ∷ []) ≡ Some (refusal 6 WeightText)
choose_nothing = refl

assume_as_a_target : relation (
    codes "rule p a -> p : assume := 1" ∷ []
    ) ≡ Some (refusal 6 WeightText)
assume_as_a_target = refl

assume_as_a_value : relation (codes "rule p a -> p : x := assume" ∷ []) ≡ Some (refusal 6 Unknown)
assume_as_a_value = refl

table_word_alone : relation (codes "rule p a -> p : x := tab2" ∷ []) ≡ Some (refusal 6 WeightText)
table_word_alone = refl

comma_in_brackets : relation (codes "rule p a -> p : x := tab2 8 (x, y)" ∷ asked ∷ []) ≡ None
comma_in_brackets = refl

empty_action : relation (codes "rule p a -> p : x := 1;" ∷ []) ≡ Some (refusal 6 WeightText)
empty_action = refl

-- names behind any depth are looked up; of the kinds 6 and 9 the lower counts
deep_and_unknown : relation (
    codes "rule p a -> p : assume !!!!!!!!!!!!!!!!!!!!!!!!!!!!!!!!!!!!!!!!!!!!!!!!!!!!!!!!!!!!!!!!z"
    ∷ []
    ) ≡ Some (refusal 6 Unknown)
deep_and_unknown = refl

-- of the kinds 7 and 9 the lower counts
deep_and_a_large_table : relation (
    codes "rule p a -> p : assume !!!!!!!!!!!!!!!!!!!!!!!!!!!!!!!!!!!!!!!!!!!!!!!!!!!!!!!!!!!!!!!!tab3 256 (x, x, x)"
    ∷ []
    ) ≡ Some (refusal 6 WeightText)
deep_and_a_large_table = refl

deep : relation (
    codes "rule p a -> p : assume !!!!!!!!!!!!!!!!!!!!!!!!!!!!!!!!!!!!!!!!!!!!!!!!!!!!!!!!!!!!!!!!x"
    ∷ []
    ) ≡ Some (refusal 6 Count)
deep = refl

-- ---- returns

plain_push : reach (codes "rule p a -> p a b return plain" ∷ asked ∷ []) ≡ None
plain_push = refl

nothing_behind_return : reach (codes "rule p a -> p a b return" ∷ []) ≡ Some (refusal 5 Form)
nothing_behind_return = refl

more_behind_plain : reach (codes "rule p a -> p a b return plain x" ∷ []) ≡ Some (refusal 5 Form)
more_behind_plain = refl

restored : genkill (codes "rule p a -> p a b : +x return restore y x" ∷ asked ∷ []) ≡ None
restored = refl

restored_twice : genkill (
    codes "rule p a -> p a b return restore x x" ∷ []
    ) ≡ Some (refusal 6 Twice)
restored_twice = refl

-- of the kinds 5 and 8 the lower counts
restored_twice_with_costs : cost (
    codes "rule p a -> p a b return restore x x" ∷ []
    ) ≡ Some (refusal 5 Twice)
restored_twice_with_costs = refl

restored_and_moved : relation (
    codes "rule p a -> p a b return restore x move x=y" ∷ []
    ) ≡ Some (refusal 6 Twice)
restored_and_moved = refl

moved_from_one : relation (codes "rule p a -> p a b return move x=x y=x" ∷ asked ∷ []) ≡ None
moved_from_one = refl

move_of_nothing : relation (
    codes "rule p a -> p a b return restore x move" ∷ []
    ) ≡ Some (refusal 6 Form)
move_of_nothing = refl

restore_behind_move : relation (
    codes "rule p a -> p a b return move x=y restore y" ∷ []
    ) ≡ Some (refusal 6 Form)
restore_behind_move = refl

-- the moved are not looked up
move_with_facts : genkill (
    codes "rule p a -> p a b return restore x move z=z" ∷ []
    ) ≡ Some (refusal 6 Return)
move_with_facts = refl

-- the restored are looked up
restore_of_an_unknown_with_facts : genkill (
    codes "rule p a -> p a b return restore z move x=x" ∷ []
    ) ≡ Some (refusal 6 Unknown)
restore_of_an_unknown_with_facts = refl

-- its names are not looked up
restore_with_reach : reach (
    codes "rule p a -> p a b return restore z" ∷ []
    ) ≡ Some (refusal 5 Return)
restore_with_reach = refl

return_behind_return : copy (
    codes "rule p a -> p a b return restore return" ∷ []
    ) ≡ Some (refusal 6 Unknown)
return_behind_return = refl

return_on_a_pop : copy (codes "rule p a -> p return restore x" ∷ []) ≡ Some (refusal 6 Return)
return_on_a_pop = refl

-- ---- queries

patterns : reach (codes "query p : .* {a b} b* => p: {a}* . " ∷ asked ∷ []) ≡ None
patterns = refl

symbol_twice_in_a_set : reach (codes "query p: {a a} => p:" ∷ []) ≡ Some (refusal 5 Twice)
symbol_twice_in_a_set = refl

-- of the kinds 5 and 6 the lower counts
unknown_symbol_twice_in_a_set : reach (codes "query p: => p: {c c}" ∷ []) ≡ Some (refusal 5 Twice)
unknown_symbol_twice_in_a_set = refl

symbol_in_two_sets : reach (codes "query p: {a} {a b} => p:" ∷ []) ≡ None
symbol_in_two_sets = refl

empty_set : reach (codes "query p: {} => p:" ∷ []) ≡ Some (refusal 5 Form)
empty_set = refl

star_alone : reach (codes "query p: * => p:" ∷ []) ≡ Some (refusal 5 Form)
star_alone = refl

two_stars : reach (codes "query p: a** => p:" ∷ []) ≡ Some (refusal 5 Form)
two_stars = refl

query_of_an_unknown_control : reach (codes "query q: => p:" ∷ []) ≡ Some (refusal 5 Unknown)
query_of_an_unknown_control = refl

query_without_a_side : reach (codes "query p: =>" ∷ []) ≡ Some (refusal 5 Form)
query_without_a_side = refl

-- the longest mark is `:=`
no_blank_behind_a_colon : reach (codes "query p:=> p:" ∷ []) ≡ Some (refusal 5 Form)
no_blank_behind_a_colon = refl

query_with_a_weight : reach (codes "query p: => p: : 5" ∷ []) ≡ Some (refusal 5 Form)
query_with_a_weight = refl

all_of_no_symbols : told (
    codes "weights reach" ∷ codes "controls p" ∷ codes "query p: .* => p: ." ∷ []
    ) ≡ None
all_of_no_symbols = refl

-- the first line that is refused counts, not the lowest kind
first_of_two : reach (
    codes "rule p c -> p" ∷ codes "rule p a -> p a return" ∷ []
    ) ≡ Some (refusal 5 Unknown)
first_of_two = refl

query_only_above_a_refused_line : reach (asked ∷ codes "rule p a" ∷ []) ≡ Some (refusal 6 Form)
query_only_above_a_refused_line = refl
