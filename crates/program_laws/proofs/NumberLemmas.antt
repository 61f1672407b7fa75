-- The numbers of names, and statements over them.
use Rattle.std.proofs.Common.{◌≡◌, ℕ, zero, suc, ◌+◌, ◌<◌, Bool, true, false, not, cond, ◌&&◌, ◌||◌, List, [], ◌∷◌, ◌++◌, map, length, Some, refl, sym, ap, ◌∙◌, subst, arith, flat_map}
use Rattle.std.specs.Prelude.{bytes_eq, nat_eq, nat_lt, slice_get, option_map}
use Rattle.std.specs.List.{list_any}
use Rattle.std.proofs.lemmas.Bool.{or_parts, or_from, lt-ltb, ltb-false, eq-eqb, eqb-true, cond-true, cond-false}
use Rattle.std.proofs.lemmas.Option.{same_Some}
use Rattle.std.proofs.lemmas.List.Concat.{flat_map-cons}
use Rattle.std.proofs.lemmas.List.Folds.{list_any-append}
use Rattle.std.proofs.lemmas.Slice.Eq.{bytes_eq-Decides}
use Rattle.truth_tables.specs.Formulas.{is_over}
use Rattle.truth_tables.specs.Grammar.{Tree, Constant, Variable, Bracket, Inverse, Two, Table2, Table3, tree_variables, table_of, number_of, has_large_table}
use Rattle.truth_tables.specs.declared.operator.Operator.{Operator}
use Rattle.truth_tables.specs.declared.operator.Operator.TheVariants.{Then as ThenOperator, Same as SameOperator, Other as OtherOperator, Or as OrOperator, Xor as XorOperator, And as AndOperator}
use Rattle.document_forms.specs.Names.{is_among, has_twice, has_unknown, number_in, name}
use Rattle.document_forms.specs.Weights.{ValueForm, FreeValue, TreeValue}
use Rattle.document_forms.specs.Kinds.{value_names, value_trees}
use Rattle.document_forms.specs.Documents.{expression_value}
use Rattle.boolean_programs.specs.Lists.{Each, StandOnce}
use Rattle.boolean_programs.specs.Structure.{IsValueOver}
use Rattle.program_forms.specs.Programs.{choice_of}
use Rattle.program_laws.proofs.KindLemmas.{is_held}

-- ---- names

number_below : (names : List (List ℕ)) (x : List ℕ) → is_among names x ≡ true → number_in names x < length names
number_below [] x h = cc
number_below (y ∷ ys) x h = go (bytes_eq x y) h (number_below ys x)
  where
    go : (t : Bool) → (t || is_among ys x) ≡ true → (is_among ys x ≡ true → number_in ys x < length ys) → cond t 0 (number_in ys x + 1) < length (y ∷ ys)
    go true e more = omega arith
    go false e more = let m = more e in omega arith

pub numbers_below : (names xs : List (List ℕ)) → has_unknown names xs ≡ false → Each (λ t. t < length names) (map (number_in names) xs)
numbers_below names [] h k t e = cc
numbers_below names (x ∷ xs) h zero t e =
    let p = or_parts (not (is_among names x)) (has_unknown names xs) h in
    subst (λ n. n < length names) (same_Some (number_in names x) t e) (number_below names x (is_held (is_among names x) p.0))
numbers_below names (x ∷ xs) h (suc k) t e =
    let p = or_parts (not (is_among names x)) (has_unknown names xs) h in
    numbers_below names xs p.1 k t e

pub known_parts : (names xs ys : List (List ℕ)) → has_unknown names (xs ++ ys) ≡ false → (has_unknown names xs ≡ false) × (has_unknown names ys ≡ false)
known_parts names [] ys h = (refl, h)
known_parts names (x ∷ xs) ys h =
    let k = or_parts (not (is_among names x)) (has_unknown names (xs ++ ys)) h in
    let m = known_parts names xs ys k.1 in
    (or_from (not (is_among names x)) (has_unknown names xs) k.0 m.0, m.1)

named_number : (names : List (List ℕ)) (x : List ℕ) → is_among names x ≡ true → name names (number_in names x) ≡ x
named_number [] x h = cc
named_number (y ∷ ys) x h = go (bytes_eq x y) refl h (named_number ys x)
  where
    go : (t : Bool) → bytes_eq x y ≡ t → (t || is_among ys x) ≡ true → (is_among ys x ≡ true → name ys (number_in ys x) ≡ x) → name (y ∷ ys) (cond t 0 (number_in ys x + 1)) ≡ x
    go true e s more = sym ((bytes_eq-Decides x y).0 e)
    go false e s more = let one : number_in ys x + 1 ≡ suc (number_in ys x) = omega arith in ap (name (y ∷ ys)) one ∙ more s

-- a name that is none of these has the number of none of them
not_placed : (names : List (List ℕ)) (x : List ℕ) (xs : List (List ℕ)) → is_among names x ≡ true → has_unknown names xs ≡ false → is_among xs x ≡ false → (k : ℕ) → slice_get (map (number_in names) xs) k ≡ Some (number_in names x) → ⊥
not_placed names x [] h u a k e = cc
not_placed names x (y ∷ ys) h u a zero e =
    let p = or_parts (not (is_among names y)) (has_unknown names ys) u in
    let q = or_parts (bytes_eq x y) (is_among ys x) a in
    let same : number_in names y ≡ number_in names x = same_Some (number_in names y) (number_in names x) e in
    let named : y ≡ x = sym (named_number names y (is_held (is_among names y) p.0)) ∙ ap (name names) same ∙ named_number names x h in
    let equal : bytes_eq x y ≡ true = (bytes_eq-Decides x y).1 (sym named) in
    let wrong : true ≡ false = sym equal ∙ q.0 in
    cc
not_placed names x (y ∷ ys) h u a (suc k) e =
    let p = or_parts (not (is_among names y)) (has_unknown names ys) u in
    let q = or_parts (bytes_eq x y) (is_among ys x) a in
    not_placed names x ys h p.1 q.1 k e

pub numbers_once : (names xs : List (List ℕ)) → has_unknown names xs ≡ false → has_twice xs ≡ false → StandOnce (map (number_in names) xs)
numbers_once names [] u t k n e = cc
numbers_once names (x ∷ xs) u t zero n e = cond-true (nat_eq (number_in names x) n) (Some 0) _ (eq-eqb (number_in names x) n (same_Some (number_in names x) n e))
numbers_once names (x ∷ xs) u t (suc k) n e =
    let p = or_parts (not (is_among names x)) (has_unknown names xs) u in
    let q = or_parts (is_among xs x) (has_twice xs) t in
    cond-false (nat_eq (number_in names x) n) (Some 0) _ (differ (nat_eq (number_in names x) n) refl) ∙ ap (option_map (λ j. suc j)) (numbers_once names xs p.1 q.1 k n e)
  where
    differ : (b : Bool) → nat_eq (number_in names x) n ≡ b → b ≡ false
    differ false h = refl
    differ true h =
        let p = or_parts (not (is_among names x)) (has_unknown names xs) u in
        let q = or_parts (is_among xs x) (has_twice xs) t in
        let same : number_in names x ≡ n = eqb-true (number_in names x) n h in
        absurd (not_placed names x xs (is_held (is_among names x) p.0) p.1 q.0 k (e ∙ ap (λ m. Some m) (sym same)))

-- ---- expressions

small_table : (o : Operator) → nat_lt (table_of o) 16 ≡ true
small_table ThenOperator = refl
small_table SameOperator = refl
small_table OtherOperator = refl
small_table OrOperator = refl
small_table XorOperator = refl
small_table AndOperator = refl

three : (x y z : Bool) → x ≡ true → y ≡ true → z ≡ true → (x && y && z) ≡ true
three x y z e f g = rw (e, f, g) refl

pub over_names : (names : List (List ℕ)) (e : Tree) → has_unknown names (tree_variables e) ≡ false → has_large_table e ≡ false → is_over (length names) (expression_value names e) ≡ true
over_names names (Constant b) h t = refl
over_names names (Variable x) h t =
    let k = or_parts (not (is_among names x)) false h in
    lt-ltb (number_in names x) (length names) (number_below names x (is_held (is_among names x) k.0))
over_names names (Bracket e) h t = over_names names e h t
over_names names (Inverse e) h t = over_names names e h t
over_names names (Two o a b) h t =
    let k = known_parts names (tree_variables a) (tree_variables b) h in
    let s = or_parts (has_large_table a) (has_large_table b) t in
    three (nat_lt (table_of o) 16) (is_over (length names) (expression_value names a)) (is_over (length names) (expression_value names b)) (small_table o) (over_names names a k.0 s.0) (over_names names b k.1 s.1)
over_names names (Table2 n a b) h t =
    let k = known_parts names (tree_variables a) (tree_variables b) h in
    let s = or_parts (nat_lt 15 (number_of n)) (has_large_table a || has_large_table b) t in
    let u = or_parts (has_large_table a) (has_large_table b) s.1 in
    let few = ltb-false 15 (number_of n) s.0 in
    three (nat_lt (number_of n) 16) (is_over (length names) (expression_value names a)) (is_over (length names) (expression_value names b)) (lt-ltb (number_of n) 16 (omega arith)) (over_names names a k.0 u.0) (over_names names b k.1 u.1)
over_names names (Table3 n a b c) h t =
    let k = known_parts names (tree_variables a) (tree_variables b ++ tree_variables c) h in
    let m = known_parts names (tree_variables b) (tree_variables c) k.1 in
    let s = or_parts (nat_lt 255 (number_of n)) (has_large_table a || (has_large_table b || has_large_table c)) t in
    let u = or_parts (has_large_table a) (has_large_table b || has_large_table c) s.1 in
    let v = or_parts (has_large_table b) (has_large_table c) u.1 in
    three (is_over (length names) (expression_value names a)) (is_over (length names) (expression_value names b)) (is_over (length names) (expression_value names c)) (over_names names a k.0 u.0) (over_names names b m.0 v.0) (over_names names c m.1 v.1)

-- ---- values

-- the names of values are known, and their tables small
pub value_over : (names : List (List ℕ)) (v : ValueForm) → has_unknown names (value_names v) ≡ false → list_any has_large_table (value_trees v) ≡ false → IsValueOver (length names) (choice_of names v)
value_over names FreeValue u l = refl
value_over names (TreeValue e) u l = over_names names e u (or_parts (has_large_table e) false l).0

large_parts : (ts us : List Tree) → list_any has_large_table (ts ++ us) ≡ false → (list_any has_large_table ts ≡ false) × (list_any has_large_table us ≡ false)
large_parts ts us h = or_parts (list_any has_large_table ts) (list_any has_large_table us) (sym (list_any-append has_large_table ts us) ∙ h)

pub values_over : (names : List (List ℕ)) (vs : List ValueForm) → has_unknown names (flat_map value_names vs) ≡ false → list_any has_large_table (flat_map value_trees vs) ≡ false → Each (IsValueOver (length names)) (map (choice_of names) vs)
values_over names [] u l k c e = cc
values_over names (v ∷ vs) u l zero c e =
    let p = known_parts names (value_names v) (flat_map value_names vs) (subst (λ xs. has_unknown names xs ≡ false) (flat_map-cons value_names v vs) u) in
    let q = large_parts (value_trees v) (flat_map value_trees vs) (subst (λ ts. list_any has_large_table ts ≡ false) (flat_map-cons value_trees v vs) l) in
    subst (IsValueOver (length names)) (same_Some (choice_of names v) c e) (value_over names v p.0 q.0)
values_over names (v ∷ vs) u l (suc k) c e =
    let p = known_parts names (value_names v) (flat_map value_names vs) (subst (λ xs. has_unknown names xs ≡ false) (flat_map-cons value_names v vs) u) in
    let q = large_parts (value_trees v) (flat_map value_trees vs) (subst (λ ts. list_any has_large_table ts ≡ false) (flat_map-cons value_trees v vs) l) in
    values_over names vs p.1 q.1 k c e

-- the same of one value
pub known_of_one : (names : List (List ℕ)) (v : ValueForm) → has_unknown names (flat_map value_names (v ∷ [])) ≡ false → has_unknown names (value_names v) ≡ false
known_of_one names v h = (known_parts names (value_names v) (flat_map value_names []) (subst (λ xs. has_unknown names xs ≡ false) (flat_map-cons value_names v []) h)).0

pub small_of_one : (v : ValueForm) → list_any has_large_table (flat_map value_trees (v ∷ [])) ≡ false → list_any has_large_table (value_trees v) ≡ false
small_of_one v h = (large_parts (value_trees v) (flat_map value_trees []) (subst (λ ts. list_any has_large_table ts ≡ false) (flat_map-cons value_trees v []) h)).0
