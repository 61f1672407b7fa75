-- The numbers of names are below their count.
use Rattle.std.proofs.Common.{◌≡◌, ◌≢◌, inl, inr, ℕ, suc, ◌+◌, ◌<◌, ◌≤◌, Bool, true, false, not, cond, ◌&&◌, ◌||◌, List, [], ◌∷◌, ◌++◌, map, length, refl, sym, ap, ◌∙◌, arith, le_trans}
use Rattle.std.specs.Prelude.{max, bytes_eq, nat_lt, nat_le}
use Rattle.std.proofs.lemmas.Bool.{or_parts, or_from, and_from, lt-ltb, ltb-false, le-leb}
use Rattle.std.proofs.lemmas.List.Elements.{All-nil, All-cons}
use Rattle.std.proofs.lemmas.Slice.Eq.{bytes_eq-Decides}
use Rattle.wpds_base.specs.Limits.{most_depth}
use Rattle.wpds_base.specs.Lists.{IsIn, IsOnce}
use Rattle.truth_tables.specs.Formulas.{is_over}
use Rattle.truth_tables.specs.Grammar.{Tree, Constant, Variable, Bracket, Inverse, Two, Table2, Table3, tree_variables, table_of, number_of, has_large_table, depth}
use Rattle.truth_tables.specs.declared.Operator.{Operator}
use Rattle.truth_tables.specs.declared.Operator.TheVariants.{Then as ThenOperator, Same as SameOperator, Other as OtherOperator, Or as OrOperator, Xor as XorOperator, And as AndOperator}
use Rattle.document_forms.specs.Names.{is_among, has_twice, has_unknown, number_in, name}
use Rattle.document_forms.specs.Documents.{expression_value}
use Rattle.document_forms.specs.Lawful.{AreBelow, AreSome, nesting, has_small_ternaries, IsExpressionText}
use Rattle.document_forms.proofs.NameLemmas.{twice_is_once}

pub number_below : (names : List (List ℕ)) (x : List ℕ) → is_among names x ≡ true → number_in names x < length names
number_below [] x h = cc
number_below (y ∷ ys) x h = go (bytes_eq x y) h (number_below ys x)
  where
    go : (t : Bool) → (t || is_among ys x) ≡ true → (is_among ys x ≡ true → number_in ys x < length ys) → cond t 0 (number_in ys x + 1) < length (y ∷ ys)
    go true e more = omega arith
    go false e more = let m = more e in omega arith

pub is_known : (b : Bool) → not b ≡ false → b ≡ true
is_known true h = refl
is_known false h = cc

pub numbers_below : (names xs : List (List ℕ)) → has_unknown names xs ≡ false → AreBelow (length names) (map (number_in names) xs)
numbers_below names [] h = All-nil (λ k. k < length names)
numbers_below names (x ∷ xs) h =
    let k = or_parts (not (is_among names x)) (has_unknown names xs) h in
    All-cons (λ n. n < length names) (number_in names x) (map (number_in names) xs) (number_below names x (is_known (is_among names x) k.0)) (numbers_below names xs k.1)

pub known_parts : (names xs ys : List (List ℕ)) → has_unknown names (xs ++ ys) ≡ false → (has_unknown names xs ≡ false) × (has_unknown names ys ≡ false)
known_parts names [] ys h = (refl, h)
known_parts names (x ∷ xs) ys h =
    let k = or_parts (not (is_among names x)) (has_unknown names (xs ++ ys)) h in
    let m = known_parts names xs ys k.1 in
    (or_from (not (is_among names x)) (has_unknown names xs) k.0 m.0, m.1)

pub known_both : (names xs ys : List (List ℕ)) → has_unknown names xs ≡ false → has_unknown names ys ≡ false → has_unknown names (xs ++ ys) ≡ false
known_both names [] ys h k = k
known_both names (x ∷ xs) ys h k =
    let p = or_parts (not (is_among names x)) (has_unknown names xs) h in
    or_from (not (is_among names x)) (has_unknown names (xs ++ ys)) p.0 (known_both names xs ys p.1 k)

-- ---- expressions

small_table : (o : Operator) → nat_lt (table_of o) 16 ≡ true
small_table ThenOperator = refl
small_table SameOperator = refl
small_table OtherOperator = refl
small_table OrOperator = refl
small_table XorOperator = refl
small_table AndOperator = refl

pub is_over_names : (names : List (List ℕ)) (e : Tree) → has_unknown names (tree_variables e) ≡ false → has_large_table e ≡ false → is_over (length names) (expression_value names e) ≡ true
is_over_names names (Constant b) h t = refl
is_over_names names (Variable x) h t =
    let k = or_parts (not (is_among names x)) false h in
    lt-ltb (number_in names x) (length names) (number_below names x (is_known (is_among names x) k.0))
is_over_names names (Bracket e) h t = is_over_names names e h t
is_over_names names (Inverse e) h t = is_over_names names e h t
is_over_names names (Two o a b) h t =
    let k = known_parts names (tree_variables a) (tree_variables b) h in
    let s = or_parts (has_large_table a) (has_large_table b) t in
    and3 (nat_lt (table_of o) 16) (is_over (length names) (expression_value names a)) (is_over (length names) (expression_value names b)) (small_table o) (is_over_names names a k.0 s.0) (is_over_names names b k.1 s.1)
  where
    and3 : (x y z : Bool) → x ≡ true → y ≡ true → z ≡ true → (x && y && z) ≡ true
    and3 x y z e f g = rw (e, f, g) refl
is_over_names names (Table2 n a b) h t =
    let k = known_parts names (tree_variables a) (tree_variables b) h in
    let s = or_parts (nat_lt 15 (number_of n)) (has_large_table a || has_large_table b) t in
    let u = or_parts (has_large_table a) (has_large_table b) s.1 in
    let few = ltb-false 15 (number_of n) s.0 in
    and3 (nat_lt (number_of n) 16) (is_over (length names) (expression_value names a)) (is_over (length names) (expression_value names b)) (lt-ltb (number_of n) 16 (omega arith)) (is_over_names names a k.0 u.0) (is_over_names names b k.1 u.1)
  where
    and3 : (x y z : Bool) → x ≡ true → y ≡ true → z ≡ true → (x && y && z) ≡ true
    and3 x y z e f g = rw (e, f, g) refl
is_over_names names (Table3 n a b c) h t =
    let k = known_parts names (tree_variables a) (tree_variables b ++ tree_variables c) h in
    let m = known_parts names (tree_variables b) (tree_variables c) k.1 in
    let s = or_parts (nat_lt 255 (number_of n)) (has_large_table a || (has_large_table b || has_large_table c)) t in
    let u = or_parts (has_large_table a) (has_large_table b || has_large_table c) s.1 in
    let v = or_parts (has_large_table b) (has_large_table c) u.1 in
    and3 (is_over (length names) (expression_value names a)) (is_over (length names) (expression_value names b)) (is_over (length names) (expression_value names c)) (is_over_names names a k.0 u.0) (is_over_names names b m.0 v.0) (is_over_names names c m.1 v.1)
  where
    and3 : (x y z : Bool) → x ≡ true → y ≡ true → z ≡ true → (x && y && z) ≡ true
    and3 x y z e f g = rw (e, f, g) refl

-- the value nests no deeper than the tree
nests : (names : List (List ℕ)) (e : Tree) → nesting (expression_value names e) ≤ depth e
nests names (Constant b) = omega arith
nests names (Variable x) = omega arith
nests names (Bracket e) = let k = nests names e in omega arith
nests names (Inverse e) = let k = nests names e in omega arith
nests names (Two o a b) = deeper (nests names a) (nests names b)
  where
    deeper : {m n j k : ℕ} → m ≤ j → n ≤ k → max m n + 1 ≤ max j k + 1
    deeper f g = omega arith
nests names (Table2 n a b) = deeper (nests names a) (nests names b)
  where
    deeper : {m n j k : ℕ} → m ≤ j → n ≤ k → max m n + 1 ≤ max j k + 1
    deeper f g = omega arith
nests names (Table3 n a b c) = deeper (nests names a) (nests names b) (nests names c)
  where
    deeper : {l m n i j k : ℕ} → l ≤ i → m ≤ j → n ≤ k → max l (max m n) + 1 ≤ max i (max j k) + 1
    deeper f g h = omega arith

small_ternaries : (names : List (List ℕ)) (e : Tree) → has_large_table e ≡ false → has_small_ternaries (expression_value names e) ≡ true
small_ternaries names (Constant b) t = refl
small_ternaries names (Variable x) t = refl
small_ternaries names (Bracket e) t = small_ternaries names e t
small_ternaries names (Inverse e) t = small_ternaries names e t
small_ternaries names (Two o a b) t =
    let s = or_parts (has_large_table a) (has_large_table b) t in
    and_from (has_small_ternaries (expression_value names a)) (has_small_ternaries (expression_value names b)) (small_ternaries names a s.0) (small_ternaries names b s.1)
small_ternaries names (Table2 n a b) t =
    let s = or_parts (nat_lt 15 (number_of n)) (has_large_table a || has_large_table b) t in
    let u = or_parts (has_large_table a) (has_large_table b) s.1 in
    and_from (has_small_ternaries (expression_value names a)) (has_small_ternaries (expression_value names b)) (small_ternaries names a u.0) (small_ternaries names b u.1)
small_ternaries names (Table3 n a b c) t =
    let s = or_parts (nat_lt 255 (number_of n)) (has_large_table a || (has_large_table b || has_large_table c)) t in
    let u = or_parts (has_large_table a) (has_large_table b || has_large_table c) s.1 in
    let v = or_parts (has_large_table b) (has_large_table c) u.1 in
    let f = has_small_ternaries (expression_value names a) in
    let g = has_small_ternaries (expression_value names b) in
    let h = has_small_ternaries (expression_value names c) in
    and_from (nat_le (number_of n) 255) (f && (g && h)) (le-leb (number_of n) 255 (ltb-false 255 (number_of n) s.0))
    (and_from f (g && h) (small_ternaries names a u.0) (and_from g h (small_ternaries names b v.0) (small_ternaries names c v.1)))

pub expression_lawful : (names : List (List ℕ)) (e : Tree) → has_unknown names (tree_variables e) ≡ false → has_large_table e ≡ false → nat_lt most_depth (depth e) ≡ false → IsExpressionText (length names) (expression_value names e)
expression_lawful names e h t d = record {
  over = is_over_names names e h t;
  ternaries = small_ternaries names e t;
  shallow = le_trans (nests names e) (ltb-false most_depth (depth e) d);
}

-- ---- names that differ have numbers that differ

named_number : (names : List (List ℕ)) (x : List ℕ) → is_among names x ≡ true → name names (number_in names x) ≡ x
named_number [] x h = cc
named_number (y ∷ ys) x h = go (bytes_eq x y) refl h (named_number ys x)
  where
    go : (t : Bool) → bytes_eq x y ≡ t → (t || is_among ys x) ≡ true → (is_among ys x ≡ true → name ys (number_in ys x) ≡ x) → name (y ∷ ys) (cond t 0 (number_in ys x + 1)) ≡ x
    go true e s more = sym ((bytes_eq-Decides x y).0 e)
    go false e s more = let one : number_in ys x + 1 ≡ suc (number_in ys x) = omega arith in ap (name (y ∷ ys)) one ∙ more s

numbered_in : (names : List (List ℕ)) (x : List ℕ) (xs : List (List ℕ)) → is_among names x ≡ true → has_unknown names xs ≡ false → IsIn (number_in names x) (map (number_in names) xs) → IsIn x xs
numbered_in names x [] h k i = absurd i
numbered_in names x (y ∷ ys) h k (inl e) =
    let p = or_parts (not (is_among names y)) (has_unknown names ys) k in
    inl (sym (named_number names y (is_known (is_among names y) p.0)) ∙ ap (name names) e ∙ named_number names x h)
numbered_in names x (y ∷ ys) h k (inr i) =
    let p = or_parts (not (is_among names y)) (has_unknown names ys) k in
    inr (numbered_in names x ys h p.1 i)

pub numbers_once : (names xs : List (List ℕ)) → has_unknown names xs ≡ false → has_twice xs ≡ false → IsOnce (map (number_in names) xs)
numbers_once names [] h t = tt
numbers_once names (x ∷ xs) h t =
    let p = or_parts (not (is_among names x)) (has_unknown names xs) h in
    let o = (twice_is_once (x ∷ xs)).0 t in (
      λ i. o.0 (numbered_in names x xs (is_known (is_among names x) p.0) p.1 i),
      numbers_once names xs p.1 ((twice_is_once xs).1 o.1),
    )

pub mapped_some : {A B : Type 0} (f : A → B) (xs : List A) → xs ≢ [] → map f xs ≢ []
mapped_some f [] h e = h refl
mapped_some f (x ∷ xs) h e = cc

pub unmapped_some : {A B : Type 0} (f : A → B) (xs : List A) → map f xs ≢ [] → xs ≢ []
unmapped_some f [] h e = h refl
unmapped_some f (x ∷ xs) h e = cc

pub numbers_some : (names xs : List (List ℕ)) → xs ≢ [] → has_unknown names xs ≡ false → has_twice xs ≡ false → AreSome (length names) (map (number_in names) xs)
numbers_some names xs s h t = record {
  some = mapped_some (number_in names) xs s;
  below = numbers_below names xs h;
  once = numbers_once names xs h t;
}
