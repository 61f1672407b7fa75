-- The patterns of an accepted query keep to what every pattern of a document keeps to.
use Rattle.std.proofs.Common.{◌≡◌, inl, inr, ℕ, ◌+◌, ◌<◌, ◌≤◌, Bool, true, false, not, cond, ◌||◌, List, [], ◌∷◌, ◌++◌, map, length, None, refl, sym, ap, ◌∙◌, subst, arith}
use Rattle.std.specs.Prelude.{All, bytes_eq, flat_map, nat_lt, nat_le}
use Rattle.std.specs.List.{list_any}
use Rattle.std.proofs.lemmas.Bool.{or_parts, ltb-false}
use Rattle.std.proofs.lemmas.List.Elements.{All-nil, All-cons}
use Rattle.std.proofs.lemmas.Slice.Eq.{bytes_eq-Decides}
use Rattle.wpds_base.specs.Faults.{first_fault}
use Rattle.wpds_base.specs.Lists.{IsIn, IsOnce}
use Rattle.wpds_base.specs.Limits.{most_items, most_edges, most_queries}
use Rattle.document_forms.specs.Names.{is_among, has_unknown, has_twice, number_in}
use Rattle.document_forms.specs.Patterns.{SetForm, Dotted, Bare, Braced, ItemForm, PatternForm}
use Rattle.wpds_port.specs.declared.Kind.TheVariants.{Twice, Unknown, Count}
use Rattle.document_forms.specs.Above.{Above}
use Rattle.document_forms.specs.Kinds.{set_names, pattern_symbols, has_symbol_twice, set_size, item_size, edges, is_large, query_conditions}
use Rattle.document_forms.specs.Documents.{set_value, item_value, pattern_value, query_value}
use Rattle.document_forms.specs.Lawful.{IsSetText, set_count, item_count, IsPatternText, IsQueryLine}
use Rattle.document_forms.proofs.NameLemmas.{among_is_in}
use Rattle.document_forms.proofs.LawfulLemmas.{numbers_below, known_parts, is_known}
use Rattle.document_forms.proofs.RuleLemmas.{first_false, first_known, length_numbers}

-- ---- two names have two numbers

same_name : (names : List (List ℕ)) (x y : List ℕ) → is_among names x ≡ true → is_among names y ≡ true → number_in names x ≡ number_in names y → x ≡ y
same_name [] x y h k e = cc
same_name (z ∷ zs) x y h k e = go (bytes_eq x z) (bytes_eq y z) refl refl h k e (same_name zs x y)
  where
    go :
        (s t : Bool) → bytes_eq x z ≡ s → bytes_eq y z ≡ t → (s || is_among zs x) ≡ true → (t || is_among zs y) ≡ true
        → cond s 0 (number_in zs x + 1) ≡ cond t 0 (number_in zs y + 1)
        → (is_among zs x ≡ true → is_among zs y ≡ true → number_in zs x ≡ number_in zs y → x ≡ y) → x ≡ y
    go true true a b i j n more = (bytes_eq-Decides x z).0 a ∙ sym ((bytes_eq-Decides y z).0 b)
    go true false a b i j n more = let no : ⊥ = omega arith in absurd no
    go false true a b i j n more = let no : ⊥ = omega arith in absurd no
    go false false a b i j n more = more i j (omega arith)

name_in : (names : List (List ℕ)) (x : List ℕ) (xs : List (List ℕ)) → is_among names x ≡ true → has_unknown names xs ≡ false → IsIn (number_in names x) (map (number_in names) xs) → IsIn x xs
name_in names x [] h k i = absurd i
name_in names x (y ∷ ys) h k i =
    let m = or_parts (not (is_among names y)) (has_unknown names ys) k in
    elim i [
      | inl e ↦ inl (same_name names y x (is_known (is_among names y) m.0) h e)
      | inr j ↦ inr (name_in names x ys h m.1 j)
    ]

not_in : (xs : List (List ℕ)) (x : List ℕ) → is_among xs x ≡ false → IsIn x xs → ⊥
not_in xs x h i = differ (sym h ∙ (among_is_in xs x).1 i)
  where
    differ : false ≡ true → ⊥
    differ e = cc

numbers_once : (names xs : List (List ℕ)) → has_unknown names xs ≡ false → has_twice xs ≡ false → IsOnce (map (number_in names) xs)
numbers_once names [] h t = tt
numbers_once names (x ∷ xs) h t =
    let k = or_parts (not (is_among names x)) (has_unknown names xs) h in
    let m = or_parts (is_among xs x) (has_twice xs) t in
    ((λ i. not_in xs x m.0 (name_in names x xs (is_known (is_among names x) k.0) k.1 i)), numbers_once names xs k.1 m.1)

-- ---- patterns

set_lawful : (symbols : List (List ℕ)) (s : SetForm) → has_unknown symbols (set_names s) ≡ false → has_twice (set_names s) ≡ false → IsSetText (length symbols) (set_value symbols s)
set_lawful symbols Dotted h t = tt
set_lawful symbols (Bare x) h t = (numbers_below symbols (x ∷ []) h, numbers_once symbols (x ∷ []) h t)
set_lawful symbols (Braced xs) h t = (numbers_below symbols xs h, numbers_once symbols xs h t)

items_lawful : (symbols : List (List ℕ)) (is : List ItemForm) → has_unknown symbols (flat_map (λ i. set_names i.set) is) ≡ false → list_any (λ i. has_twice (set_names i.set)) is ≡ false → All (λ i. IsSetText (length symbols) i.set) (map (item_value symbols) is)
items_lawful symbols [] h t = All-nil (λ i. IsSetText (length symbols) i.set)
items_lawful symbols (i ∷ is) h t =
    let k = known_parts symbols (set_names i.set) (flat_map (λ j. set_names j.set) is) h in
    let m = or_parts (has_twice (set_names i.set)) (list_any (λ j. has_twice (set_names j.set)) is) t in
    All-cons (λ j. IsSetText (length symbols) j.set) (item_value symbols i) (map (item_value symbols) is) (set_lawful symbols i.set k.0 m.0) (items_lawful symbols is k.1 m.1)

length_items : (symbols : List (List ℕ)) (is : List ItemForm) → length (map (item_value symbols) is) ≡ length is
length_items symbols [] = refl
length_items symbols (i ∷ is) = let e = length_items symbols is in omega arith

same_counts : (all : ℕ) (symbols : List (List ℕ)) (is : List ItemForm) → map (item_count all) (map (item_value symbols) is) ≡ map (item_size all) is
same_counts all symbols [] = refl
same_counts all symbols (i ∷ is) = ap (λ n. (n, i.star) ∷ map (item_count all) (map (item_value symbols) is)) (one i.set) ∙ ap (λ l. item_size all i ∷ l) (same_counts all symbols is)
  where
    one : (s : SetForm) → set_count all (set_value symbols s) ≡ set_size all s
    one Dotted = refl
    one (Bare x) = refl
    one (Braced xs) = length_numbers symbols xs

pattern_lawful : (all : ℕ) (controls symbols : List (List ℕ)) (p : PatternForm) → number_in controls p.control < length controls → has_unknown symbols (pattern_symbols p) ≡ false → has_symbol_twice p ≡ false → is_large all p ≡ false → IsPatternText all (length controls) (length symbols) (pattern_value controls symbols p)
pattern_lawful all controls symbols p c h t l =
    let m = or_parts (nat_lt most_items (length p.items)) (nat_lt most_edges (edges 1 (map (item_size all) p.items))) l in
    let few = ltb-false most_items (length p.items) m.0 in
    let same = length_items symbols p.items in
    record {
      control = c;
      items = items_lawful symbols p.items h t;
      few = omega arith;
      edges = subst (λ is. edges 1 is ≤ most_edges) (sym (same_counts all symbols p.items)) (ltb-false most_edges (edges 1 (map (item_size all) p.items)) m.1);
    }

or3 : (a b c : Bool) → (a || b || c) ≡ false → (a ≡ false) × (b ≡ false) × (c ≡ false)
or3 false false false h = (refl, refl, refl)
or3 _ _ _ h = cc

pub query_lawful : (all : ℕ) (a : Above) (p q : PatternForm) → first_fault (query_conditions all a p q) ≡ None → IsQueryLine all (length a.controls) (length a.symbols) (query_value a p q)
query_lawful all a p q h =
    let twice = has_symbol_twice p || has_symbol_twice q in
    let unknown = has_unknown a.controls (p.control ∷ q.control ∷ []) || has_unknown a.symbols (pattern_symbols p ++ pattern_symbols q) in
    let count = is_large all p || is_large all q || nat_le most_queries a.queries in
    let k = first_false twice Twice ((unknown, Unknown) ∷ (count, Count) ∷ []) h in
    let l = first_false unknown Unknown ((count, Count) ∷ []) k.1 in
    let m = first_false count Count [] l.1 in
    let t = or_parts (has_symbol_twice p) (has_symbol_twice q) k.0 in
    let u = or_parts (has_unknown a.controls (p.control ∷ q.control ∷ [])) (has_unknown a.symbols (pattern_symbols p ++ pattern_symbols q)) l.0 in
    let n = or3 (is_large all p) (is_large all q) (nat_le most_queries a.queries) m.0 in
    let c = first_known a.controls p.control (q.control ∷ []) u.0 in
    let d = first_known a.controls q.control [] c.1 in
    let s = known_parts a.symbols (pattern_symbols p) (pattern_symbols q) u.1 in
    record {
      from = pattern_lawful all a.controls a.symbols p c.0 s.0 t.0 n.0;
      to = pattern_lawful all a.controls a.symbols q d.0 s.1 t.1 n.1;
    }
