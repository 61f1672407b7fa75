-- Lists of names, and the names of a class with a line more.
use Rattle.std.proofs.Common.{◌≡◌, ◌≢◌, ◌↔◌, inl, inr, ℕ, Bool, true, false, not, ◌||◌, cond, List, [], ◌∷◌, ◌++◌, refl, sym, ap, ◌∙◌, subst, append_assoc, append-nil}
use Rattle.std.specs.Prelude.{bytes_eq, filter, flat_map}
use Rattle.std.specs.List.{list_any}
use Rattle.std.proofs.lemmas.Bool.{or_parts, or_from, or_left, or_right, false_from_ne_true}
use Rattle.wpds_base.specs.Lists.{IsIn, IsOnce}
use Rattle.std.proofs.lemmas.Slice.Eq.{bytes_eq-Decides}
use Rattle.document_forms.specs.Forms.{LineForm, Class}
use Rattle.document_forms.specs.Above.{declared, names_on}
use Rattle.document_forms.specs.Names.{is_among, has_twice, once}

abbrev other : List ℕ → List ℕ → Bool
other x y = not (bytes_eq x y)

same_both_ways : (x y : List ℕ) → bytes_eq x y ≡ false → bytes_eq y x ≡ false
same_both_ways x y h = false_from_ne_true (bytes_eq y x) (λ e. differ (subst (λ z. bytes_eq x z ≡ true) (sym ((bytes_eq-Decides y x).0 e)) ((bytes_eq-Decides x x).1 refl)))
  where
    differ : bytes_eq x y ≡ true → ⊥
    differ k = cc

-- without a name that isn't there
filter_none : (x : List ℕ) (ys : List (List ℕ)) → is_among ys x ≡ false → filter (other x) ys ≡ ys
filter_none x [] h = refl
filter_none x (y ∷ ys) h =
    let k = or_parts (bytes_eq x y) (is_among ys x) h in
    rw (k.0, filter_none x ys k.1) refl

filter_append : (x : List ℕ) (ys zs : List (List ℕ)) → filter (other x) (ys ++ zs) ≡ filter (other x) ys ++ filter (other x) zs
filter_append x [] zs = refl
filter_append x (y ∷ ys) zs = go (other x y) (filter_append x ys zs)
  where
    go : (t : Bool) → filter (other x) (ys ++ zs) ≡ filter (other x) ys ++ filter (other x) zs
        → cond t (y ∷ filter (other x) (ys ++ zs)) (filter (other x) (ys ++ zs)) ≡ cond t (y ∷ filter (other x) ys) (filter (other x) ys) ++ filter (other x) zs
    go true e = ap (λ l. y ∷ l) e
    go false e = e

pub once_alone : (ys : List (List ℕ)) → has_twice ys ≡ false → once ys ≡ ys
once_alone [] h = refl
once_alone (y ∷ ys) h =
    let k = or_parts (is_among ys y) (has_twice ys) h in
    ap (λ l. y ∷ filter (other y) l) (once_alone ys k.1) ∙ ap (λ l. y ∷ l) (filter_none y ys k.0)

-- a name that is not among those without x, and is not x, is not among them
among_filter : (x y : List ℕ) (zs : List (List ℕ)) → bytes_eq y x ≡ false → is_among (filter (other x) zs) y ≡ false → is_among zs y ≡ false
among_filter x y [] n h = refl
among_filter x y (z ∷ zs) n h = go (bytes_eq x z) refl h (among_filter x y zs n)
  where
    go : (t : Bool) → bytes_eq x z ≡ t → list_any (bytes_eq y) (cond (not t) (z ∷ filter (other x) zs) (filter (other x) zs)) ≡ false → (is_among (filter (other x) zs) y ≡ false → is_among zs y ≡ false) → is_among (z ∷ zs) y ≡ false
    go true e g more = or_from (bytes_eq y z) (is_among zs y) (subst (λ w. bytes_eq y w ≡ false) ((bytes_eq-Decides x z).0 e) n) (more g)
    go false e g more = let k = or_parts (bytes_eq y z) (is_among (filter (other x) zs) y) g in or_from (bytes_eq y z) (is_among zs y) k.0 (more k.1)

-- none of these is among them
abbrev NoneAmong : List (List ℕ) → List (List ℕ) → Type 0
NoneAmong xs [] = Unit {0}
NoneAmong xs (y ∷ ys) = (is_among xs y ≡ false) × NoneAmong xs ys

none_among : (xs ys : List (List ℕ)) → list_any (is_among xs) ys ≡ false → NoneAmong xs ys
none_among xs [] h = tt
none_among xs (y ∷ ys) h = let k = or_parts (is_among xs y) (list_any (is_among xs) ys) h in (k.0, none_among xs ys k.1)

first_not_among : (x : List ℕ) (xs ys : List (List ℕ)) → NoneAmong (x ∷ xs) ys → is_among ys x ≡ false
first_not_among x xs [] h = refl
first_not_among x xs (y ∷ ys) h =
    let k = or_parts (bytes_eq y x) (is_among xs y) h.0 in
    or_from (bytes_eq x y) (is_among ys x) (same_both_ways y x k.0) (first_not_among x xs ys h.1)

fewer_among : (x : List ℕ) (zs ys : List (List ℕ)) → NoneAmong (x ∷ filter (other x) zs) ys → NoneAmong zs ys
fewer_among x zs [] h = tt
fewer_among x zs (y ∷ ys) h =
    let k = or_parts (bytes_eq y x) (is_among (filter (other x) zs) y) h.0 in
    (among_filter x y zs k.0 k.1, fewer_among x zs ys h.1)

-- new names come last
pub once_more : (xs ys : List (List ℕ)) → NoneAmong (once xs) ys → has_twice ys ≡ false → once (xs ++ ys) ≡ once xs ++ ys
once_more [] ys n t = once_alone ys t
once_more (x ∷ xs) ys n t =
    ap (λ l. x ∷ filter (other x) l) (once_more xs ys (fewer_among x (once xs) ys n) t)
    ∙ ap (λ l. x ∷ l) (filter_append x (once xs) ys ∙ ap (λ l. filter (other x) (once xs) ++ l) (filter_none x ys (first_not_among x (filter (other x) (once xs)) ys n)))

pub flat_map_append : (c : Class) (ls : List LineForm) (l : LineForm) → flat_map (names_on c) (ls ++ l ∷ []) ≡ flat_map (names_on c) ls ++ names_on c l
flat_map_append c [] l = append-nil (names_on c l)
flat_map_append c (k ∷ ls) l = ap (λ x. names_on c k ++ x) (flat_map_append c ls l) ∙ sym (append_assoc (names_on c k) (flat_map (names_on c) ls) (names_on c l))

-- what a class has with a line more
pub declared_more : (c : Class) (ls : List LineForm) (l : LineForm) → list_any (is_among (declared c ls)) (names_on c l) ≡ false → has_twice (names_on c l) ≡ false → declared c (ls ++ l ∷ []) ≡ declared c ls ++ names_on c l
declared_more c ls l n t =
    ap once (flat_map_append c ls l) ∙ once_more (flat_map (names_on c) ls) (names_on c l) (none_among (declared c ls) (names_on c l) n) t

-- ---- what the tests say

among_in : (xs : List (List ℕ)) (x : List ℕ) → is_among xs x ≡ true → IsIn x xs
among_in [] x h = cc
among_in (y ∷ ys) x h = go (bytes_eq x y) refl h (among_in ys x)
  where
    go : (t : Bool) → bytes_eq x y ≡ t → (t || is_among ys x) ≡ true → (is_among ys x ≡ true → IsIn x ys) → IsIn x (y ∷ ys)
    go true e s more = inl (sym ((bytes_eq-Decides x y).0 e))
    go false e s more = inr (more s)

in_among : (xs : List (List ℕ)) (x : List ℕ) → IsIn x xs → is_among xs x ≡ true
in_among [] x i = absurd i
in_among (y ∷ ys) x (inl e) = or_left (bytes_eq x y) (is_among ys x) ((bytes_eq-Decides x y).1 (sym e))
in_among (y ∷ ys) x (inr i) = or_right (bytes_eq x y) (is_among ys x) (in_among ys x i)

pub among_is_in : (xs : List (List ℕ)) (x : List ℕ) → (is_among xs x ≡ true) ↔ IsIn x xs
among_is_in xs x = (among_in xs x, in_among xs x)

not_among : (xs : List (List ℕ)) (x : List ℕ) → is_among xs x ≡ false → IsIn x xs → ⊥
not_among xs x h i = differ (sym h ∙ in_among xs x i)
  where
    differ : false ≡ true → ⊥
    differ e = cc

twice_once : (xs : List (List ℕ)) → has_twice xs ≡ false → IsOnce xs
twice_once [] h = tt
twice_once (x ∷ xs) h =
    let k = or_parts (is_among xs x) (has_twice xs) h in
    (not_among xs x k.0, twice_once xs k.1)

once_twice : (xs : List (List ℕ)) → IsOnce xs → has_twice xs ≡ false
once_twice [] h = refl
once_twice (x ∷ xs) h =
    or_from (is_among xs x) (has_twice xs)
    (false_from_ne_true (is_among xs x) (λ e. h.0 (among_in xs x e)))
    (once_twice xs h.1)

pub twice_is_once : (xs : List (List ℕ)) → (has_twice xs ≡ false) ↔ IsOnce xs
twice_is_once xs = (twice_once xs, once_twice xs)

-- ---- each name once

in_filtered : (x y : List ℕ) (xs : List (List ℕ)) → IsIn y (filter (other x) xs) → IsIn y xs × (x ≢ y)
in_filtered x y [] i = absurd i
in_filtered x y (z ∷ zs) i = go (bytes_eq x z) refl i (in_filtered x y zs)
  where
    apart : bytes_eq x z ≡ false → z ≡ y → x ≢ y
    apart n e s = clash (sym n ∙ (bytes_eq-Decides x z).1 (s ∙ sym e))
      where
        clash : false ≡ true → ⊥
        clash c = cc

    go :
        (t : Bool) → bytes_eq x z ≡ t → IsIn y (cond (not t) (z ∷ filter (other x) zs) (filter (other x) zs))
        → (IsIn y (filter (other x) zs) → IsIn y zs × (x ≢ y)) → IsIn y (z ∷ zs) × (x ≢ y)
    go true e j more = let m = more j in (inr m.0, m.1)
    go false n (inl e) more = (inl e, apart n e)
    go false n (inr j) more = let m = more j in (inr m.0, m.1)

once_filtered : (x : List ℕ) (xs : List (List ℕ)) → IsOnce xs → IsOnce (filter (other x) xs)
once_filtered x [] h = tt
once_filtered x (y ∷ ys) h = go (other x y) (once_filtered x ys h.1)
  where
    go : (t : Bool) → IsOnce (filter (other x) ys) → IsOnce (cond t (y ∷ filter (other x) ys) (filter (other x) ys))
    go true m = (λ i. h.0 (in_filtered x y ys i).0, m)
    go false m = m

pub once_is_once : (xs : List (List ℕ)) → IsOnce (once xs)
once_is_once [] = tt
once_is_once (x ∷ xs) = (λ i. (in_filtered x x (once xs) i).1 refl, once_filtered x (once xs) (once_is_once xs))

pub declared_once : (c : Class) (ls : List LineForm) → IsOnce (declared c ls)
declared_once c ls = once_is_once (flat_map (names_on c) ls)

-- new names are told among all once
pub once_joined : (known xs : List (List ℕ)) → IsOnce known → list_any (is_among known) xs ≡ false → has_twice xs ≡ false → once (known ++ xs) ≡ known ++ xs
once_joined known xs o n t =
    let alone = once_alone known (once_twice known o) in
    once_more known xs (subst (λ ks. NoneAmong ks xs) (sym alone) (none_among known xs n)) t ∙ ap (λ ks. ks ++ xs) alone

-- ---- names that are added one by one

filter_again : (x : List ℕ) (ys : List (List ℕ)) → filter (other x) (filter (other x) ys) ≡ filter (other x) ys
filter_again x [] = refl
filter_again x (y ∷ ys) = go (other x y) refl (filter_again x ys)
  where
    go : (t : Bool) → other x y ≡ t → filter (other x) (filter (other x) ys) ≡ filter (other x) ys
        → filter (other x) (cond t (y ∷ filter (other x) ys) (filter (other x) ys)) ≡ cond t (y ∷ filter (other x) ys) (filter (other x) ys)
    go true e more = rw e (ap (λ l. y ∷ l) more)
    go false e more = more

filter_swap : (x z : List ℕ) (ys : List (List ℕ)) → filter (other x) (filter (other z) ys) ≡ filter (other z) (filter (other x) ys)
filter_swap x z [] = refl
filter_swap x z (y ∷ ys) = go (other x y) (other z y) refl refl (filter_swap x z ys)
  where
    go : (s t : Bool) → other x y ≡ s → other z y ≡ t → filter (other x) (filter (other z) ys) ≡ filter (other z) (filter (other x) ys)
        → filter (other x) (cond t (y ∷ filter (other z) ys) (filter (other z) ys)) ≡ filter (other z) (cond s (y ∷ filter (other x) ys) (filter (other x) ys))
    go true true d e more = rw (d, e) (ap (λ l. y ∷ l) more)
    go true false d e more = rw e more
    go false true d e more = rw d more
    go false false d e more = more

-- a name that is left out anyway may stand there or not
filter_skip : (x : List ℕ) (ks xs : List (List ℕ)) → filter (other x) (once (ks ++ x ∷ xs)) ≡ filter (other x) (once (ks ++ xs))
filter_skip x [] xs = rw (ap not ((bytes_eq-Decides x x).1 refl)) (filter_again x (once xs))
filter_skip x (k ∷ ks) xs = go (other x k) refl (filter_skip x ks xs)
  where
    inside : filter (other x) (once (ks ++ x ∷ xs)) ≡ filter (other x) (once (ks ++ xs)) → filter (other x) (filter (other k) (once (ks ++ x ∷ xs))) ≡ filter (other x) (filter (other k) (once (ks ++ xs)))
    inside more = filter_swap x k (once (ks ++ x ∷ xs)) ∙ ap (filter (other k)) more ∙ sym (filter_swap x k (once (ks ++ xs)))

    go : (t : Bool) → other x k ≡ t → filter (other x) (once (ks ++ x ∷ xs)) ≡ filter (other x) (once (ks ++ xs))
        → cond t (k ∷ filter (other x) (filter (other k) (once (ks ++ x ∷ xs)))) (filter (other x) (filter (other k) (once (ks ++ x ∷ xs)))) ≡ cond t (k ∷ filter (other x) (filter (other k) (once (ks ++ xs)))) (filter (other x) (filter (other k) (once (ks ++ xs))))
    go true e more = ap (λ l. k ∷ l) (inside more)
    go false e more = inside more

-- a name that is known adds nothing
pub once_known : (ks : List (List ℕ)) (x : List ℕ) (xs : List (List ℕ)) → is_among ks x ≡ true → once (ks ++ x ∷ xs) ≡ once (ks ++ xs)
once_known [] x xs h = cc
once_known (k ∷ ks) x xs h = go (bytes_eq x k) refl h (once_known ks x xs)
  where
    go : (t : Bool) → bytes_eq x k ≡ t → (t || is_among ks x) ≡ true → (is_among ks x ≡ true → once (ks ++ x ∷ xs) ≡ once (ks ++ xs)) → once ((k ∷ ks) ++ x ∷ xs) ≡ once ((k ∷ ks) ++ xs)
    go true e i more = let same : x ≡ k = (bytes_eq-Decides x k).0 e in ap (λ l. k ∷ l) (subst (λ y. filter (other y) (once (ks ++ x ∷ xs)) ≡ filter (other y) (once (ks ++ xs))) same (filter_skip x ks xs))
    go false e i more = ap (λ l. k ∷ filter (other k) l) (more i)

among_either : (ks : List (List ℕ)) (x y : List ℕ) → is_among (ks ++ x ∷ []) y ≡ (is_among ks y || bytes_eq y x)
among_either [] x y = or_none (bytes_eq y x)
  where
    or_none : (t : Bool) → (t || false) ≡ t
    or_none true = refl
    or_none false = refl
among_either (k ∷ ks) x y = ap (λ t. bytes_eq y k || t) (among_either ks x y) ∙ grouped (bytes_eq y k) (is_among ks y) (bytes_eq y x)
  where
    grouped : (a b c : Bool) → (a || (b || c)) ≡ ((a || b) || c)
    grouped true b c = refl
    grouped false b c = refl

equal_both_ways : (x y : List ℕ) → bytes_eq x y ≡ bytes_eq y x
equal_both_ways x y = go (bytes_eq x y) refl
  where
    go : (t : Bool) → bytes_eq x y ≡ t → t ≡ bytes_eq y x
    go true e = sym ((bytes_eq-Decides y x).1 (sym ((bytes_eq-Decides x y).0 e)))
    go false e = sym (same_both_ways x y e)

any_either : (ks : List (List ℕ)) (x : List ℕ) (xs : List (List ℕ)) → list_any (is_among (ks ++ x ∷ [])) xs ≡ (list_any (is_among ks) xs || is_among xs x)
any_either ks x [] = refl
any_either ks x (y ∷ ys) =
    ap (λ t. t || list_any (is_among (ks ++ x ∷ [])) ys) (among_either ks x y ∙ ap (λ t. is_among ks y || t) (equal_both_ways y x))
    ∙ ap (λ t. (is_among ks y || bytes_eq x y) || t) (any_either ks x ys)
    ∙ mixed (is_among ks y) (bytes_eq x y) (list_any (is_among ks) ys) (is_among ys x)
  where
    mixed : (a b c d : Bool) → ((a || b) || (c || d)) ≡ ((a || c) || (b || d))
    mixed true b c d = refl
    mixed false true true d = refl
    mixed false true false d = refl
    mixed false false c d = refl

-- one of these names is known, or stands twice
abbrev pub has_known : List (List ℕ) → List (List ℕ) → Bool
has_known ks xs = has_twice xs || list_any (is_among ks) xs

pub known_first : (ks : List (List ℕ)) (x : List ℕ) (xs : List (List ℕ)) → is_among ks x ≡ true → has_known ks (x ∷ xs) ≡ true
known_first ks x xs h = rw h (any_true (is_among xs x || has_twice xs))
  where
    any_true : (t : Bool) → (t || true) ≡ true
    any_true true = refl
    any_true false = refl

pub known_next : (ks : List (List ℕ)) (x : List ℕ) (xs : List (List ℕ)) → is_among ks x ≡ false → has_known ks (x ∷ xs) ≡ has_known (ks ++ x ∷ []) xs
known_next ks x xs h = rw h (turned (is_among xs x) (has_twice xs) (list_any (is_among ks) xs) ∙ ap (λ t. has_twice xs || t) (sym (any_either ks x xs)))
  where
    turned : (a b c : Bool) → ((a || b) || c) ≡ (b || (c || a))
    turned true true c = refl
    turned true false true = refl
    turned true false false = refl
    turned false true c = refl
    turned false false true = refl
    turned false false false = refl
