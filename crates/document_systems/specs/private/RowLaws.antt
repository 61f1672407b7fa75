-- What texts in a row tell, where none of them has the mark between them; and rows of names.
use Rattle.std.proofs.Common.{◌≡◌, ◌≢◌, ℕ, zero, suc, ◌+◌, ◌<◌, Bool, true, false, cond, ◌||◌, ◌==◌, IsTrue, nat_eq, All, List, [], ◌∷◌, ◌++◌, filter, length, map, refl, sym, ap, ◌∙◌, subst, inl, inr, arith, eq-eqb}
use Rattle.std.specs.List.{join_with_byte, list_all, range_with_len, slice_split}
use Rattle.std.proofs.lemmas.Bool.{and_parts, and_from, ne_eqb}
use Rattle.std.proofs.lemmas.List.Elements.{All-nil, All-cons, All-head, All-tail, All-weaker}
use Rattle.std.proofs.lemmas.List.Splits.{slice_split_at, slice_split_none}
use Rattle.std.proofs.lemmas.List.Sums.{AllPass-from_list_all}
use Rattle.wpds_base.specs.Lists.{IsIn, IsOnce}
use Rattle.wpds_port.specs.Tokens.{begins_name, goes_on_name, is_digit, is_name_text}
use Rattle.document_forms.specs.Names.{name}
use Rattle.document_systems.specs.ValueTexts.{names_where, or_one}

-- ---- texts without a byte

abbrev pub Lacks : ℕ → List ℕ → Type 0
Lacks c text = All (λ b. nat_eq b c ≡ false) text

cut : (c : ℕ) (x : List ℕ) (xs : List (List ℕ)) → All (Lacks c) (x ∷ xs) → slice_split (λ b. nat_eq b c) (join_with_byte c (x ∷ xs)) ≡ x ∷ xs
cut c x [] free = slice_split_none (λ b. nat_eq b c) x (All-head (Lacks c) x [] free)
cut c x (y ∷ ys) free =
    slice_split_at (λ b. nat_eq b c) x c (join_with_byte c (y ∷ ys)) (All-head (Lacks c) x (y ∷ ys) free) (eq-eqb c c refl)
    ∙ ap (λ r. x ∷ r) (cut c y ys (All-tail (Lacks c) x (y ∷ ys) free))

-- a row tells its texts, one or more of them, where none has the byte between them
pub rows_tell : (c : ℕ) (x y : List ℕ) (xs ys : List (List ℕ)) → All (Lacks c) (x ∷ xs) → All (Lacks c) (y ∷ ys)
    → join_with_byte c (x ∷ xs) ≡ join_with_byte c (y ∷ ys) → x ∷ xs ≡ y ∷ ys
rows_tell c x y xs ys free free' e = sym (cut c x xs free) ∙ ap (slice_split (λ b. nat_eq b c)) e ∙ cut c y ys free'

-- ---- what no name is

differ : true ≡ false → ⊥
differ e = cc

-- what passes a test is nothing that does not pass it
pub passes_apart : {X : Type 0} (test : X → Bool) (x y : X) → test y ≡ false → test x ≡ true → x ≢ y
passes_apart test x y fails passes e = differ (sym passes ∙ ap test e ∙ fails)

-- bytes that pass a test lack one that does not
pub passing_lack : (test : ℕ → Bool) (c : ℕ) → test c ≡ false → (bs : List ℕ) → list_all test bs ≡ true → Lacks c bs
passing_lack test c fails bs all =
    All-weaker (λ b. test b ≡ true) (λ b. nat_eq b c ≡ false) (λ b passes. ne_eqb b c (passes_apart test b c fails passes)) bs
    (AllPass-from_list_all test bs all)

-- what begins a name goes on one
goes_on : (begins digit dollar at : Bool) → begins ≡ true → (begins || digit || dollar || at) ≡ true
goes_on true digit dollar at is = refl
goes_on false digit dollar at is = cc

-- a name lacks each byte that does not go on a name
pub names_lack : (c : ℕ) → goes_on_name c ≡ false → (x : List ℕ) → IsTrue (is_name_text x) → Lacks c x
names_lack c fails [] is = cc
names_lack c fails (b ∷ bs) is =
    let parts = and_parts (begins_name b) (list_all goes_on_name bs) is in
    passing_lack goes_on_name c fails (b ∷ bs)
    (and_from (goes_on_name b) (list_all goes_on_name bs) (goes_on (begins_name b) (is_digit b) (b == 36) (b == 64) parts.0) parts.1)

-- ---- lists with a text between, or a text in place of none

-- an element that is in neither front tells the fronts
pub parts_tell : {X : Type 0} (y : X) (xs ys more rest : List X) → All (λ x. x ≢ y) xs → All (λ x. x ≢ y) ys
    → xs ++ y ∷ more ≡ ys ++ y ∷ rest → (xs ≡ ys) × (more ≡ rest)
parts_tell y [] [] more rest free free' e = (refl, cc)
parts_tell y [] (z ∷ zs) more rest free free' e = let is : z ≡ y = cc in absurd (All-head (λ x. x ≢ y) z zs free' is)
parts_tell y (x ∷ xs) [] more rest free free' e = let is : x ≡ y = cc in absurd (All-head (λ x. x ≢ y) x xs free is)
parts_tell y (x ∷ xs) (z ∷ zs) more rest free free' e =
    let first : x ≡ z = cc in
    let others : xs ++ y ∷ more ≡ zs ++ y ∷ rest = cc in
    let parts = parts_tell y xs zs more rest (All-tail (λ x. x ≢ y) x xs free) (All-tail (λ x. x ≢ y) z zs free') others in
    (cc, parts.1)

pub or_one_tells : (t : List ℕ) (xs ys : List (List ℕ)) → All (λ x. x ≢ t) xs → All (λ x. x ≢ t) ys → or_one t xs ≡ or_one t ys → xs ≡ ys
or_one_tells t [] [] free free' e = refl
or_one_tells t [] (y ∷ ys) free free' e = let is : y ≡ t = cc in absurd (All-head (λ x. x ≢ t) y ys free' is)
or_one_tells t (x ∷ xs) [] free free' e = let is : x ≡ t = cc in absurd (All-head (λ x. x ≢ t) x xs free is)
or_one_tells t (x ∷ xs) (y ∷ ys) free free' e = e

pub or_one_keeps : (P : List ℕ → Type 0) (t : List ℕ) (xs : List (List ℕ)) → P t → All P xs → All P (or_one t xs)
or_one_keeps P t [] here all = All-cons P t [] here all
or_one_keeps P t (x ∷ xs) here all = all

-- ---- the names whose numbers pass a test

-- those among so many numbers from here on
names_from : List (List ℕ) → (ℕ → Bool) → (from count : ℕ) → List (List ℕ)
names_from names test from count = map (name names) (filter test (range_with_len from count))

map_cond : (f : ℕ → List ℕ) (b : Bool) (k : ℕ) (ks : List ℕ) → map f (cond b (k ∷ ks) ks) ≡ cond b (f k ∷ map f ks) (map f ks)
map_cond f true k ks = refl
map_cond f false k ks = refl

-- without the first name each number is one less
one_less : (x : List ℕ) (xs : List (List ℕ)) (test : ℕ → Bool) (from count : ℕ)
    → names_from (x ∷ xs) test (suc from) count ≡ names_from xs (λ k. test (suc k)) from count
unfolding names_from
one_less x xs test from zero = refl
one_less x xs test from (suc count) =
    let next : suc from + 1 ≡ suc (from + 1) = omega arith in
    let shifted = ap (λ k. names_from (x ∷ xs) test k count) next ∙ one_less x xs test (from + 1) count in
    map_cond (name (x ∷ xs)) (test (suc from)) (suc from) (filter test (range_with_len (suc from + 1) count))
    ∙ ap (λ r. cond (test (suc from)) (name xs from ∷ r) r) shifted
    ∙ sym (map_cond (name xs) (test (suc from)) from (filter (λ k. test (suc k)) (range_with_len (from + 1) count)))

first_name : (x : List ℕ) (xs : List (List ℕ)) (test : ℕ → Bool)
    → names_where (x ∷ xs) test ≡ cond (test 0) (x ∷ names_where xs (λ k. test (suc k))) (names_where xs (λ k. test (suc k)))
unfolding names_from
first_name x xs test =
    map_cond (name (x ∷ xs)) (test 0) 0 (filter test (range_with_len 1 (length xs)))
    ∙ ap (λ r. cond (test 0) (x ∷ r) r) (one_less x xs test 0 (length xs))

one_more : (P : List ℕ → Type 0) (b : Bool) (x : List ℕ) (xs : List (List ℕ)) → P x → All P xs → All P (cond b (x ∷ xs) xs)
one_more P true x xs here all = All-cons P x xs here all
one_more P false x xs here all = all

-- what holds of all names holds of these
pub all_names_where : (P : List ℕ → Type 0) (names : List (List ℕ)) (test : ℕ → Bool) → All P names → All P (names_where names test)
all_names_where P [] test all = All-nil P
all_names_where P (x ∷ xs) test all =
    subst (All P) (sym (first_name x xs test))
    (one_more P (test 0) x _ (All-head P x xs all) (all_names_where P xs (λ k. test (suc k)) (All-tail P x xs all)))

others_apart : (x : List ℕ) (xs : List (List ℕ)) → (IsIn x xs → ⊥) → All (λ y. y ≢ x) xs
others_apart x [] none = All-nil (λ y. y ≢ x)
others_apart x (y ∷ ys) none = All-cons (λ y. y ≢ x) y ys (λ e. none (inl e)) (others_apart x ys (λ there. none (inr there)))

first_agrees : (x : List ℕ) (xs ys : List (List ℕ)) (a b : Bool) → All (λ y. y ≢ x) xs → All (λ y. y ≢ x) ys
    → cond a (x ∷ xs) xs ≡ cond b (x ∷ ys) ys → (a ≡ b) × (xs ≡ ys)
first_agrees x xs ys true true free free' e = (refl, cc)
first_agrees x xs ys true false free free' e = absurd (All-head (λ y. y ≢ x) x xs (subst (All (λ y. y ≢ x)) (sym e) free') refl)
first_agrees x xs ys false true free free' e = absurd (All-head (λ y. y ≢ x) x ys (subst (All (λ y. y ≢ x)) e free) refl)
first_agrees x xs ys false false free free' e = (refl, e)

-- the first name and the others tell the test that they pass
first_tells : (x : List ℕ) (xs : List (List ℕ)) → IsOnce (x ∷ xs) → (p q : ℕ → Bool) → names_where (x ∷ xs) p ≡ names_where (x ∷ xs) q
    → (p 0 ≡ q 0) × (names_where xs (λ k. p (suc k)) ≡ names_where xs (λ k. q (suc k)))
first_tells x xs once p q e =
    let apart = others_apart x xs once.0 in
    first_agrees x (names_where xs (λ k. p (suc k))) (names_where xs (λ k. q (suc k))) (p 0) (q 0)
    (all_names_where (λ y. y ≢ x) xs (λ k. p (suc k)) apart) (all_names_where (λ y. y ≢ x) xs (λ k. q (suc k)) apart)
    (sym (first_name x xs p) ∙ e ∙ first_name x xs q)

-- names that stand once tell the test that they pass
pub names_tell : (names : List (List ℕ)) → IsOnce names → (p q : ℕ → Bool) → names_where names p ≡ names_where names q
    → (k : ℕ) → k < length names → p k ≡ q k
names_tell [] once p q e k below = absurd (omega (arith, below))
names_tell (x ∷ xs) once p q e zero below = (first_tells x xs once p q e).0
names_tell (x ∷ xs) once p q e (suc k) below =
    names_tell xs once.1 (λ n. p (suc n)) (λ n. q (suc n)) (first_tells x xs once p q e).1 k (omega (arith, below))
