-- The texts of relations tell the relations.
use Rattle.std.proofs.Common.{◌≡◌, ◌≢◌, ℕ, zero, suc, ◌+◌, ◌*◌, ◌^◌, ◌<◌, ◌≤◌, Bool, true, false, cond, List, [], ◌∷◌, ◌++◌, fold, length, map, refl, sym, ap, ap₂, subst, ◌∙◌, inl, inr, append-nil, append_assoc, arith}
use Rattle.std.specs.Prelude.{◌↔◌, ◌⊎◌, ◌/◌, ◌%◌, All, IsTrue, nat_eq, drop, codes, decimal, Some, slice_get, slice_index_or}
use Rattle.std.specs.List.{AllByRecursion, join_with_byte, range_with_len}
use Rattle.std.specs.Str.Parse.{AllDigits}
use Rattle.std.proofs.Math.Logic.{∥∥₁_elim}
use Rattle.std.proofs.Props.{props}
use Rattle.std.proofs.lemmas.Bool.{true≢false, cases_lt, eqb-true, eq-eqb, lt-ltb}
use Rattle.std.proofs.lemmas.Fmt.{decimal_injective, decimal_is_IsNumeral}
use Rattle.std.proofs.lemmas.List.{append_cancel_left}
use Rattle.std.proofs.lemmas.List.Elements.{All-from_recursion, recursion_from_All, All-weaker}
use Rattle.std.proofs.lemmas.List.FromFn.{get_or-map-range_with_len, length-map-range_with_len}
use Rattle.std.proofs.lemmas.Str.Parse.{digit_from_value}
use Rattle.wpds_base.specs.Limits.{most_related}
use Rattle.wpds_base.specs.Lists.{IsIn, IsOnce}
use Rattle.wpds_port.specs.Tokens.{goes_on_name}
use Rattle.diagram_store.specs.declared.branch.Branch.{Branch}
use Rattle.diagram_store.specs.Nodes.{node_at, IsReduced, HasVariablesBelow}
use Rattle.diagram_store.specs.Meaning.{value_at}
use Rattle.diagram_store.specs.Canonical.{IsWalked, constant, again, leaves, IsCanonical}
use Rattle.diagram_store.proofs.CallerLemmas.{canonical_is_one, constant_canonical, from_parts, value_at_end}
use Rattle.diagram_ops.specs.Quantifying.{is_listed}
use Rattle.diagram_ops.specs.Relations.{of_states}
use Rattle.diagram_ops.proofs.CallerLemmas.{no_variables}
use Rattle.relation_laws.specs.Building.{Parts}
use Rattle.relation_laws.specs.Relations.{Pairs, leads, relation_of, no_pairs}
use Rattle.relation_laws.proofs.CallerLemmas.{each_from, is_relation_of, pairs_same, parts_same, relation_fits}
use Rattle.semiring_laws.specs.Semiring.{Fits, FitsMap}
use Rattle.relation_weights.specs.declared.rel_map.Slot.{Slot}
use Rattle.relation_weights.specs.declared.rel_map.Slot.TheVariants.{Caller, Callee}
use Rattle.relation_weights.specs.Relations.{relation_operations, slot_fits}
use Rattle.relation_weights.specs.RelationLaws.{fits_by, fits_in, relation_laws}
use Rattle.document_forms.specs.declared.weight.Action.{Action}
use Rattle.document_forms.specs.declared.weight.WeightText.{WeightText}
use Rattle.document_forms.specs.declared.weight.WeightText.TheVariants.{One, Zero, Number, Facts, Forms, Actions}
use Rattle.document_forms.specs.declared.document.Move.{Move}
use Rattle.document_forms.specs.declared.document.MapText.{MapText}
use Rattle.document_forms.specs.Names.{name}
use Rattle.document_forms.specs.Lawful.{AreNames}
use Rattle.document_systems.specs.RelationWeights.{allowed, and_then, relation_weight, moved_from, slot_of, relation_map, IsRelationMap, label, node_text, diagram_text, relation_text, IsToldByRelation}
use Rattle.document_systems.specs.ValueTexts.{or_one}
use Rattle.document_systems.specs.private.NodeCounts.{HasReferences, has_references}
use Rattle.document_systems.specs.private.RowLaws.{Lacks, names_lack, or_one_tells}
use Rattle.document_systems.specs.private.RowLaws.{parts_tell as fronts_tell}
use Rattle.document_systems.specs.private.PartLaws.{IsFree, AreFree, free_test, free_append, marked, row_tells}

-- ---- what is worth something fits

made_fits : (n : ℕ) (p : Pairs) → Fits (relation_operations n) (relation_of n p)
made_fits n p = fits_by n (relation_of n p) (relation_fits n p)

pub done_fits : (n : ℕ) (acts : List Action) (w : Parts) → Fits (relation_operations n) w → Fits (relation_operations n) (fold (and_then n) w acts)
done_fits n [] w fit = fit
done_fits n (a ∷ acts) w fit =
    done_fits n acts (and_then n w a) ((relation_laws n).fits-extend w (relation_of n (allowed n a)) fit (made_fits n (allowed n a)))

pub relation_weights_fit : (n : ℕ) (t : WeightText) → Fits (relation_operations n) (relation_weight n t)
relation_weights_fit n Zero = (relation_laws n).fits-zero
relation_weights_fit n (Actions acts) = done_fits n acts (relation_operations n).one (relation_laws n).fits-one
relation_weights_fit n One = (relation_laws n).fits-one
relation_weights_fit n (Number k) = (relation_laws n).fits-one
relation_weights_fit n (Facts ss) = (relation_laws n).fits-one
relation_weights_fit n (Forms ps) = (relation_laws n).fits-one

pub moved_below : (n : ℕ) (ms : List Move) → AllByRecursion (λ k. k < n) (map (λ m. m.from) ms) → (v : ℕ) → v < n → moved_from ms v < n
moved_below n [] all v low = low
moved_below n (m ∷ ms) all v low = go (nat_eq m.to v) (moved_below n ms all.1 v low)
  where
    go : (b : Bool) → moved_from ms v < n → cond b m.from (moved_from ms v) < n
    go true rest = all.0
    go false rest = rest

slot_below : (n : ℕ) (m : MapText) → AllByRecursion (λ k. k < n) (map (λ v. v.from) m.moves) → (v : ℕ) → v < n → slot_fits n (slot_of m v) ≡ true
slot_below n m all v low = go (is_listed m.restore v)
  where
    go : (b : Bool) → slot_fits n (cond b Caller (Callee (moved_from m.moves v))) ≡ true
    go true = refl
    go false = lt-ltb (moved_from m.moves v) n (moved_below n m.moves all v low)

past : (xs : List Slot) (i : ℕ) → length xs ≤ i → slice_index_or xs i Caller ≡ Caller
past [] zero low = refl
past [] (suc i) low = refl
past (x ∷ xs) zero low = absurd (omega (arith, low))
past (x ∷ xs) (suc i) low = past xs i (omega (arith, low))

pub relation_maps_fit : (n : ℕ) (m : MapText) → IsRelationMap n m → FitsMap (relation_operations n) (relation_map m)
relation_maps_fit n m is =
    let all = recursion_from_All (λ k. k < n) (map (λ v. v.from) m.moves) is.1.from in
    let slots = map (slot_of m) (range_with_len 0 most_related) in
    each_from n (λ v. slot_fits n (slice_index_or slots v Caller)) (λ v low. elim (cases_lt v most_related) [
      | inl within ↦ ap (slot_fits n) (get_or-map-range_with_len (slot_of m) 0 most_related v v Caller within (omega arith)) ∙ slot_below n m all v low
      | inr beyond ↦ ap (slot_fits n) (past slots v (omega (arith, beyond, length-map-range_with_len (slot_of m) 0 most_related)))
    ])

-- ---- zero

starts_apart : (names : List (List ℕ)) (nodes : List Branch) → diagram_text names nodes ≡ codes "unreachable" → ⊥
starts_apart names nodes e = let first : ◌≡◌ {A = ℕ} 114 117 = cc in omega (arith, first)

at_zero : (nodes : List Branch) (r : ℕ) → r ≡ 0 → (bits : ℕ → Bool) → value_at nodes r bits ≡ false
at_zero nodes r none bits = ap (λ s. value_at nodes s bits) none ∙ value_at_end nodes 0 bits refl

abbrev no_parts : Parts
no_parts = record { root = 0; nodes = [] }

zero_is : (n : ℕ) → no_parts ≡ relation_of n no_pairs
zero_is n =
    is_relation_of n no_parts (constant_canonical [] 0 refl (omega arith)) (no_variables (2 * n) [] refl) no_pairs
    (λ x y. value_at_end [] 0 (of_states x y) refl)

no_pairs_at : (n : ℕ) (w : Parts) → Fits (relation_operations n) w → w.root ≡ 0 → w ≡ relation_of n no_pairs
no_pairs_at n w fit none = sym (fits_in n w fit) ∙ pairs_same n (leads w) no_pairs (λ x y. at_zero w.nodes w.root none (of_states x y))

pub relation_zero : (n : ℕ) (names : List (List ℕ)) (w : Parts) → Unit {0} → Fits (relation_operations n) w → (relation_text names w ≡ codes "unreachable") ↔ (w ≡ (relation_operations n).zero)
relation_zero n names w named fit = (λ e. go (nat_eq w.root 0) refl e, λ e. ap (relation_text names) (e ∙ sym (zero_is n)))
  where
    go : (b : Bool) → nat_eq w.root 0 ≡ b → cond b (codes "unreachable") (diagram_text names w.nodes) ≡ codes "unreachable" → w ≡ relation_of n no_pairs
    go true is e = no_pairs_at n w fit (eqb-true w.root 0 is)
    go false is e = absurd (starts_apart names w.nodes e)

-- ---- the root is the last node, or a constant where there is none

abbrev Ends : List Branch → ℕ → List Branch → Type 0
Ends nodes r all =
    ((all ≡ []) × (r < 2)) ⊎ ((front : List Branch) × (n : Branch) × (all ≡ front ++ n ∷ []) × (node_at nodes r ≡ Some n))

walk_ends : (nodes left : List Branch) (r : ℕ) (all : List Branch) → IsWalked nodes left r all → left ≡ [] → Ends nodes r all
walk_ends nodes left r all (constant small) none = inl (none, small)
walk_ends nodes left r all (again {n = n} at is) none = absurd (subst (λ (l : List Branch). IsIn n l) none is)
walk_ends nodes left r all (leaves {after = after} {n = n} at low high) none = inr (after, n, refl, at)

some_last : (xs : List Branch) (a : Branch) → [] ≡ xs ++ a ∷ [] → ⊥
some_last [] a e = cc
some_last (x ∷ xs) a e = cc

last_same : (xs ys : List Branch) (a b : Branch) → xs ++ a ∷ [] ≡ ys ++ b ∷ [] → a ≡ b
last_same [] [] a b e = cc
last_same [] (y ∷ ys) a b e = absurd (some_last ys b (ap (drop 1) e))
last_same (x ∷ xs) [] a b e = absurd (some_last xs a (sym (ap (drop 1) e)))
last_same (x ∷ xs) (y ∷ ys) a b e = last_same xs ys a b (ap (drop 1) e)

only_one : (r : ℕ) → r < 2 → r ≢ 0 → r ≡ 1
only_one zero low some = absurd (some refl)
only_one (suc zero) low some = refl
only_one (suc (suc r)) low some = absurd (omega (arith, low))

roots_alike : (nodes : List Branch) → IsReduced nodes → (r s : ℕ) → Ends nodes r nodes → Ends nodes s nodes → r ≢ 0 → s ≢ 0 → r ≡ s
roots_alike nodes all r s (inl x) (inl y) some some' = only_one r x.1 some ∙ sym (only_one s y.1 some')
roots_alike nodes all r s (inl x) (inr y) some some' = absurd (some_last y.0 y.1 (sym x.0 ∙ y.2))
roots_alike nodes all r s (inr x) (inl y) some some' = absurd (some_last x.0 x.1 (sym y.0 ∙ x.2))
roots_alike nodes all r s (inr x) (inr y) some some' =
    all.distinct r s x.1 x.3 (y.3 ∙ ap Some (sym (last_same x.0 y.0 x.1 y.1 (sym x.2 ∙ y.2))))

same_root : (nodes : List Branch) (r s : ℕ) → IsCanonical r nodes → IsCanonical s nodes → r ≢ 0 → s ≢ 0 → r ≡ s
same_root nodes r s a b some some' =
    ∥∥₁_elim a.post_order (hlevel props) (λ walk.
    ∥∥₁_elim b.post_order (hlevel props) (λ other.
    roots_alike nodes a.reduced r s (walk_ends nodes [] r nodes walk refl) (walk_ends nodes [] s nodes other refl) some some'))

-- ---- bytes that names and numbers do not have

free_of : (c : ℕ) (x : List ℕ) → Lacks c x → IsFree c x
free_of c x lacks =
    recursion_from_All (λ b. b ≢ c) x (All-weaker (λ b. nat_eq b c ≡ false) (λ b. b ≢ c) (λ b h e. true≢false (sym (eq-eqb b c e) ∙ h)) x lacks)

each_apart : (c : ℕ) (x : List ℕ) → IsFree c x → All (λ b. b ≢ c) x
each_apart c x free = All-from_recursion (λ b. b ≢ c) x free

digits_free : (c : ℕ) → ((d : ℕ) → 48 ≤ d → d ≤ 57 → d ≢ c) → (ds : List ℕ) → AllDigits 10 ds → IsFree c ds
digits_free c apart [] all = tt
digits_free c apart (d ∷ ds) all =
    let digit = digit_from_value d all.0 in
    (apart d (omega (arith, digit)) (omega (arith, digit)), digits_free c apart ds all.1)

number_free : (c : ℕ) → ((d : ℕ) → 48 ≤ d → d ≤ 57 → d ≢ c) → (k : ℕ) → k < 2 ^ 64 → IsFree c (decimal k)
number_free c apart k few = digits_free c apart (decimal k) (decimal_is_IsNumeral k few).0.1

blank_apart : (d : ℕ) → 48 ≤ d → d ≤ 57 → d ≢ 32
blank_apart d low high e = omega (arith, low, e)

semicolon_apart : (d : ℕ) → 48 ≤ d → d ≤ 57 → d ≢ 59
semicolon_apart d low high e = omega (arith, high, e)

abbrev prime : Bool → List ℕ
prime b = cond b (codes "'") []

prime_free : (c : ℕ) → 39 ≢ c → (b : Bool) → IsFree c (prime b)
prime_free c apart true = (apart, tt)
prime_free c apart false = tt

-- ---- a label tells the variable

primes_tell : (x y : List ℕ) (a b : Bool) → IsFree 39 x → IsFree 39 y → x ++ prime a ≡ y ++ prime b → (x ≡ y) × (a ≡ b)
primes_tell x y true true f g e = ((fronts_tell 39 x y [] [] (each_apart 39 x f) (each_apart 39 y g) e).0, refl)
primes_tell x y true false f g e = absurd (marked 39 x [] (subst (IsFree 39) (sym (e ∙ append-nil y)) g))
primes_tell x y false true f g e = absurd (marked 39 y [] (subst (IsFree 39) (sym (sym e ∙ append-nil x)) f))
primes_tell x y false false f g e = (sym (append-nil x) ∙ e ∙ append-nil y, refl)

rests_alike : (r s : ℕ) → r < 2 → s < 2 → nat_eq r 1 ≡ nat_eq s 1 → r ≡ s
rests_alike zero zero low low' e = refl
rests_alike zero (suc zero) low low' e = cc
rests_alike zero (suc (suc s)) low low' e = absurd (omega (arith, low'))
rests_alike (suc zero) zero low low' e = cc
rests_alike (suc zero) (suc zero) low low' e = refl
rests_alike (suc zero) (suc (suc s)) low low' e = absurd (omega (arith, low'))
rests_alike (suc (suc r)) s low low' e = absurd (omega (arith, low))

name_in : (names : List (List ℕ)) (k : ℕ) → k < length names → IsIn (name names k) names
name_in [] k low = absurd (omega (arith, low))
name_in (x ∷ xs) zero low = inl refl
name_in (x ∷ xs) (suc k) low = inr (name_in xs k (omega (arith, low)))

-- a name that stands once has one number
one_number : (names : List (List ℕ)) → IsOnce names → (i j : ℕ) → i < length names → j < length names → name names i ≡ name names j → i ≡ j
one_number [] once i j low low' e = absurd (omega (arith, low))
one_number (x ∷ xs) once zero zero low low' e = refl
one_number (x ∷ xs) once zero (suc j) low low' e = absurd (once.0 (subst (λ y. IsIn y xs) (sym e) (name_in xs j (omega (arith, low')))))
one_number (x ∷ xs) once (suc i) zero low low' e = absurd (once.0 (subst (λ y. IsIn y xs) e (name_in xs i (omega (arith, low)))))
one_number (x ∷ xs) once (suc i) (suc j) low low' e = ap suc (one_number xs once.1 i j (omega (arith, low)) (omega (arith, low')) e)

cons_tells : {X : Type 0} (x y : X) (xs ys : List X) → x ∷ xs ≡ y ∷ ys → (x ≡ y) × (xs ≡ ys)
cons_tells x y xs ys e = (cc, cc)

module _ (names : List (List ℕ)) (are : AreNames most_related names) where
  half : (v : ℕ) → v < 2 * length names → v / 2 < length names
  half v low = omega (arith, low)

  name_free : (c : ℕ) → goes_on_name c ≡ false → (k : ℕ) → k < length names → IsFree c (name names k)
  name_free c off k low = free_of c (name names k) (names_lack c off (name names k) (are.lawful k [] low).text)

  label_free : (c : ℕ) → goes_on_name c ≡ false → 39 ≢ c → (v : ℕ) → v < 2 * length names → IsFree c (label names v)
  label_free c off apart v low =
      free_append c (name names (v / 2)) (prime (nat_eq (v % 2) 1)) (name_free c off (v / 2) (half v low)) (prime_free c apart (nat_eq (v % 2) 1))

  label_tells : (v w : ℕ) → v < 2 * length names → w < 2 * length names → label names v ≡ label names w → v ≡ w
  label_tells v w low low' e =
      let parts =
      primes_tell (name names (v / 2)) (name names (w / 2)) (nat_eq (v % 2) 1) (nat_eq (w % 2) 1) (name_free 39 refl (v / 2) (half v low)) (name_free 39 refl (w / 2) (half w low')) e in
      let number = one_number names are.once (v / 2) (w / 2) (half v low) (half w low') parts.0 in
      let rest = rests_alike (v % 2) (w % 2) (omega arith) (omega arith) parts.1 in
      omega (arith, number, rest)

  -- ---- the text of a node tells the node

  abbrev IsOwn : Branch → Type 0
  IsOwn b = (b.var < 2 * length names) × HasReferences b

  -- behind the first blank
  abbrev behind : Branch → List ℕ
  behind b = decimal b.low ++ 32 ∷ decimal b.high

  node_is : (b : Branch) → node_text names b ≡ 32 ∷ (label names b.var ++ 32 ∷ behind b)
  node_is b =
      let x = label names b.var in
      let low = decimal b.low in
      let high = decimal b.high in
      ap (λ t. 32 ∷ t)
      (append_assoc ((x ++ 32 ∷ []) ++ low) (32 ∷ []) high ∙ append_assoc (x ++ 32 ∷ []) low (32 ∷ high) ∙ append_assoc x (32 ∷ []) (low ++ 32 ∷ high))

  label_blank : (b : Branch) → IsOwn b → IsFree 32 (label names b.var)
  label_blank b is = label_free 32 refl (λ e. omega (arith, e)) b.var is.0

  node_tells : (a b : Branch) → IsOwn a → IsOwn b → node_text names a ≡ node_text names b → a ≡ b
  node_tells a b is is' e =
      let first =
      fronts_tell 32 (label names a.var) (label names b.var) (behind a) (behind b) (each_apart 32 (label names a.var) (label_blank a is)) (each_apart 32 (label names b.var) (label_blank b is')) (ap (drop 1) (sym (node_is a) ∙ e ∙ node_is b)) in
      let second =
      fronts_tell 32 (decimal a.low) (decimal b.low) (decimal a.high) (decimal b.high) (each_apart 32 (decimal a.low) (number_free 32 blank_apart a.low is.1.0)) (each_apart 32 (decimal b.low) (number_free 32 blank_apart b.low is'.1.0)) first.1 in
      from_parts a b (label_tells a.var b.var is.0 is'.0 first.0) (decimal_injective a.low b.low is.1.0 is'.1.0 second.0) (decimal_injective a.high b.high is.1.1 is'.1.1 second.1)

  prime_apart : ◌≢◌ {A = ℕ} 39 59
  prime_apart = λ e. omega (arith, e)

  node_free : (b : Branch) → IsOwn b → IsFree 59 (node_text names b)
  node_free b is =
      let off : 32 ≢ 59 = λ e. omega (arith, e) in
      let numbers = free_append 59 (decimal b.low) (32 ∷ decimal b.high) (number_free 59 semicolon_apart b.low is.1.0) (off, number_free 59 semicolon_apart b.high is.1.1) in
      subst (IsFree 59) (sym (node_is b))
      (off, free_append 59 (label names b.var) (32 ∷ behind b) (label_free 59 refl prime_apart b.var is.0) (off, numbers))

  not_true : (b : Branch) → IsOwn b → node_text names b ≢ codes " true"
  not_true b is e =
      let word : label names b.var ++ 32 ∷ behind b ≡ codes "true" = ap (drop 1) (sym (node_is b) ∙ e) in
      marked 32 (label names b.var) (behind b) (subst (IsFree 32) (sym word) (free_test 32 (codes "true") refl))

  each_text : (P : List ℕ → Type 0) → ((b : Branch) → IsOwn b → P (node_text names b)) → (bs : List Branch) → AllByRecursion IsOwn bs → AllByRecursion P (map (node_text names) bs)
  each_text P h [] all = tt
  each_text P h (b ∷ bs) all = (h b all.0, each_text P h bs all.1)

  nodes_tell : (cs bs : List Branch) → AllByRecursion IsOwn cs → AllByRecursion IsOwn bs → map (node_text names) cs ≡ map (node_text names) bs → cs ≡ bs
  nodes_tell [] [] all all' e = refl
  nodes_tell [] (b ∷ bs) all all' e = cc
  nodes_tell (a ∷ cs) [] all all' e = cc
  nodes_tell (a ∷ cs) (b ∷ bs) all all' e =
      let parts = cons_tells (node_text names a) (node_text names b) (map (node_text names) cs) (map (node_text names) bs) e in
      ap₂ (λ x xs. x ∷ xs) (node_tells a b all.0 all'.0 parts.0) (nodes_tell cs bs all.1 all'.1 parts.1)

  apart_texts : (bs : List Branch) → AllByRecursion IsOwn bs → All (λ x. x ≢ codes " true") (map (node_text names) bs)
  apart_texts bs all = All-from_recursion (λ x. x ≢ codes " true") (map (node_text names) bs) (each_text (λ x. x ≢ codes " true") not_true bs all)

  diagram_tells : (cs bs : List Branch) → AllByRecursion IsOwn cs → AllByRecursion IsOwn bs → diagram_text names cs ≡ diagram_text names bs → cs ≡ bs
  diagram_tells cs bs all all' e =
      let xs = map (node_text names) cs in
      let ys = map (node_text names) bs in
      let rows = append_cancel_left (codes "relation") (join_with_byte 59 (or_one (codes " true") xs)) (join_with_byte 59 (or_one (codes " true") ys)) e in
      let texts = row_tells 59 (codes " true") xs ys (free_test 59 (codes " true") refl) (each_text (IsFree 59) node_free cs all) (each_text (IsFree 59) node_free bs all') rows in
      nodes_tell cs bs all all' (or_one_tells (codes " true") xs ys (apart_texts cs all) (apart_texts bs all') texts)

-- ---- the text of a relation tells the relation

own_nodes : (P : Branch → Type 0) (nodes : List Branch) → ((i : ℕ) (b : Branch) → slice_get nodes i ≡ Some b → P b) → AllByRecursion P nodes
own_nodes P [] each = tt
own_nodes P (b ∷ bs) each = (each 0 b refl, own_nodes P bs (λ i c at. each (suc i) c at))

own_of : (n : ℕ) (names : List (List ℕ)) (w : Parts) → IsToldByRelation n names w → AllByRecursion (λ b. (b.var < 2 * length names) × HasReferences b) w.nodes
own_of n names w told =
    let below = subst (λ m. HasVariablesBelow (2 * m) w.nodes) (sym told.all_named) told.below in
    let few : n ≤ 24 = omega (arith, told.names.few, told.all_named) in
    own_nodes (λ b. (b.var < 2 * length names) × HasReferences b) w.nodes
    (λ i b at. (below (suc (suc i)) b at, has_references n w few told.canonical told.below i b at))

some_root : (r : ℕ) → nat_eq r 0 ≡ false → r ≢ 0
some_root r is e = true≢false (sym (eq-eqb r 0 e) ∙ is)

pub relation_tells : (n : ℕ) (names : List (List ℕ)) (v w : Parts) → Unit {0} → IsToldByRelation n names v → IsToldByRelation n names w → relation_text names v ≡ relation_text names w → v ≡ w
relation_tells n names v w named told told' e = go (nat_eq v.root 0) (nat_eq w.root 0) refl refl e
  where
    go : (a b : Bool) → nat_eq v.root 0 ≡ a → nat_eq w.root 0 ≡ b
        → cond a (codes "unreachable") (diagram_text names v.nodes) ≡ cond b (codes "unreachable") (diagram_text names w.nodes) → v ≡ w
    go true true is is' same =
        let parts = canonical_is_one v.nodes w.nodes v.root w.root told.canonical told'.canonical (λ bits. at_zero v.nodes v.root (eqb-true v.root 0 is) bits ∙ sym (at_zero w.nodes w.root (eqb-true w.root 0 is') bits)) in
        parts_same v w parts.0 parts.1
    go true false is is' same = absurd (starts_apart names w.nodes (sym same))
    go false true is is' same = absurd (starts_apart names v.nodes same)
    go false false is is' same =
        let nodes = diagram_tells names told.names v.nodes w.nodes (own_of n names v told) (own_of n names w told') same in
        parts_same v w
        (same_root v.nodes v.root w.root told.canonical (subst (IsCanonical w.root) (sym nodes) told'.canonical) (some_root v.root is) (some_root w.root is')) nodes
