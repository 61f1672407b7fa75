-- A row of places is a row of the entries that stand there.
use Rattle.std.proofs.Common.{zero, suc, ◌≡◌, ℕ, ◌+◌, ◌<◌, Bool, true, false, List, [], ◌∷◌, length, map, drop, refl, sym, ap, ◌∙◌, subst, arith}
use Rattle.std.specs.Prelude.{Option, None, Some, IfSome, cond, option_map, slice_get, nat_eq, ◌&&◌}
use Rattle.std.specs.Ordering.{nat_cmp, eq_by_cmp}
use Rattle.std.proofs.lemmas.Bool.Decides.{nat_tests}
use Rattle.std.proofs.lemmas.Option.{same_Some}
use Rattle.key_rows.specs.Rows.{index_where, index_from, has_key, next_alike}
use Rattle.weighted_automata.specs.contracts.place.PlaceOrd.TheImpl.{ghosts as of_places}
use Rattle.weighted_automata.specs.declared.place.Label.{Label}
use Rattle.weighted_automata.specs.declared.place.Label.TheVariants.{Symbol, Empty}
use Rattle.weighted_automata.specs.declared.place.Place.{Place}
use Rattle.weighted_automata.specs.Places.{same_label, same_place}
use Rattle.weighted_automata.proofs.CallerLemmas.{place_test}
use Rattle.weight_tables.specs.Entries.{TableEntry}
use Rattle.weight_tables.specs.private.Index.{row_of, empty_target}

and_false : (b : Bool) → (b && false) ≡ false
and_false true = refl
and_false false = refl

and_true : (b : Bool) → (b && true) ≡ b
and_true true = refl
and_true false = refl

-- What the orders do not tell apart is what the tests find equal.
pub number_test : (a b : ℕ) → eq_by_cmp nat_cmp a b ≡ nat_eq b a
number_test a b = grind (arith, nat_tests)

pub row_test : (from : ℕ) (label : Label) (p : Place) → eq_by_cmp of_places.cmp (record { from = from; label = label; to = 0 }) (row_of p) ≡ (nat_eq p.from from && same_label p.label label)
unfolding same_place
row_test from label p = place_test (record { from = from; label = label; to = 0 }) (row_of p) ∙ and_true (nat_eq p.from from && same_label p.label label)

pub target_test : (state : ℕ) (p : Place) → has_key (eq_by_cmp nat_cmp) state (empty_target p) ≡ (nat_eq p.to state && same_label p.label Empty)
target_test state p = elim p.label as (λ l. has_key (eq_by_cmp nat_cmp) state (elim l [ Symbol a ↦ None | Empty ↦ Some p.to ]) ≡ (nat_eq p.to state && same_label l Empty)) [
  | Symbol a ↦ sym (and_false (nat_eq p.to state))
  | Empty ↦ number_test state p.to ∙ sym (and_true (nat_eq p.to state))
]

pub empty_has : (p : Place) → p.label ≡ Empty → empty_target p ≡ Some p.to
empty_has p e = ap (λ l. elim l [ Symbol a ↦ None | Empty ↦ Some p.to ]) e

pub no_target : (p : Place) → same_label p.label Empty ≡ false → empty_target p ≡ None
no_target p e = elim p.label as (λ l. same_label l Empty ≡ false → (elim l [ Symbol a ↦ None | Empty ↦ Some p.to ]) ≡ None) [
  | Symbol a ↦ λ h. refl
  | Empty ↦ λ h. cc
] e

abbrev places_of : {W : Type 0} → List (TableEntry W) → List Place
places_of es = map (λ e. e.place) es

-- where the next stands that has a key, by what the k-th has
abbrev next_by_key : {K : Type 0} → (K → K → Bool) → ℕ → List (Option K) → Option (Option K) → Option ℕ
next_by_key same k ks o = elim o [ None ↦ None | Some r ↦ elim r [ None ↦ None | Some j ↦ index_from (has_key same j) (k + 1) ks ] ]

-- The rows of the places of transitions.
module _ {W K : Type 0} (same : K → K → Bool) (key : Place → Option K) where
  drop-keys : (i : ℕ) (ts : List (TableEntry W)) → drop i (map key (places_of ts)) ≡ map key (places_of (drop i ts))
  drop-keys zero ts = refl
  drop-keys (suc i) [] = refl
  drop-keys (suc i) (t ∷ ts) = drop-keys i ts

  get-keys : (k : ℕ) (ts : List (TableEntry W)) → slice_get (map key (places_of ts)) k ≡ option_map (λ (t : TableEntry W). key t.place) (slice_get ts k)
  get-keys k [] = refl
  get-keys zero (t ∷ ts) = refl
  get-keys (suc k) (t ∷ ts) = get-keys k ts

  module _ (j : K) (p : TableEntry W → Bool) (test : (t : TableEntry W) → has_key same j (key t.place) ≡ p t) where
    pub first_of_row : (ts : List (TableEntry W)) → index_where (has_key same j) (map key (places_of ts)) ≡ index_where p ts
    first_of_row [] = refl
    first_of_row (t ∷ ts) = ap (λ b. cond b (Some 0) (option_map (λ k. k + 1) (index_where (has_key same j) (map key (places_of ts))))) (test t)
        ∙ ap (λ o. cond (p t) (Some 0) (option_map (λ k. k + 1) o)) (first_of_row ts)

    pub next_of_row : (ts : List (TableEntry W)) (k : ℕ) (t : TableEntry W) → slice_get ts k ≡ Some t → key t.place ≡ Some j
        → next_alike same k (map key (places_of ts)) ≡ index_from p (k + 1) ts
    next_of_row ts k t at has =
        ap (λ o. next_by_key same k (map key (places_of ts)) o) (get-keys k ts ∙ ap (option_map (λ (u : TableEntry W). key u.place)) at ∙ ap Some has)
        ∙ ap (λ js. option_map (λ i. i + (k + 1)) (index_where (has_key same j) js)) (drop-keys (k + 1) ts)
        ∙ ap (option_map (λ i. i + (k + 1))) (first_of_row (drop (k + 1) ts))

  pub no_row : (ts : List (TableEntry W)) (k : ℕ) (t : TableEntry W) → slice_get ts k ≡ Some t → key t.place ≡ None → next_alike same k (map key (places_of ts)) ≡ None
  no_row ts k t at none =
      ap (λ o. next_by_key same k (map key (places_of ts)) o) (get-keys k ts ∙ ap (option_map (λ (u : TableEntry W). key u.place)) at ∙ ap Some none)

  pub past_rows : (ts : List (TableEntry W)) (k : ℕ) → slice_get ts k ≡ None → next_alike same k (map key (places_of ts)) ≡ None
  past_rows ts k at =
      ap (λ o. next_by_key same k (map key (places_of ts)) o) (get-keys k ts ∙ ap (option_map (λ (u : TableEntry W). key u.place)) at)

-- What is found stands in the list.
pub index_where-within : {X : Type 0} (p : X → Bool) (xs : List X) (k : ℕ) → index_where p xs ≡ Some k → k < length xs
index_where-within p [] k e = cc
index_where-within p (x ∷ xs) k e = elim (p x) as (λ b. cond b (Some 0) (option_map (λ i. i + 1) (index_where p xs)) ≡ Some k → k < length (x ∷ xs)) [
  | true ↦ λ h. let g : 0 ≡ k = same_Some 0 k h in omega (arith, g)
  | false ↦ λ h. elim (index_where p xs) as (λ i. index_where p xs ≡ i → option_map (λ j. j + 1) i ≡ Some k → k < length (x ∷ xs)) [
    | None ↦ λ was f. cc
    | Some j ↦ λ was f. let g : j + 1 ≡ k = same_Some (j + 1) k f in let rest = index_where-within p xs j was in omega (arith, g, rest)
  ] refl h
] e

drop-length : {X : Type 0} (i : ℕ) (xs : List X) (k : ℕ) → k < length (drop i xs) → k + i < length xs
drop-length zero xs k h = omega (arith, h)
drop-length (suc i) [] k h = absurd (let g : k < 0 = h in omega (arith, g))
drop-length (suc i) (x ∷ xs) k h = let rest = drop-length i xs k h in omega (arith, rest)

pub index_from-within : {X : Type 0} (p : X → Bool) (i : ℕ) (xs : List X) (k : ℕ) → index_from p i xs ≡ Some k → k < length xs
index_from-within p i xs k e = elim (index_where p (drop i xs)) as (λ o. index_where p (drop i xs) ≡ o → option_map (λ j. j + i) o ≡ Some k → k < length xs) [
  | None ↦ λ was f. cc
  | Some j ↦ λ was f.
      let g : j + i ≡ k = same_Some (j + i) k f in
      let rest = drop-length i xs j (index_where-within p (drop i xs) j was) in omega (arith, g, rest)
] refl e

pub next_alike-within : {K : Type 0} (same : K → K → Bool) (k : ℕ) (ks : List (Option K)) (n : ℕ) → next_alike same k ks ≡ Some n → n < length ks
next_alike-within same k ks n e = elim (slice_get ks k) as (λ o. next_by_key same k ks o ≡ Some n → n < length ks) [
  | None ↦ λ h. cc
  | Some r ↦ elim r as (λ r. next_by_key same k ks (Some r) ≡ Some n → n < length ks) [
    | None ↦ λ h. cc
    | Some j ↦ λ h. index_from-within (has_key same j) (k + 1) ks n h
  ]
] e

-- as an answer has it
pub all_within : (o : Option ℕ) (count : ℕ) → ((k : ℕ) → o ≡ Some k → k < count) → IfSome o (λ k. k < count)
all_within None count within = tt
all_within (Some k) count within = within k refl
