-- A row of places is a row of the transitions that stand there.
use Rattle.std.proofs.Common.{zero, suc, ◌≡◌, ℕ, ◌+◌, Bool, true, false, List, [], ◌∷◌, map, drop, refl, sym, ap, ◌∙◌, arith}
use Rattle.std.specs.Prelude.{Option, None, Some, cond, option_map, slice_get, nat_eq, ◌&&◌}
use Rattle.std.specs.Ordering.{is_eq, nat_cmp, eq_by_cmp, ordering_then}
use Rattle.std.specs.declared.cmp.Ordering.{Ordering}
use Rattle.std.specs.declared.cmp.Ordering.TheVariants.{Less, Equal, Greater}
use Rattle.std.proofs.lemmas.Bool.Decides.{nat_tests}
use Rattle.std.proofs.Math.Bool.{and_assoc}
use Rattle.key_rows.specs.Rows.{index_where, index_from, has_key, next_alike}
use Rattle.weighted_automata.specs.contracts.place.LabelOrd.TheImpl.{ghosts as of_labels}
use Rattle.weighted_automata.specs.contracts.place.PlaceOrd.TheImpl.{ghosts as of_places}
use Rattle.weighted_automata.specs.contracts.index.SourceOrd.TheImpl.{ghosts as of_sources}
use Rattle.weighted_automata.specs.declared.place.Label.{Label}
use Rattle.weighted_automata.specs.declared.place.Label.TheVariants.{Symbol, Empty}
use Rattle.weighted_automata.specs.declared.place.Place.{Place}
use Rattle.weighted_automata.specs.declared.index.Source.{Source}
use Rattle.weighted_automata.specs.declared.transitions.Entry.{Entry}
use Rattle.weighted_automata.specs.Places.{same_label, same_place}
use Rattle.weighted_automata.specs.Entries.{places_of}
use Rattle.weighted_automata.specs.private.Index.{source_of, empty_target}

and_false : (b : Bool) → (b && false) ≡ false
and_false true = refl
and_false false = refl

and_true : (b : Bool) → (b && true) ≡ b
and_true true = refl
and_true false = refl

-- What the orders do not tell apart is what the tests find equal, with the sides changed.
pub number_test : (a b : ℕ) → eq_by_cmp nat_cmp a b ≡ nat_eq b a
number_test a b = grind (arith, nat_tests)

label_test : (a b : Label) → eq_by_cmp of_labels.cmp a b ≡ same_label b a
label_test (Symbol a) (Symbol b) = number_test a b
label_test (Symbol a) Empty = refl
label_test Empty (Symbol b) = refl
label_test Empty Empty = refl

both_equal : (a b : Ordering) → is_eq (ordering_then a b) ≡ (is_eq a && is_eq b)
both_equal Less b = refl
both_equal Equal b = refl
both_equal Greater b = refl

pub place_test : (x y : Place) → eq_by_cmp of_places.cmp x y ≡ same_place y x
unfolding same_place
place_test x y =
    both_equal (nat_cmp x.from y.from) (ordering_then (of_labels.cmp x.label y.label) (nat_cmp x.to y.to))
    ∙ ap (λ b. eq_by_cmp nat_cmp x.from y.from && b) (both_equal (of_labels.cmp x.label y.label) (nat_cmp x.to y.to))
    ∙ ap (λ b. b && (eq_by_cmp of_labels.cmp x.label y.label && eq_by_cmp nat_cmp x.to y.to)) (number_test x.from y.from)
    ∙ ap (λ b. nat_eq y.from x.from && (b && eq_by_cmp nat_cmp x.to y.to)) (label_test x.label y.label)
    ∙ ap (λ b. nat_eq y.from x.from && (same_label y.label x.label && b)) (number_test x.to y.to)
    ∙ sym (and_assoc (nat_eq y.from x.from) (same_label y.label x.label) (nat_eq y.to x.to))

pub source_test : (s : Source) (p : Place) → eq_by_cmp of_sources.cmp s (source_of p) ≡ (nat_eq p.from s.state && same_label p.label s.label)
source_test s p =
    both_equal (nat_cmp s.state p.from) (of_labels.cmp s.label p.label)
    ∙ ap (λ b. b && eq_by_cmp of_labels.cmp s.label p.label) (number_test s.state p.from)
    ∙ ap (λ b. nat_eq p.from s.state && b) (label_test s.label p.label)

pub target_test : (state : ℕ) (p : Place) → has_key (eq_by_cmp nat_cmp) state (empty_target p) ≡ (nat_eq p.to state && same_label p.label Empty)
target_test state p = elim p.label as (λ l. has_key (eq_by_cmp nat_cmp) state (elim l [ Symbol a ↦ None | Empty ↦ Some p.to ]) ≡ (nat_eq p.to state && same_label l Empty)) [
  | Symbol a ↦ sym (and_false (nat_eq p.to state))
  | Empty ↦ number_test state p.to ∙ sym (and_true (nat_eq p.to state))
]

pub empty_has : (p : Place) → p.label ≡ Empty → empty_target p ≡ Some p.to
empty_has p e = ap (λ l. elim l [ Symbol a ↦ None | Empty ↦ Some p.to ]) e

pub no_target : (p : Place) → same_label p.label Empty ≡ false → empty_target p ≡ None
no_target p e = elim p.label as (λ l. same_label l Empty ≡ false → (elim l [ Symbol a ↦ None | Empty ↦ Some p.to ]) ≡ None) [
  | Symbol a ↦ λ h. refl
  | Empty ↦ λ h. cc
] e

-- where the next stands that has a key, by what the k-th has
abbrev next_by_key : {K : Type 0} → (K → K → Bool) → ℕ → List (Option K) → Option (Option K) → Option ℕ
next_by_key same k ks o = elim o [ None ↦ None | Some r ↦ elim r [ None ↦ None | Some j ↦ index_from (has_key same j) (k + 1) ks ] ]

-- The rows of the places of transitions.
module _ {S W Map K : Type 0} (same : K → K → Bool) (key : Place → Option K) where
  drop-keys : (i : ℕ) (ts : List (Entry S W Map)) → drop i (map key (places_of ts)) ≡ map key (places_of (drop i ts))
  drop-keys zero ts = refl
  drop-keys (suc i) [] = refl
  drop-keys (suc i) (t ∷ ts) = drop-keys i ts

  get-keys : (k : ℕ) (ts : List (Entry S W Map)) → slice_get (map key (places_of ts)) k ≡ option_map (λ (t : Entry S W Map). key t.place) (slice_get ts k)
  get-keys k [] = refl
  get-keys zero (t ∷ ts) = refl
  get-keys (suc k) (t ∷ ts) = get-keys k ts

  module _ (j : K) (p : Entry S W Map → Bool) (test : (t : Entry S W Map) → has_key same j (key t.place) ≡ p t) where
    pub first_of_row : (ts : List (Entry S W Map)) → index_where (has_key same j) (map key (places_of ts)) ≡ index_where p ts
    first_of_row [] = refl
    first_of_row (t ∷ ts) = ap (λ b. cond b (Some 0) (option_map (λ k. k + 1) (index_where (has_key same j) (map key (places_of ts))))) (test t)
        ∙ ap (λ o. cond (p t) (Some 0) (option_map (λ k. k + 1) o)) (first_of_row ts)

    pub next_of_row : (ts : List (Entry S W Map)) (k : ℕ) (t : Entry S W Map) → slice_get ts k ≡ Some t → key t.place ≡ Some j
        → next_alike same k (map key (places_of ts)) ≡ index_from p (k + 1) ts
    next_of_row ts k t at has =
        ap (λ o. next_by_key same k (map key (places_of ts)) o) (get-keys k ts ∙ ap (option_map (λ (u : Entry S W Map). key u.place)) at ∙ ap Some has)
        ∙ ap (λ js. option_map (λ i. i + (k + 1)) (index_where (has_key same j) js)) (drop-keys (k + 1) ts)
        ∙ ap (option_map (λ i. i + (k + 1))) (first_of_row (drop (k + 1) ts))

  pub no_row : (ts : List (Entry S W Map)) (k : ℕ) (t : Entry S W Map) → slice_get ts k ≡ Some t → key t.place ≡ None → next_alike same k (map key (places_of ts)) ≡ None
  no_row ts k t at none =
      ap (λ o. next_by_key same k (map key (places_of ts)) o) (get-keys k ts ∙ ap (option_map (λ (u : Entry S W Map). key u.place)) at ∙ ap Some none)

  pub past_rows : (ts : List (Entry S W Map)) (k : ℕ) → slice_get ts k ≡ None → next_alike same k (map key (places_of ts)) ≡ None
  past_rows ts k at =
      ap (λ o. next_by_key same k (map key (places_of ts)) o) (get-keys k ts ∙ ap (option_map (λ (u : Entry S W Map). key u.place)) at)
