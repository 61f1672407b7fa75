-- What is in a list that was made of another, and what is there of a place.
use Rattle.std.proofs.Common.{◌*◌, length, ap₂, subst, ◌≡◌, inl, inr, ℕ, zero, suc, ◌+◌, ◌<◌, ◌≤◌, Bool, true, false, List, [], ◌∷◌, map, refl, sym, ap, ◌∙◌, arith}
use Rattle.std.specs.Prelude.{filter, cond}
use Rattle.std.specs.List.{range_with_len, flat_map}
use Rattle.std.proofs.lemmas.List.{length-append}
use Rattle.std.proofs.Math.Nat.{zero-mul, suc-mul, add_comm}
use Rattle.std.specs.Prelude.{None, Some}
use Rattle.std.proofs.lemmas.Bool.{cases_eq, cond_both, cond-true}
use Rattle.std.proofs.lemmas.Option.{same_Some}
use Rattle.weighted_automata.specs.declared.transitions.Entry.{Entry}
use Rattle.weighted_automata.specs.Places.{same_place}
use Rattle.weighted_automata.specs.Entries.{entry_at, Present, HasDistinctPlaces}
use Rattle.weighted_automata.proofs.CallerLemmas.{same_place_is, same_place_itself}
use Rattle.wpds_base.specs.Lists.{IsIn}
use Rattle.saturation_laws.proofs.QueueLemmas.{in_left, in_append}
use Rattle.saturation_laws.proofs.OpeningWeights.{in_right}

-- An item that a function was taken of.
pub record ComesFrom {X Y : Type 0} (f : X → Y) (y : Y) (xs : List X) : Type 0 where
  pub before : X
  pub there : IsIn before xs
  pub is : f before ≡ y

pub in_map : {X Y : Type 0} (f : X → Y) (x : X) (xs : List X) → IsIn x xs → IsIn (f x) (map f xs)
in_map f x [] h = elim h [ ]
in_map f x (z ∷ xs) (inl e) = inl (ap f e)
in_map f x (z ∷ xs) (inr h) = inr (in_map f x xs h)

pub from_map : {X Y : Type 0} (f : X → Y) (y : Y) (xs : List X) → IsIn y (map f xs) → ComesFrom f y xs
from_map f y [] h = elim h [ ]
from_map f y (z ∷ xs) (inl e) = record { before = z; there = inl refl; is = e }
from_map f y (z ∷ xs) (inr h) = let rest = from_map f y xs h in record { before = rest.before; there = inr rest.there; is = rest.is }

pub in_filter : {X : Type 0} (test : X → Bool) (x : X) (xs : List X) → IsIn x xs → test x ≡ true → IsIn x (filter test xs)
in_filter test x [] h passes = elim h [ ]
in_filter test x (z ∷ xs) h passes = elim (test z) as (λ b. test z ≡ b → IsIn x (cond b (z ∷ filter test xs) (filter test xs))) [
  | true ↦ λ e. elim h [ inl same ↦ inl same | inr there ↦ inr (in_filter test x xs there passes) ]
  | false ↦ λ e. elim h [
    | inl same ↦ absurd (let f : true ≡ false = sym passes ∙ sym (ap test same) ∙ e in cc)
    | inr there ↦ in_filter test x xs there passes
  ]
] refl

pub from_filter : {X : Type 0} (test : X → Bool) (x : X) (xs : List X) → IsIn x (filter test xs) → IsIn x xs × (test x ≡ true)
from_filter test x [] h = elim h [ ]
from_filter test x (z ∷ xs) h = (elim (test z) as (λ b. test z ≡ b → IsIn x (cond b (z ∷ filter test xs) (filter test xs)) → IsIn x (z ∷ xs) × (test x ≡ true)) [
  | true ↦ λ e g. elim g [
    | inl same ↦ (inl same, sym (ap test same) ∙ e)
    | inr there ↦ let rest = from_filter test x xs there in (inr rest.0, rest.1)
  ]
  | false ↦ λ e g. let rest = from_filter test x xs g in (inr rest.0, rest.1)
]) refl h

pub in_range : (a n i : ℕ) → a ≤ i → i < a + n → IsIn i (range_with_len a n)
in_range a zero i low high = absurd (omega arith)
in_range a (suc n) i low high = elim (cases_eq a i) [
  | inl same ↦ inl same
  | inr other ↦ inr (in_range (a + 1) n i (omega (arith, other)) (omega arith))
]

pub from_range : (a n i : ℕ) → IsIn i (range_with_len a n) → (a ≤ i) × (i < a + n)
from_range a zero i h = elim h [ ]
from_range a (suc n) i (inl same) = (omega arith, omega arith)
from_range a (suc n) i (inr h) = let rest = from_range (a + 1) n i h in (omega arith, omega arith)

pub in_flat_map : {X Y : Type 0} (f : X → List Y) (y : Y) (x : X) (xs : List X) → IsIn x xs → IsIn y (f x) → IsIn y (flat_map f xs)
in_flat_map f y x [] h here = elim h [ ]
in_flat_map f y x (z ∷ xs) (inl e) here = let P : _ → Type 0 = λ u. IsIn y (f u) in in_left y (f z) (flat_map f xs) (subst P (sym e) here)
in_flat_map f y x (z ∷ xs) (inr h) here = in_right y (f z) (flat_map f xs) (in_flat_map f y x xs h here)

-- An item of which a list was made.
pub record IsMadeOf {X Y : Type 0} (f : X → List Y) (y : Y) (xs : List X) : Type 0 where
  pub before : X
  pub there : IsIn before xs
  pub is : IsIn y (f before)

pub from_flat_map : {X Y : Type 0} (f : X → List Y) (y : Y) (xs : List X) → IsIn y (flat_map f xs) → IsMadeOf f y xs
from_flat_map f y [] h = elim h [ ]
from_flat_map f y (z ∷ xs) h = elim (in_append y (f z) (flat_map f xs) h) [
  | inl here ↦ record { before = z; there = inl refl; is = here }
  | inr more ↦ let rest = from_flat_map f y xs more in record { before = rest.before; there = inr rest.there; is = rest.is }
]

-- lists of one length, one after the other
pub length-flat_map_of : {X Y : Type 0} (f : X → List Y) (n : ℕ) → ((x : X) → length (f x) ≡ n) → (xs : List X) → length (flat_map f xs) ≡ length xs * n
length-flat_map_of f n each [] = sym (zero-mul n)
length-flat_map_of f n each (x ∷ xs) =
    length-append (f x) (flat_map f xs) ∙ ap₂ ◌+◌ (each x) (length-flat_map_of f n each xs) ∙ add_comm n (length xs * n) ∙ sym (suc-mul (length xs) n)

module _ {S W Map : Type 0} where
  -- where places are distinct, each transition of the list is the one at its place
  pub in_present : (ts : List (Entry S W Map)) (t : Entry S W Map) → HasDistinctPlaces ts → IsIn t ts → Present ts t
  in_present [] t distinct h = elim h [ ]
  in_present (u ∷ ts) t distinct (inl e) =
      let P : Entry S W Map → Type 0 = λ v. entry_at v.place (u ∷ ts) ≡ Some v in
      subst P e (cond-true (same_place u.place u.place) (Some u) (entry_at u.place ts) (same_place_itself u.place))
  in_present (u ∷ ts) t distinct (inr h) =
      let later = in_present ts t distinct.1 h in
      cond_both (same_place u.place t.place) (Some u) (entry_at t.place ts) (λ o. o ≡ Some t)
      (λ e. let none : None ≡ Some t = sym distinct.0 ∙ ap (λ x. entry_at x ts) (same_place_is u.place t.place e) ∙ later in cc)
      (λ e. later)

  -- and at most one is at a place
  pub present_once : (ts : List (Entry S W Map)) (t u : Entry S W Map) → Present ts t → Present ts u → t.place ≡ u.place → t ≡ u
  present_once ts t u here there same = same_Some t u (sym here ∙ ap (λ x. entry_at x ts) same ∙ there)
