-- Where the lowerings of a place stand in a plan.
use Rattle.std.proofs.Common.{◌≡◌, ℕ, suc, ◌+◌, ◌<◌, ◌≤◌, Bool, true, false, List, [], ◌∷◌, ◌++◌, length, map, get_or, refl, sym, ap, ◌∙◌, inl, inr, arith}
use Rattle.std.specs.Prelude.{Option, None, Some, IfSome, cond, option_map, slice_get, nat_eq, ◌||◌, ◌⊎◌}
use Rattle.std.specs.Ordering.{eq_by_cmp}
use Rattle.std.proofs.lemmas.Bool.{cond-true, cond-false, cases_Bool, or_left, or_right, eqb-true, eq-eqb}
use Rattle.std.proofs.lemmas.Option.{same_Some}
use Rattle.key_rows.specs.Rows.{index_where, last_where, has_key}
use Rattle.weighted_automata.specs.contracts.place.PlaceOrd.TheImpl.{ghosts as of_places}
use Rattle.weighted_automata.specs.declared.place.Place.{Place}
use Rattle.weighted_automata.specs.declared.transitions.Entry.{Entry}
use Rattle.weighted_automata.specs.Places.{same_place, has_place}
use Rattle.weighted_automata.specs.Entries.{entry_at, lowered}
use Rattle.weighted_automata.proofs.CallerLemmas.{same_place_is, same_place_itself, entry_at-lowered_same, entry_at-lowered_other, place_test}
use Rattle.saturation_core.specs.declared.plan.Planned.{Planned}
use Rattle.saturation_core.specs.private.Finding.{found_at}
use Rattle.saturation_core.specs.private.Plans.{put_from, goal_of}
use Rattle.saturation_core.proofs.QueueFacts.{one_more}
use Rattle.saturation_core.proofs.PutPlan.{next_and}

-- where the last stands that passes, by where it stands behind the first, and by the test of the first
abbrev next_last : Option ℕ → Bool → Option ℕ
next_last o b = elim o [ Some k ↦ Some (suc k) | None ↦ cond b (Some 0) None ]

pub last_within : {X : Type 0} (p : X → Bool) (xs : List X) → IfSome (last_where p xs) (λ k. k < length xs)
last_within p [] = tt
last_within p (x ∷ xs) = elim (last_where p xs) as (λ o. IfSome o (λ k. k < length xs) → IfSome (next_last o (p x)) (λ k. k < suc (length xs))) [
  | Some k ↦ λ h. let before : k < length xs = h in let here : suc k < suc (length xs) = omega (arith, before) in here
  | None ↦ λ h. elim (p x) as (λ b. IfSome (cond b (Some 0) None) (λ k. k < suc (length xs))) [
    | true ↦ (let here : 0 < suc (length xs) = omega arith in here)
    | false ↦ tt
  ]
] (last_within p xs)

pub within_limit : (o : Option ℕ) (n m : ℕ) → n ≤ m → IfSome o (λ k. k < n) → IfSome o (λ k. k < m)
within_limit None n m le h = tt
within_limit (Some k) n m le h = let before : k < n = h in let after : k < m = omega (arith, le, before) in after

module _ {S W Map : Type 0} where
  -- the lowering is of this place
  abbrev pub is_of : Place → Planned S W Map → Bool
  is_of x l = same_place l.goal x

  abbrev key : Planned S W Map → Option Place
  key l = Some l.goal

  -- The rows of the goals are those of the lowerings.
  pub last_of_row : (x : Place) (ls : List (Planned S W Map)) → last_where (has_key (eq_by_cmp of_places.cmp) x) (map (λ (l : Planned S W Map). Some l.goal) ls) ≡ last_where (is_of x) ls
  last_of_row x [] = refl
  last_of_row x (l ∷ ls) =
      ap (λ o. next_last o (eq_by_cmp of_places.cmp x l.goal)) (last_of_row x ls)
      ∙ ap (next_last (last_where (is_of x) ls)) (place_test x l.goal)

  pub first_of_row : (x : Place) (ls : List (Planned S W Map)) → index_where (has_key (eq_by_cmp of_places.cmp) x) (map (λ (l : Planned S W Map). Some l.goal) ls) ≡ index_where (is_of x) ls
  first_of_row x [] = refl
  first_of_row x (l ∷ ls) =
      ap (λ b. cond b (Some 0) (option_map (λ k. k + 1) (index_where (has_key (eq_by_cmp of_places.cmp) x) (map key ls)))) (place_test x l.goal)
      ∙ ap (λ o. cond (same_place l.goal x) (Some 0) (option_map (λ k. k + 1) o)) (first_of_row x ls)

  abbrev entry_of : Place → ℕ → Planned S W Map → Entry S W Map
  entry_of x n l = record { place = x; weight = l.weight; node = n }

  -- The transition at a place after a plan is that of the last lowering there.
  pub last_found : (x : Place) (ls : List (Planned S W Map)) (n : ℕ) (ts : List (Entry S W Map)) → entry_at x (put_from n ls ts) ≡ found_at x n ls (last_where (is_of x) ls) (entry_at x ts)
  last_found x [] n ts = refl
  last_found x (l ∷ ls) n ts =
      let us = lowered l.goal l.weight n ts in
      last_found x ls (suc n) us
      ∙ elim (last_where (is_of x) ls) as (λ o. found_at x (suc n) ls o (entry_at x us) ≡ found_at x n (l ∷ ls) (next_last o (same_place l.goal x)) (entry_at x ts)) [
        | Some k ↦ ap (λ i. option_map (entry_of x i) (slice_get ls k)) (next_and n k)
        | None ↦ elim (cases_Bool (same_place l.goal x)) [
          | inl here ↦
              let first : n ≡ n + 0 = omega arith in
              ap (λ y. entry_at x (lowered y l.weight n ts)) (same_place_is l.goal x here)
              ∙ entry_at-lowered_same x l.weight n ts
              ∙ ap (λ i. Some (entry_of x i l)) first
              ∙ ap (λ b. found_at x n (l ∷ ls) (cond b (Some 0) None) (entry_at x ts)) (sym here)
          | inr other ↦
              let differs : l.goal ≡ x → ⊥ = λ e. let f : true ≡ false = sym (ap (λ y. same_place y x) e ∙ same_place_itself x) ∙ other in cc in
              entry_at-lowered_other l.goal x l.weight n ts differs
              ∙ ap (λ b. found_at x n (l ∷ ls) (cond b (Some 0) None) (entry_at x ts)) (sym other)
        ]
      ]

  -- What a look-up in a plan found.
  module _ (x : Place) (ls : List (Planned S W Map)) (o : Option ℕ) (found : (n : ℕ) (ts : List (Entry S W Map)) → entry_at x (put_from n ls ts) ≡ found_at x n ls o (entry_at x ts)) where
    pub planned_at : (k : ℕ) (l : Planned S W Map) → o ≡ Some k → slice_get ls k ≡ Some l → (n : ℕ) (ts : List (Entry S W Map))
        → entry_at x (put_from n ls ts) ≡ Some (record { place = x; weight = l.weight; node = n + k })
    planned_at k l is at n ts = found n ts ∙ ap (λ p. found_at x n ls p (entry_at x ts)) is ∙ ap (option_map (entry_of x (n + k))) at

  -- What stands first of a place is of this place,
  pub first_is_of : (x : Place) (ls : List (Planned S W Map)) (k : ℕ) (d : Planned S W Map) → index_where (is_of x) ls ≡ Some k → same_place (get_or ls k d).goal x ≡ true
  first_is_of x [] k d e = cc
  first_is_of x (l ∷ ls) k d e = elim (cases_Bool (same_place l.goal x)) [
    | inl here ↦
        let at : 0 ≡ k = same_Some 0 k (sym (cond-true (same_place l.goal x) (Some 0) (option_map (λ j. j + 1) (index_where (is_of x) ls)) here) ∙ e) in
        ap (λ i. same_place (get_or (l ∷ ls) i d).goal x) (sym at) ∙ here
    | inr other ↦ elim (index_where (is_of x) ls) as (λ o. index_where (is_of x) ls ≡ o → option_map (λ j. j + 1) o ≡ Some k → same_place (get_or (l ∷ ls) k d).goal x ≡ true) [
      | None ↦ λ was f. cc
      | Some j ↦ λ was f.
          let next : suc j ≡ k = let g : j + 1 ≡ k = same_Some (j + 1) k f in omega arith in
          ap (λ i. same_place (get_or (l ∷ ls) i d).goal x) (sym next) ∙ first_is_of x ls j d was
    ] refl (sym (cond-false (same_place l.goal x) (Some 0) (option_map (λ j. j + 1) (index_where (is_of x) ls)) other) ∙ e)
  ]

  -- and each goal has a first.
  pub has_first : (x : Place) (ls : List (Planned S W Map)) → has_place x (map goal_of ls) ≡ true → (k : ℕ) × (index_where (is_of x) ls ≡ Some k) × (k < length ls)
  has_first x [] e = cc
  has_first x (l ∷ ls) e = elim (same_place l.goal x) as (λ b. (b || has_place x (map goal_of ls)) ≡ true → (k : ℕ) × (cond b (Some 0) (option_map (λ j. j + 1) (index_where (is_of x) ls)) ≡ Some k) × (k < suc (length ls))) [
    | true ↦ λ h. (0, refl, omega arith)
    | false ↦ λ h. let rest = has_first x ls h in (rest.0 + 1, ap (option_map (λ j. j + 1)) rest.1, omega (arith, rest.2))
  ] e

  -- The places of those that stand first of theirs, up to a number.
  module _ (ls : List (Planned S W Map)) (k : ℕ) (d : Planned S W Map) (read : d ≡ get_or ls k d) (places : List Place)
      (before : (x : Place) (j : ℕ) → index_where (is_of x) ls ≡ Some j → j < k → has_place x places ≡ true) where
    before_or_here : (x : Place) (j : ℕ) → index_where (is_of x) ls ≡ Some j → j < k + 1 → (has_place x places ≡ true) ⊎ ((d.goal ≡ x) × (index_where (is_of d.goal) ls ≡ Some k))
    before_or_here x j first less = elim (cases_Bool (nat_eq j k)) [
      | inl same ↦
          let at : index_where (is_of x) ls ≡ Some k = first ∙ ap Some (eqb-true j k same) in
          let is : d.goal ≡ x = same_place_is d.goal x (ap (λ (l : Planned S W Map). same_place l.goal x) read ∙ first_is_of x ls k d at) in
          inr (is, ap (λ y. index_where (is_of y) ls) is ∙ at)
      | inr other ↦
          let differs : j ≡ k → ⊥ = λ e. let f : true ≡ false = sym (eq-eqb j k e) ∙ other in cc in
          inl (before x j first (omega (arith, less, differs)))
    ]

    pub place_added : (x : Place) (j : ℕ) → index_where (is_of x) ls ≡ Some j → j < k + 1 → has_place x (places ++ d.goal ∷ []) ≡ true
    place_added x j first less = one_more x d.goal places ∙ elim (before_or_here x j first less) [
      | inl there ↦ or_left (has_place x places) (same_place d.goal x || false) there
      | inr here ↦ or_right (has_place x places) (same_place d.goal x || false) (or_left (same_place d.goal x) false (ap (λ y. same_place y x) here.0 ∙ same_place_itself x))
    ]

    pub place_passed : (index_where (is_of d.goal) ls ≡ Some k → ⊥) → (x : Place) (j : ℕ) → index_where (is_of x) ls ≡ Some j → j < k + 1 → has_place x places ≡ true
    place_passed other x j first less = elim (before_or_here x j first less) [
      | inl there ↦ there
      | inr here ↦ absurd (other here.1)
    ]
