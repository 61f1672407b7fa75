-- Queues, and what is in a list.
use Rattle.std.proofs.Common.{◌≡◌, ◌⊎◌, inl, inr, ℕ, suc, zero, true, false, List, [], ◌∷◌, ◌++◌, length, get_or, set, refl, sym, ap, ◌∙◌, arith}
use Rattle.std.specs.Prelude.{Option, None, Some, slice_get}
use Rattle.std.specs.List.{AllByRecursion}
use Rattle.std.proofs.lemmas.Bool.{or_cases, or_left, or_right, cond_both, cases_eq, cases_lt}
use Rattle.std.proofs.lemmas.List.{get_or-set_same, get_or-set_other, get_or_past, length-set}
use Rattle.weighted_automata.specs.declared.place.Place.{Place}
use Rattle.weighted_automata.specs.Places.{same_place, has_place}
use Rattle.weighted_automata.proofs.CallerLemmas.{same_place_is, same_place_itself}
use Rattle.wpds_base.specs.Lists.{IsIn, IsOnce}
use Rattle.saturation_laws.specs.Queues.{queued}

pub has_place_is : (x : Place) (q : List Place) → has_place x q ≡ true → IsIn x q
has_place_is x [] h = cc
has_place_is x (y ∷ q) h = elim (or_cases (same_place y x) (has_place x q) h) [ inl e ↦ inl (same_place_is y x e) | inr e ↦ inr (has_place_is x q e) ]

has_place_from : (x : Place) (q : List Place) → IsIn x q → has_place x q ≡ true
has_place_from x [] h = elim h [ ]
has_place_from x (y ∷ q) (inl e) = or_left (same_place y x) (has_place x q) (ap (λ z. same_place z x) e ∙ same_place_itself x)
has_place_from x (y ∷ q) (inr h) = or_right (same_place y x) (has_place x q) (has_place_from x q h)

module _ {X : Type 0} where
  pub in_left : (x : X) (xs ys : List X) → IsIn x xs → IsIn x (xs ++ ys)
  in_left x [] ys h = elim h [ ]
  in_left x (z ∷ xs) ys (inl e) = inl e
  in_left x (z ∷ xs) ys (inr h) = inr (in_left x xs ys h)

  pub in_append : (x : X) (xs ys : List X) → IsIn x (xs ++ ys) → IsIn x xs ⊎ IsIn x ys
  in_append x [] ys h = inr h
  in_append x (z ∷ xs) ys (inl e) = inl (inl e)
  in_append x (z ∷ xs) ys (inr h) = elim (in_append x xs ys h) [ inl g ↦ inl (inr g) | inr g ↦ inr g ]

  pub in_last : (x : X) (xs : List X) → IsIn x (xs ++ x ∷ [])
  in_last x [] = inl refl
  in_last x (z ∷ xs) = inr (in_last x xs)

  pub in_push : (x y : X) (xs : List X) → IsIn x (xs ++ y ∷ []) → (y ≡ x) ⊎ IsIn x xs
  in_push x y [] (inl e) = inl e
  in_push x y [] (inr h) = elim h [ ]
  in_push x y (z ∷ xs) (inl e) = inr (inl e)
  in_push x y (z ∷ xs) (inr h) = elim (in_push x y xs h) [ inl e ↦ inl e | inr g ↦ inr (inr g) ]

  once_push : (y : X) (xs : List X) → IsOnce xs → (IsIn y xs → ⊥) → IsOnce (xs ++ y ∷ [])
  once_push y [] once out = (λ h. h, tt)
  once_push y (x ∷ xs) once out =
      (λ h. elim (in_push x y xs h) [ inl e ↦ out (inl (sym e)) | inr g ↦ once.0 g ], once_push y xs once.1 (λ h. out (inr h)))

  pub all_at : (P : X → Type 0) (x : X) (xs : List X) → AllByRecursion P xs → IsIn x xs → P x
  all_at P x [] all h = absurd h
  all_at P x (y ∷ xs) all (inl e) = let Q : X → Type 0 = P in Rattle.std.proofs.Common.subst Q e all.0
  all_at P x (y ∷ xs) all (inr h) = all_at P x xs all.1 h

  pub all_append : (P : X → Type 0) (xs ys : List X) → AllByRecursion P xs → AllByRecursion P ys → AllByRecursion P (xs ++ ys)
  all_append P [] ys _ all = all
  all_append P (x ∷ xs) ys here all = (here.0, all_append P xs ys here.1 all)

  -- an item of a list with one more
  pub get_push : (xs : List X) (y x : X) (k : ℕ) → slice_get (xs ++ y ∷ []) k ≡ Some x → (slice_get xs k ≡ Some x) ⊎ ((k ≡ length xs) × (y ≡ x))
  get_push [] y x zero h = inr (refl, cc)
  get_push [] y x (suc k) h = cc
  get_push (z ∷ xs) y x zero h = inl h
  get_push (z ∷ xs) y x (suc k) h = elim (get_push xs y x k h) [ inl e ↦ inl e | inr e ↦ inr (ap suc e.0, e.1) ]

  -- what stands in a list of options after one is taken away
  pub after_free : (hs : List (Option X)) (i k : ℕ) (h : X) → get_or (set hs i None) k None ≡ Some h → get_or hs k None ≡ Some h
  after_free hs i k h e = elim (cases_eq k i) [
    | inr other ↦ sym (get_or-set_other hs i k None None other) ∙ e
    | inl same ↦ elim (cases_lt i (length hs)) [
      | inl within ↦ let f : None ≡ Some h = sym (get_or-set_same hs i None None within) ∙ ap (λ j. get_or (set hs i None) j None) (sym same) ∙ e in cc
      | inr past ↦ let f : None ≡ Some h = sym (get_or_past (set hs i None) k None (omega (arith, length-set hs i None))) ∙ e in cc
    ]
  ]

pub in_queued : (x : Place) (q : List Place) → IsIn x (queued x q)
in_queued x q = let P : List Place → Type 0 = IsIn x in
    cond_both (has_place x q) q (q ++ x ∷ []) P (λ e. has_place_is x q e) (λ e. in_last x q)

pub queued_keeps : (x y : Place) (q : List Place) → IsIn y q → IsIn y (queued x q)
queued_keeps x y q h = let P : List Place → Type 0 = IsIn y in
    cond_both (has_place x q) q (q ++ x ∷ []) P (λ e. h) (λ e. in_left y q (x ∷ []) h)

pub queued_cases : (x y : Place) (q : List Place) → IsIn y (queued x q) → (x ≡ y) ⊎ IsIn y q
queued_cases x y q = let P : List Place → Type 0 = λ r. IsIn y r → (x ≡ y) ⊎ IsIn y q in
    cond_both (has_place x q) q (q ++ x ∷ []) P (λ e h. inr h) (λ e h. in_push y x q h)

pub once_queued : (x : Place) (q : List Place) → IsOnce q → IsOnce (queued x q)
once_queued x q once =
    cond_both (has_place x q) q (q ++ x ∷ []) IsOnce (λ e. once) (λ e. once_push x q once (λ h. let f : true ≡ false = sym (has_place_from x q h) ∙ e in cc))
