-- What stands in a list.
use Rattle.std.proofs.Common.{◌≡◌, inl, inr, ℕ, List, [], ◌∷◌, ◌++◌, sym, ap, ◌∙◌}
use Rattle.std.specs.Prelude.{Option, Some, slice_get, option_and_then}
use Rattle.std.proofs.lemmas.Bool.{cond_both}
use Rattle.std.proofs.lemmas.Option.{same_Some}
use Rattle.weighted_automata.specs.declared.place.Place.{Place}
use Rattle.weighted_automata.specs.declared.transitions.Entry.{Entry}
use Rattle.weighted_automata.specs.Places.{same_place}
use Rattle.weighted_automata.specs.Entries.{entry_at, Present}
use Rattle.weighted_automata.proofs.CallerLemmas.{entry_at-place}
use Rattle.wpds_base.specs.Lists.{IsIn}

pub in_right : {X : Type 0} (x : X) (xs ys : List X) → IsIn x ys → IsIn x (xs ++ ys)
in_right x [] ys h = h
in_right x (z ∷ xs) ys h = inr (in_right x xs ys h)

module _ {S W Map : Type 0} where
  pub entry_in : (x : Place) (ts : List (Entry S W Map)) (t : Entry S W Map) → entry_at x ts ≡ Some t → IsIn t ts
  entry_in x [] t e = cc
  entry_in x (u ∷ ts) t e =
      let P : Option (Entry S W Map) → Type 0 = λ o. o ≡ Some t → IsIn t (u ∷ ts) in
      cond_both (same_place u.place x) (Some u) (entry_at x ts) P (λ h g. inl (same_Some u t g)) (λ h g. inr (entry_in x ts t g)) e

  -- the entry that a search found
  pub found_here : (x : Place) (ts : List (Entry S W Map)) (k : ℕ) (o : Option ℕ) (t : Entry S W Map) → option_and_then (slice_get ts) o ≡ entry_at x ts → o ≡ Some k → slice_get ts k ≡ Some t → entry_at x ts ≡ Some t
  found_here x ts k o t found is read = sym found ∙ ap (option_and_then (slice_get ts)) is ∙ read

  pub present_here : (x : Place) (ts : List (Entry S W Map)) (t : Entry S W Map) → entry_at x ts ≡ Some t → Present ts t
  present_here x ts t e = ap (λ y. entry_at y ts) (entry_at-place x ts t e) ∙ e
