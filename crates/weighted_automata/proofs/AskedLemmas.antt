-- Transitions that are found by their places, and places that waited.
use Rattle.std.proofs.Common.{suc, ◌≡◌, ℕ, ◌+◌, Bool, true, false, List, [], ◌∷◌, ◌++◌, take, drop, refl, sym, ap, ◌∙◌, subst, inl, inr, arith, take-append-drop}
use Rattle.std.specs.Prelude.{Option, None, Some, cond, option_map, is_some, MatchOption, ◌||◌}
use Rattle.std.specs.Ordering.{eq_by_cmp}
use Rattle.std.proofs.lemmas.Bool.{or_cases, or_left}
use Rattle.key_rows.specs.Members.{KeyedMembers, number_of}
use Rattle.key_rows.specs.Positions.{last_where}
use Rattle.weighted_automata.specs.contracts.place.PlaceOrd.TheImpl.{ghosts as of_places}
use Rattle.weighted_automata.specs.declared.place.Place.{Place}
use Rattle.weighted_automata.specs.declared.transitions.Entry.{Entry}
use Rattle.weighted_automata.specs.Places.{same_place, has_place}
use Rattle.weighted_automata.specs.Entries.{entry_at, index_at, HasDistinctPlaces}
use Rattle.weighted_automata.specs.private.Index.{AreAsked}
use Rattle.weighted_automata.specs.private.Room.{without}
use Rattle.weighted_automata.proofs.PlaceLemmas.{same_place_is, same_place_itself}
use Rattle.weighted_automata.proofs.RoomLemmas.{has_place-append, without_only}
use Rattle.weighted_automata.proofs.RowLemmas.{place_test}

abbrev next_last : Bool → Option ℕ → Option ℕ
next_last b o = elim o [ Some k ↦ Some (suc k) | None ↦ cond b (Some 0) None ]

-- tests that agree have one last
last_alike : {X : Type 0} (p q : X → Bool) → ((x : X) → p x ≡ q x) → (xs : List X) → last_where p xs ≡ last_where q xs
last_alike p q alike [] = refl
last_alike p q alike (x ∷ xs) = ap (λ b. next_last b (last_where p xs)) (alike x) ∙ ap (next_last (q x)) (last_alike p q alike xs)

module _ {S W Map : Type 0} (x : Place) where
  no_entry_no_index : (ts : List (Entry S W Map)) → entry_at x ts ≡ None → index_at x ts ≡ None
  no_entry_no_index [] e = refl
  no_entry_no_index (t ∷ ts) e = elim (same_place t.place x) as (λ b. cond b (Some t) (entry_at x ts) ≡ None → cond b (Some 0) (option_map (λ k. k + 1) (index_at x ts)) ≡ None) [
    | true ↦ λ h. cc
    | false ↦ λ h. ap (option_map (λ k. k + 1)) (no_entry_no_index ts h)
  ] e

  last_is_first : (ts : List (Entry S W Map)) → HasDistinctPlaces ts → last_where (λ (t : Entry S W Map). same_place t.place x) ts ≡ index_at x ts
  last_is_first [] d = refl
  last_is_first (t ∷ ts) d = ap (next_last (same_place t.place x)) (last_is_first ts d.1) ∙ elim (same_place t.place x) as (λ b. same_place t.place x ≡ b
      → next_last b (index_at x ts) ≡ cond b (Some 0) (option_map (λ k. k + 1) (index_at x ts))) [
        | true ↦ λ is. ap (next_last true) (no_entry_no_index ts (ap (λ z. entry_at z ts) (sym (same_place_is t.place x is)) ∙ d.0))
        | false ↦ λ is. elim (index_at x ts) as (λ o. next_last false o ≡ option_map (λ k. k + 1) o) [
          | None ↦ refl
          | Some k ↦ ap Some (omega arith)
        ]
      ] refl

  -- no place stands twice, so that what is found by its key is what stands there
  pub found_by_place : (ts : List (Entry S W Map)) → HasDistinctPlaces ts → number_of of_places.cmp (λ (t : Entry S W Map). t.place) x ts ≡ index_at x ts
  found_by_place ts d =
      last_alike (λ (t : Entry S W Map). eq_by_cmp of_places.cmp x t.place) (λ (t : Entry S W Map). same_place t.place x) (λ t. place_test x t.place) ts ∙ last_is_first ts d

abbrev stands : Place → List Place → Option ℕ
stands p ps = number_of of_places.cmp (λ x. x) p ps

some_next : (b : Bool) (o : Option ℕ) → is_some o ≡ true → is_some (next_last b o) ≡ true
some_next b None e = cc
some_next b (Some k) e = refl

asked_more : (p x : Place) (ps : List Place) → is_some (stands p ps) ≡ true → is_some (stands p (ps ++ x ∷ [])) ≡ true
asked_more p x [] e = cc
asked_more p x (y ∷ ps) e = elim (stands p ps) as (λ o. stands p ps ≡ o → is_some (next_last (eq_by_cmp of_places.cmp p y) o) ≡ true
    → is_some (next_last (eq_by_cmp of_places.cmp p y) (stands p (ps ++ x ∷ []))) ≡ true) [
      | Some k ↦ λ was h. some_next (eq_by_cmp of_places.cmp p y) (stands p (ps ++ x ∷ [])) (asked_more p x ps (ap is_some was))
      | None ↦ λ was h. here (eq_by_cmp of_places.cmp p y) h (stands p (ps ++ x ∷ []))
    ] refl e
  where
    here : (b : Bool) → is_some (next_last b None) ≡ true → (o : Option ℕ) → is_some (next_last b o) ≡ true
    here b h None = h
    here b h (Some k) = refl

asked_last : (x : Place) (ps : List Place) → is_some (stands x (ps ++ x ∷ [])) ≡ true
asked_last x [] = ap (λ b. is_some (next_last b None)) (place_test x x ∙ same_place_itself x)
asked_last x (y ∷ ps) = some_next (eq_by_cmp of_places.cmp x y) (stands x (ps ++ x ∷ [])) (asked_last x ps)

-- once one more was asked for, unless it was before
module _ (x : Place) (old new : KeyedMembers Place) (made : MatchOption (stands x old.members) (new.members ≡ old.members ++ x ∷ []) (λ _. new.members ≡ old.members)) where
  pub asked_there : is_some (stands x new.members) ≡ true
  asked_there = elim (stands x old.members) as (λ o. stands x old.members ≡ o → MatchOption o (new.members ≡ old.members ++ x ∷ []) (λ _. new.members ≡ old.members) → is_some (stands x new.members) ≡ true) [
    | None ↦ λ was m. ap (λ ps. is_some (stands x ps)) m ∙ asked_last x old.members
    | Some k ↦ λ was m. ap (λ ps. is_some (stands x ps)) m ∙ ap is_some was
  ] refl made

  pub asked_before : (p : Place) → is_some (stands p old.members) ≡ true → is_some (stands p new.members) ≡ true
  asked_before p e = elim (stands x old.members) as (λ o. MatchOption o (new.members ≡ old.members ++ x ∷ []) (λ _. new.members ≡ old.members) → is_some (stands p new.members) ≡ true) [
    | None ↦ λ m. ap (λ ps. is_some (stands p ps)) m ∙ asked_more p x old.members e
    | Some k ↦ λ m. ap (λ ps. is_some (stands p ps)) m ∙ e
  ] made

  pub asked_for_more : (ps : List Place) → AreAsked ps old → AreAsked (ps ++ x ∷ []) new
  asked_for_more ps h = λ p e. elim (or_cases (has_place p ps) (same_place x p || false) (sym (has_place-append p ps (x ∷ [])) ∙ e)) [
    | inl before ↦ asked_before p (h p before)
    | inr here ↦ elim (or_cases (same_place x p) false here) [
      | inl is ↦ subst (λ z. is_some (stands z new.members) ≡ true) (same_place_is x p is) asked_there
      | inr f ↦ cc
    ]
  ]

-- what still waits was asked for
pub asked_left : (x : Place) (ps left : List Place) (asked : KeyedMembers Place) → left ≡ without x ps → AreAsked ps asked → AreAsked left asked
asked_left x ps left asked is h = λ p e. h p (without_only x p ps (sym (ap (has_place p) is) ∙ e))

-- and the first of them
pub asked_first : (n : ℕ) (ps left : List Place) → left ≡ take n ps → (asked : KeyedMembers Place) → AreAsked ps asked → AreAsked left asked
asked_first n ps left is asked h = λ p e.
    let whole : ps ≡ left ++ drop n ps = sym (ap (λ zs. zs ++ drop n ps) is ∙ take-append-drop n ps) in
    h p (ap (has_place p) whole ∙ has_place-append p left (drop n ps) ∙ or_left (has_place p left) (has_place p (drop n ps)) e)
