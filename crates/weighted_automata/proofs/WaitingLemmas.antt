-- The room that an index has for the places that wait.
use Rattle.std.proofs.Common.{◌≡◌, ℕ, ◌+◌, ◌≤◌, true, false, List, [], ◌∷◌, ◌++◌, length, take, drop, sym, ap, ◌∙◌, subst, inl, inr, arith, length-append, take-append-drop}
use Rattle.std.specs.Prelude.{◌||◌}
use Rattle.std.proofs.lemmas.Bool.{or_cases, or_left}
use Rattle.std.proofs.lemmas.List.{length_push}
use Rattle.weighted_automata.specs.declared.place.Place.{Place}
use Rattle.weighted_automata.specs.declared.index.PlaceIndex.{PlaceIndex}
use Rattle.weighted_automata.specs.Places.{same_place, has_place}
use Rattle.weighted_automata.specs.private.Room.{without}
use Rattle.weighted_automata.specs.private.Index.{HasCells, HasSpaces, HasRoomFor}
use Rattle.weighted_automata.proofs.PlaceLemmas.{same_place_is}
use Rattle.weighted_automata.proofs.RoomLemmas.{has_place-append, without_only, length-without}

pub fewer_spaces : (n m : ℕ) (index : PlaceIndex) → n ≤ m → HasSpaces m index → HasSpaces n index
fewer_spaces n m index less h = record {
  sources = omega (arith, less, h.sources);
  states = omega (arith, less, h.states);
  empties = omega (arith, less, h.empties);
}

-- where none waits, room for none
pub room_for_none : (index : PlaceIndex) → HasSpaces 0 index → HasRoomFor [] index
room_for_none index spaces = record { cells = λ p e. cc; spaces = spaces }

-- room stays where each cell stays, and the space
pub room_kept_in : (ps : List Place) (old new : PlaceIndex) → ((p : Place) → HasCells old p → HasCells new p) → HasSpaces (length ps) new → HasRoomFor ps old → HasRoomFor ps new
room_kept_in ps old new cells spaces h = record { cells = λ p e. cells p (h.cells p e); spaces = spaces }

-- one place more
pub room_for_more : (ps : List Place) (x : Place) (index : PlaceIndex) → HasRoomFor ps index → HasCells index x → HasSpaces (length ps + 1) index → HasRoomFor (ps ++ x ∷ []) index
room_for_more ps x index h cells spaces = record {
  cells = λ p e. elim (or_cases (has_place p ps) (same_place x p || false) (sym (has_place-append p ps (x ∷ [])) ∙ e)) [
    | inl before ↦ h.cells p before
    | inr here ↦ elim (or_cases (same_place x p) false here) [
      | inl is ↦ subst (HasCells index) (same_place_is x p is) cells
      | inr f ↦ cc
    ]
  ];
  spaces = subst (λ (n : ℕ). HasSpaces n index) (sym (length_push ps x)) spaces;
}

-- the first of them
module _ (n : ℕ) (ps left : List Place) (is : left ≡ take n ps) where
  whole : ps ≡ left ++ drop n ps
  whole = sym (ap (λ zs. zs ++ drop n ps) is ∙ take-append-drop n ps)

  pub first_are_fewer : length left ≤ length ps
  first_are_fewer = omega (arith, ap length whole, length-append left (drop n ps))

  pub room_for_first : (index : PlaceIndex) → HasRoomFor ps index → HasRoomFor left index
  room_for_first index h = record {
    cells = λ p e. h.cells p (ap (has_place p) whole ∙ has_place-append p left (drop n ps) ∙ or_left (has_place p left) (has_place p (drop n ps)) e);
    spaces = fewer_spaces (length left) (length ps) index first_are_fewer h.spaces;
  }

-- what is taken out leaves room for the others, and its own
module _ (x : Place) (ps left : List Place) (index : PlaceIndex) (h : HasRoomFor ps index) (was : left ≡ without x ps) (here : has_place x ps ≡ true) where
  one_less : length left + 1 ≡ length ps
  one_less = ap (λ (zs : List Place). length zs + 1) was ∙ length-without x ps here

  pub room_left : HasRoomFor left index
  room_left = record {
    cells = λ p e. h.cells p (without_only x p ps (sym (ap (has_place p) was) ∙ e));
    spaces = fewer_spaces (length left) (length ps) index (omega (arith, one_less)) h.spaces;
  }

  pub space_left : HasSpaces (length left + 1) index
  space_left = fewer_spaces (length left + 1) (length ps) index (omega (arith, one_less)) h.spaces
