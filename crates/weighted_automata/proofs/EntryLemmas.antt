-- What a list of transitions has at a place.
use Rattle.std.proofs.Common.{◌++◌, set, zero, suc, ◌≡◌, ℕ, ◌+◌, ◌<◌, true, false, List, [], ◌∷◌, length, get_or, refl, sym, ap, ◌∙◌, subst, inl, inr, arith}
use Rattle.std.specs.Prelude.{Option, None, Some, cond, option_map, option_and_then, unwrap_or, slice_get}
use Rattle.std.proofs.lemmas.Bool.{cond-true, cond-false, cond_both, cases_Bool}
use Rattle.std.proofs.lemmas.Option.{same_Some, get_or_from_slice_get, slice_get_read}
use Rattle.weighted_automata.specs.declared.place.Place.{Place}
use Rattle.weighted_automata.specs.declared.transitions.Entry.{Entry}
use Rattle.weighted_automata.specs.Places.{same_place}
use Rattle.weighted_automata.specs.Entries.{entry_at, index_at, lowered, places_of, HasDistinctPlaces, Present}
use Rattle.weighted_automata.proofs.PlaceLemmas.{same_place_is, same_place_itself, other_place}

module _ {S W Map : Type 0} where
  pub entry_at-place : (x : Place) (ts : List (Entry S W Map)) (t : Entry S W Map) → entry_at x ts ≡ Some t → t.place ≡ x
  entry_at-place x [] t h = cc
  entry_at-place x (u ∷ ts) t h =
      let P : Option (Entry S W Map) → Type 0 = λ o. o ≡ Some t → t.place ≡ x in
      cond_both (same_place u.place x) (Some u) (entry_at x ts) P
      (λ e g. ap (λ (v : Entry S W Map). v.place) (sym (same_Some u t g)) ∙ same_place_is u.place x e)
      (λ e g. entry_at-place x ts t g) h

  pub entry_at-lowered_same : (x : Place) (w : W) (n : ℕ) (ts : List (Entry S W Map))
      → entry_at x (lowered x w n ts) ≡ Some (record { place = x; weight = w; node = n })
  entry_at-lowered_same x w n [] = cond-true (same_place x x) _ _ (same_place_itself x)
  entry_at-lowered_same x w n (u ∷ ts) =
      let new : Entry S W Map = record { place = x; weight = w; node = n } in
      let P : List (Entry S W Map) → Type 0 = λ us. entry_at x us ≡ Some new in
      cond_both (same_place u.place x) (new ∷ ts) (u ∷ lowered x w n ts) P
      (λ e. cond-true (same_place x x) _ _ (same_place_itself x))
      (λ e. cond-false (same_place u.place x) _ _ e ∙ entry_at-lowered_same x w n ts)

  pub entry_at-lowered_other : (x y : Place) (w : W) (n : ℕ) (ts : List (Entry S W Map)) → (x ≡ y → ⊥)
      → entry_at y (lowered x w n ts) ≡ entry_at y ts
  entry_at-lowered_other x y w n [] differs = cond-false (same_place x y) _ _ (other_place x y differs)
  entry_at-lowered_other x y w n (u ∷ ts) differs =
      let new : Entry S W Map = record { place = x; weight = w; node = n } in
      let P : List (Entry S W Map) → Type 0 = λ us. entry_at y us ≡ entry_at y (u ∷ ts) in
      cond_both (same_place u.place x) (new ∷ ts) (u ∷ lowered x w n ts) P
      (λ e. cond-false (same_place x y) _ _ (other_place x y differs)
      ∙ sym (cond-false (same_place u.place y) (Some u) (entry_at y ts) (other_place u.place y (λ p. differs (sym (same_place_is u.place x e) ∙ p)))))
      (λ e. ap (cond (same_place u.place y) (Some u)) (entry_at-lowered_other x y w n ts differs))

  pub distinct-lowered : (x : Place) (w : W) (n : ℕ) (ts : List (Entry S W Map)) → HasDistinctPlaces ts → HasDistinctPlaces (lowered x w n ts)
  distinct-lowered x w n [] d = (refl, tt)
  distinct-lowered x w n (u ∷ ts) d =
      let new : Entry S W Map = record { place = x; weight = w; node = n } in
      cond_both (same_place u.place x) (new ∷ ts) (u ∷ lowered x w n ts) HasDistinctPlaces
      (λ e. (ap (λ z. entry_at z ts) (sym (same_place_is u.place x e)) ∙ d.0, d.1))
      (λ e. (
        entry_at-lowered_other x u.place w n ts (λ p. let f : true ≡ false = sym (same_place_itself x) ∙ ap (λ z. same_place z x) p ∙ e in cc) ∙ d.0,
        distinct-lowered x w n ts d.1,
      ))

module _ {S W Map : Type 0} (x : Place) (w : W) (n : ℕ) where
  abbrev new_entry : Entry S W Map
  new_entry = record { place = x; weight = w; node = n }

  -- to lower a place that is there is to write its entry
  pub lowered_at : (ts : List (Entry S W Map)) (k : ℕ) → index_at x ts ≡ Some k → lowered x w n ts ≡ set ts k new_entry
  lowered_at [] k e = cc
  lowered_at (u ∷ ts) k e =
      elim (same_place u.place x) as (λ b. cond b (Some 0) (option_map (λ i. i + 1) (index_at x ts)) ≡ Some k → cond b (new_entry ∷ ts) (u ∷ lowered x w n ts) ≡ set (u ∷ ts) k new_entry) [
        | true ↦ λ h. ap (λ j. set (u ∷ ts) j new_entry) (same_Some 0 k h)
        | false ↦ λ h. elim (index_at x ts) as (λ i. index_at x ts ≡ i → option_map (λ j. j + 1) i ≡ Some k → u ∷ lowered x w n ts ≡ set (u ∷ ts) k new_entry) [
          | None ↦ λ was f. cc
          | Some j ↦ λ was f.
              let next : suc j ≡ k = let g : j + 1 ≡ k = same_Some (j + 1) k f in omega arith in
              ap (λ us. u ∷ us) (lowered_at ts j was) ∙ ap (λ i. set (u ∷ ts) i new_entry) next
        ] refl h
      ] e

  -- and to lower another is to add it last
  pub lowered_last : (ts : List (Entry S W Map)) → index_at x ts ≡ None → lowered x w n ts ≡ ts ++ new_entry ∷ []
  lowered_last [] e = refl
  lowered_last (u ∷ ts) e =
      elim (same_place u.place x) as (λ b. cond b (Some 0) (option_map (λ i. i + 1) (index_at x ts)) ≡ None → cond b (new_entry ∷ ts) (u ∷ lowered x w n ts) ≡ (u ∷ ts) ++ new_entry ∷ []) [
        | true ↦ λ h. cc
        | false ↦ λ h. elim (index_at x ts) as (λ i. index_at x ts ≡ i → option_map (λ j. j + 1) i ≡ None → u ∷ lowered x w n ts ≡ (u ∷ ts) ++ new_entry ∷ []) [
          | None ↦ λ was f. ap (λ us. u ∷ us) (lowered_last ts was)
          | Some j ↦ λ was f. cc
        ] refl h
      ] e

plus_one : (o : Option ℕ) (n : ℕ) → unwrap_or o n + 1 ≡ unwrap_or (option_map (λ k. k + 1) o) (suc n)
plus_one None n = omega arith
plus_one (Some k) n = refl

module _ {S W Map : Type 0} (x : Place) (w : W) (n : ℕ) where
  -- where a lowered place stands: where it stood, or last
  pub index_at-lowered : (ts : List (Entry S W Map)) → index_at x (lowered x w n ts) ≡ Some (unwrap_or (index_at x ts) (length ts))
  index_at-lowered [] = cond-true (same_place x x) _ _ (same_place_itself x)
  index_at-lowered (u ∷ ts) =
      let new : Entry S W Map = record { place = x; weight = w; node = n } in
      let next : Option ℕ → Option ℕ = λ o. option_map (λ k. k + 1) o in
      elim (cases_Bool (same_place u.place x)) [
        | inl e ↦
            ap (index_at x) (cond-true (same_place u.place x) (new ∷ ts) (u ∷ lowered x w n ts) e)
            ∙ cond-true (same_place x x) (Some 0) (next (index_at x ts)) (same_place_itself x)
            ∙ ap (λ o. Some (unwrap_or o (length (u ∷ ts)))) (sym (cond-true (same_place u.place x) (Some 0) (next (index_at x ts)) e))
        | inr e ↦
            ap (index_at x) (cond-false (same_place u.place x) (new ∷ ts) (u ∷ lowered x w n ts) e)
            ∙ cond-false (same_place u.place x) (Some 0) (next (index_at x (lowered x w n ts))) e
            ∙ ap next (index_at-lowered ts)
            ∙ ap Some (plus_one (index_at x ts) (length ts))
            ∙ ap (λ o. Some (unwrap_or o (length (u ∷ ts)))) (sym (cond-false (same_place u.place x) (Some 0) (next (index_at x ts)) e))
      ]

shifted : {X : Type 0} (x : X) (xs : List X) (o : Option ℕ) → option_and_then (slice_get (x ∷ xs)) (option_map (λ k. k + 1) o) ≡ option_and_then (slice_get xs) o
shifted x xs None = refl
shifted x xs (Some k) = let next : k + 1 ≡ suc k = omega arith in ap (slice_get (x ∷ xs)) next

-- what stands where a place stands is the transition there
pub at_index_at : {S W Map : Type 0} (x : Place) (ts : List (Entry S W Map)) → option_and_then (slice_get ts) (index_at x ts) ≡ entry_at x ts
at_index_at x [] = refl
at_index_at x (u ∷ ts) = elim (same_place u.place x) as (λ b. option_and_then (slice_get (u ∷ ts)) (cond b (Some 0) (option_map (λ k. k + 1) (index_at x ts))) ≡ cond b (Some u) (entry_at x ts)) [
  | true ↦ refl
  | false ↦ shifted u ts (index_at x ts) ∙ at_index_at x ts
]

-- as the loop's answer has it, over the transitions that it reads
module _ {S W Map : Type 0} (x : Place) (ts us : List (Entry S W Map)) where
  pub entry_found : (k : ℕ) → ts ≡ us → Some k ≡ index_at x ts → slice_get us k ≡ entry_at x us
  entry_found k same e =
      let P : List (Entry S W Map) → Type 0 = λ vs. slice_get vs k ≡ entry_at x vs in
      subst P same (ap (option_and_then (slice_get ts)) e ∙ at_index_at x ts)

  pub entry_missed : ts ≡ us → None ≡ index_at x ts → None ≡ entry_at x us
  entry_missed same e =
      let P : List (Entry S W Map) → Type 0 = λ vs. None ≡ entry_at x vs in
      subst P same (ap (option_and_then (slice_get ts)) e ∙ at_index_at x ts)

-- To lower a place that is there leaves the places,
pub places-lowered : {S W Map : Type 0} (x : Place) (w : W) (n : ℕ) (ts : List (Entry S W Map)) (k : ℕ) → index_at x ts ≡ Some k → places_of (lowered x w n ts) ≡ places_of ts
places-lowered x w n [] k e = cc
places-lowered x w n (t ∷ ts) k e = elim (cases_Bool (same_place t.place x)) [
  | inl is ↦ ap places_of (cond-true (same_place t.place x) (record { place = x; weight = w; node = n } ∷ ts) (t ∷ lowered x w n ts) is) ∙ ap (λ y. y ∷ places_of ts) (sym (same_place_is t.place x is))
  | inr differs ↦
      ap places_of (cond-false (same_place t.place x) (record { place = x; weight = w; node = n } ∷ ts) (t ∷ lowered x w n ts) differs)
      ∙ elim (index_at x ts) as (λ o. index_at x ts ≡ o → option_map (λ j. j + 1) o ≡ Some k → t.place ∷ places_of (lowered x w n ts) ≡ t.place ∷ places_of ts) [
        | None ↦ λ was f. cc
        | Some j ↦ λ was f. ap (λ ys. t.place ∷ ys) (places-lowered x w n ts j was)
      ] refl (sym (cond-false (same_place t.place x) (Some 0) (option_map (λ j. j + 1) (index_at x ts)) differs) ∙ e)
]

-- and the place of one that is added goes last.
pub places-added : {S W Map : Type 0} (ts : List (Entry S W Map)) (t : Entry S W Map) → places_of (ts ++ t ∷ []) ≡ places_of ts ++ t.place ∷ []
places-added [] t = refl
places-added (u ∷ ts) t = ap (λ ys. u.place ∷ ys) (places-added ts t)

-- Where no place stands twice, what stands at a place is the transition there.
module _ {S W Map : Type 0} where
  pub get_at_place : (ts : List (Entry S W Map)) → HasDistinctPlaces ts → (i : ℕ) (t : Entry S W Map) → slice_get ts i ≡ Some t → index_at t.place ts ≡ Some i
  get_at_place [] d i t e = cc
  get_at_place (u ∷ ts) d zero t e =
      cond-true (same_place u.place t.place) (Some 0) (option_map (λ k. k + 1) (index_at t.place ts)) (ap (λ (v : Entry S W Map). same_place u.place v.place) (sym (same_Some u t e)) ∙ same_place_itself u.place)
  get_at_place (u ∷ ts) d (suc i) t e =
      let there : index_at t.place ts ≡ Some i = get_at_place ts d.1 i t e in
      let differs : u.place ≡ t.place → ⊥ = λ is.
      let f : None ≡ Some t = sym d.0 ∙ ap (λ p. entry_at p ts) is ∙ sym (at_index_at t.place ts) ∙ ap (option_and_then (slice_get ts)) there ∙ e in cc in
      let next : i + 1 ≡ suc i = omega arith in
      cond-false (same_place u.place t.place) (Some 0) (option_map (λ k. k + 1) (index_at t.place ts)) (other_place u.place t.place differs)
      ∙ ap (option_map (λ k. k + 1)) there ∙ ap Some next

  -- what stands at a number is the transition at its place
  pub present_there : (ts us : List (Entry S W Map)) → HasDistinctPlaces ts → ts ≡ us → (i : ℕ) (t : Entry S W Map) → slice_get us i ≡ Some t → Present us t
  present_there ts us d same i t e =
      let P : List (Entry S W Map) → Type 0 = λ vs. slice_get vs i ≡ Some t → Present vs t in
      subst P same (λ at. sym (at_index_at t.place ts) ∙ ap (option_and_then (slice_get ts)) (get_at_place ts d i t at) ∙ at) e

  pub stands_once : (ts : List (Entry S W Map)) → HasDistinctPlaces ts → (i j : ℕ) (t u : Entry S W Map)
      → slice_get ts i ≡ Some t → slice_get ts j ≡ Some u → t.place ≡ u.place → i ≡ j
  stands_once ts d i j t u at_i at_j same =
      same_Some i j (sym (get_at_place ts d i t at_i) ∙ ap (λ p. index_at p ts) same ∙ get_at_place ts d j u at_j)

-- To write a weight and a node where a transition stands is to lower its place.
module _ {S W Map : Type 0} (ts us : List (Entry S W Map)) (distinct : HasDistinctPlaces ts) (k : ℕ) (read : Entry S W Map) (is_read : read ≡ get_or ts k read) (w : W) (n : ℕ)
    (written : us ≡ set ts k (new_entry read.place w n)) where
  pub written_at : (t : Entry S W Map) → slice_get ts k ≡ Some t → us ≡ lowered t.place w n ts
  written_at t there =
      let same : read ≡ t = is_read ∙ get_or_from_slice_get ts k t read there in
      written ∙ ap (λ (v : Entry S W Map). set ts k (new_entry v.place w n)) same ∙ sym (lowered_at t.place w n ts k (get_at_place ts distinct k t there))

  module _ (within : k < length ts) where
    there : slice_get ts k ≡ Some read
    there = slice_get_read ts (length ts) k read refl within is_read

    pub written_distinct : HasDistinctPlaces us
    written_distinct = subst HasDistinctPlaces (sym (written_at read there)) (distinct-lowered read.place w n ts distinct)

    pub written_places : places_of us ≡ places_of ts
    written_places = ap places_of (written_at read there) ∙ places-lowered read.place w n ts k (get_at_place ts distinct k read there)

-- what stands where a place is found is a transition at that place
module _ {S W Map : Type 0} (x : Place) (ts : List (Entry S W Map)) (k : ℕ) (found : index_at x ts ≡ Some k) where
  pub found_place : (t : Entry S W Map) → slice_get ts k ≡ Some t → t.place ≡ x
  found_place t at = entry_at-place x ts t (sym (at_index_at x ts) ∙ ap (option_and_then (slice_get ts)) found ∙ at)

pub found_within : {S W Map : Type 0} (x : Place) (ts : List (Entry S W Map)) (k : ℕ) → index_at x ts ≡ Some k → k < length ts
found_within x [] k e = cc
found_within x (t ∷ ts) k e = elim (same_place t.place x) as (λ b. cond b (Some 0) (option_map (λ i. i + 1) (index_at x ts)) ≡ Some k → k < length (t ∷ ts)) [
  | true ↦ λ h. let g : 0 ≡ k = same_Some 0 k h in omega arith
  | false ↦ λ h. elim (index_at x ts) as (λ i. index_at x ts ≡ i → option_map (λ j. j + 1) i ≡ Some k → k < length (t ∷ ts)) [
    | None ↦ λ was f. cc
    | Some j ↦ λ was f. let g : j + 1 ≡ k = same_Some (j + 1) k f in omega (arith, found_within x ts j was)
  ] refl h
] e
