-- What entries say of a place: once a weight came to one, once one was taken, and by its number.
use Rattle.std.proofs.Common.{◌≡◌, ◌≢◌, ◌⊎◌, inl, inr, ℕ, zero, suc, ◌+◌, Bool, true, false, List, [], ◌∷◌, refl, sym, ap, ap₂, ◌∙◌, arith}
use Rattle.std.specs.Prelude.{Option, None, Some, cond, option_map, slice_get, if◌then◌else◌}
use Rattle.std.specs.List.{AllByRecursion}
use Rattle.std.proofs.lemmas.Bool.{cond-true, cond-false, cases_Bool}
use Rattle.std.proofs.lemmas.Option.{same_Some}
use Rattle.semiring_laws.specs.Semiring.{Operations, IsSemiring, Fits}
use Rattle.weighted_automata.specs.declared.place.Place.{Place}
use Rattle.weighted_automata.specs.Places.{same_place}
use Rattle.weighted_automata.proofs.CallerLemmas.{same_place_is, same_place_itself, other_place}
use Rattle.weight_tables.specs.Entries.{TableEntry, index_at, taken, NoneWaits, HasDistinctPlaces, weight_in, settled_in, lowered_entry, lowered_in}

-- Entries keep their numbers and places; others may come behind them.
abbrev pub KeepPlaces : {W : Type 0} → List (TableEntry W) → List (TableEntry W) → Type 0
KeepPlaces {W} es es' = (k : ℕ) (e : TableEntry W) → slice_get es k ≡ Some e → (e' : TableEntry W) × (slice_get es' k ≡ Some e') × (e'.place ≡ e.place)

module _ {W : Type 0} where
  pub places_stay : (es : List (TableEntry W)) → KeepPlaces es es
  places_stay es k e there = (e, there, refl)

  pub places_then : (a b c : List (TableEntry W)) → KeepPlaces a b → KeepPlaces b c → KeepPlaces a c
  places_then a b c one two k e there =
      let first = one k e there in
      let next = two k first.0 first.1 in
      (next.0, next.1, next.2 ∙ first.2)

  -- a place that is found, and one that is not
  pub index_place : (x : Place) (es : List (TableEntry W)) (k : ℕ) (e : TableEntry W) → index_at x es ≡ Some k → slice_get es k ≡ Some e → e.place ≡ x
  index_place x [] k e at there = cc
  index_place x (d ∷ es) k e at there = elim (same_place d.place x) as (λ b. same_place d.place x ≡ b → cond b (Some 0) (option_map (λ i. i + 1) (index_at x es)) ≡ Some k → e.place ≡ x) [
    | true ↦ λ is h.
        let first : 0 ≡ k = same_Some 0 k h in
        let here : d ≡ e = same_Some d e (ap (slice_get (d ∷ es)) first ∙ there) in
        ap (λ (f : TableEntry W). f.place) (sym here) ∙ same_place_is d.place x is
    | false ↦ λ _ h. elim (index_at x es) as (λ o. index_at x es ≡ o → option_map (λ i. i + 1) o ≡ Some k → e.place ≡ x) [
      | None ↦ λ was f. cc
      | Some j ↦ λ was f.
          let g : j + 1 ≡ k = same_Some (j + 1) k f in
          let next : suc j ≡ k = omega (arith, g) in
          index_place x es j e was (ap (slice_get (d ∷ es)) next ∙ there)
    ] refl h
  ] refl at

  pub index_there : (es : List (TableEntry W)) → HasDistinctPlaces es → (k : ℕ) (e : TableEntry W) → slice_get es k ≡ Some e → index_at e.place es ≡ Some k
  index_there [] d k e there = cc
  index_there (f ∷ es) d zero e there =
      cond-true (same_place f.place e.place) (Some 0) (option_map (λ i. i + 1) (index_at e.place es)) (ap (λ (v : TableEntry W). same_place f.place v.place) (sym (same_Some f e there)) ∙ same_place_itself f.place)
  index_there (f ∷ es) d (suc k) e there =
      let at : index_at e.place es ≡ Some k = index_there es d.1 k e there in
      let differs : f.place ≡ e.place → ⊥ = λ is. let no : None ≡ Some k = sym d.0 ∙ ap (λ p. index_at p es) is ∙ at in cc in
      let next : k + 1 ≡ suc k = omega arith in
      cond-false (same_place f.place e.place) (Some 0) (option_map (λ i. i + 1) (index_at e.place es)) (other_place f.place e.place differs)
      ∙ ap (option_map (λ i. i + 1)) at ∙ ap Some next

module _ {W Map : Type 0} (s : Operations W Map) where
  -- what an entry says of its place: its weight, where it does not wait
  abbrev pub settled_of : TableEntry W → W
  settled_of e = if e.waits then s.zero else e.weight

  pub none_weight : (x : Place) (es : List (TableEntry W)) → index_at x es ≡ None → weight_in s es x ≡ s.zero
  none_weight x [] none = refl
  none_weight x (e ∷ es) none = elim (same_place e.place x) as (λ b. cond b (Some 0) (option_map (λ i. i + 1) (index_at x es)) ≡ None → (if b then e.weight else weight_in s es x) ≡ s.zero) [
    | true ↦ λ h. cc
    | false ↦ λ h. elim (index_at x es) as (λ o. index_at x es ≡ o → option_map (λ i. i + 1) o ≡ None → weight_in s es x ≡ s.zero) [
      | None ↦ λ was f. none_weight x es was
      | Some j ↦ λ was f. cc
    ] refl h
  ] none

  -- the weight of a place is that of its entry, and it counts where that does not wait
  pub weight_at_index : (x : Place) (es : List (TableEntry W)) (k : ℕ) (e : TableEntry W) → index_at x es ≡ Some k → slice_get es k ≡ Some e
      → (weight_in s es x ≡ e.weight) × (settled_in s es x ≡ settled_of e)
  weight_at_index x [] k e at there = cc
  weight_at_index x (d ∷ es) k e at there =
      elim (same_place d.place x) as (λ b. cond b (Some 0) (option_map (λ i. i + 1) (index_at x es)) ≡ Some k
      → ((if b then d.weight else weight_in s es x) ≡ e.weight) × ((if b then (if d.waits then s.zero else d.weight) else settled_in s es x) ≡ settled_of e)) [
        | true ↦ λ h.
            let first : 0 ≡ k = same_Some 0 k h in
            let here : d ≡ e = same_Some d e (ap (slice_get (d ∷ es)) first ∙ there) in
            (ap (λ (f : TableEntry W). f.weight) here, ap settled_of here)
        | false ↦ λ h. elim (index_at x es) as (λ o. index_at x es ≡ o → option_map (λ i. i + 1) o ≡ Some k → (weight_in s es x ≡ e.weight) × (settled_in s es x ≡ settled_of e)) [
          | None ↦ λ was f. cc
          | Some j ↦ λ was f.
              let g : j + 1 ≡ k = same_Some (j + 1) k f in
              let next : suc j ≡ k = omega (arith, g) in
              weight_at_index x es j e was (ap (slice_get (d ∷ es)) next ∙ there)
        ] refl h
      ] at

  -- what counts is the weight, or nothing
  pub settled_or_none : (x : Place) (es : List (TableEntry W)) → (settled_in s es x ≡ weight_in s es x) ⊎ (settled_in s es x ≡ s.zero)
  settled_or_none x [] = inl refl
  settled_or_none x (e ∷ es) = elim (same_place e.place x) as (λ b. ((if b then settled_of e else settled_in s es x) ≡ (if b then e.weight else weight_in s es x)) ⊎ ((if b then settled_of e else settled_in s es x) ≡ s.zero)) [
    | true ↦ elim e.waits as (λ c. ((if c then s.zero else e.weight) ≡ e.weight) ⊎ ((if c then s.zero else e.weight) ≡ s.zero)) [ true ↦ inr refl | false ↦ inl refl ]
    | false ↦ settled_or_none x es
  ]

  pub none_settled : (x : Place) (es : List (TableEntry W)) → index_at x es ≡ None → settled_in s es x ≡ s.zero
  none_settled x es none = elim (settled_or_none x es) [ inl same ↦ same ∙ none_weight x es none | inr is ↦ is ]

  -- where none waits, each counts
  pub all_settled : (x : Place) (es : List (TableEntry W)) → NoneWaits es → settled_in s es x ≡ weight_in s es x
  all_settled x [] none = refl
  all_settled x (e ∷ es) none =
      ap (λ b. if same_place e.place x then (if b then s.zero else e.weight) else settled_in s es x) none.0
      ∙ ap (λ w. if same_place e.place x then e.weight else w) (all_settled x es none.1)

  pub place_fits : (x : Place) (es : List (TableEntry W)) → Fits s s.zero → AllByRecursion (λ e. Fits s e.weight) es → Fits s (weight_in s es x)
  place_fits x [] fz all = fz
  place_fits x (e ∷ es) fz all = elim (same_place e.place x) as (λ (b : Bool). Fits s (if b then e.weight else weight_in s es x)) [ true ↦ all.0 | false ↦ place_fits x es fz all.1 ]

  -- One that waited was taken: its weight stays, and the others are as they were.
  pub taken_weight : (y : Place) (t : ℕ) (es : List (TableEntry W)) → weight_in s (taken t es) y ≡ weight_in s es y
  taken_weight y t [] = refl
  taken_weight y zero (e ∷ es) = refl
  taken_weight y (suc t) (e ∷ es) = ap (λ w. if same_place e.place y then e.weight else w) (taken_weight y t es)

  pub taken_settled : (y : Place) (t : ℕ) (es : List (TableEntry W)) (e : TableEntry W) → slice_get es t ≡ Some e → (e.place ≡ y → ⊥) → settled_in s (taken t es) y ≡ settled_in s es y
  taken_settled y t [] e there differs = refl
  taken_settled y zero (d ∷ es) e there differs =
      let here : d ≡ e = same_Some d e there in
      let other : same_place d.place y ≡ false = ap (λ (f : TableEntry W). same_place f.place y) here ∙ other_place e.place y differs in
      cond-false (same_place d.place y) d.weight (settled_in s es y) other ∙ sym (cond-false (same_place d.place y) (settled_of d) (settled_in s es y) other)
  taken_settled y (suc t) (d ∷ es) e there differs = ap (λ w. if same_place d.place y then settled_of d else w) (taken_settled y t es e there differs)

  pub taken_places : (t : ℕ) (es : List (TableEntry W)) → KeepPlaces es (taken t es)
  taken_places t [] k e there = cc
  taken_places zero (d ∷ es) zero e there = let new : TableEntry W = record d { waits = false } in (new, refl, ap (λ (f : TableEntry W). f.place) (same_Some d e there))
  taken_places zero (d ∷ es) (suc k) e there = (e, there, refl)
  taken_places (suc t) (d ∷ es) zero e there = (e, there, refl)
  taken_places (suc t) (d ∷ es) (suc k) e there = taken_places t es k e there

module _ {W Map : Type 0} {s : Operations W Map} (laws : IsSemiring s) (x : Place) (w : W) (fw : Fits s w) where
  abbrev AllFit : List (TableEntry W) → Type 0
  AllFit es = AllByRecursion (λ e. Fits s e.weight) es

  abbrev made : TableEntry W
  made = record { place = x; weight = w; waits = true }

  abbrev changed : TableEntry W → TableEntry W
  changed e = record { place = e.place; weight = s.combine e.weight w; waits = true }

  -- a weight that comes to an entry changes nothing, or the entry waits with another weight
  one_lowered : (e : TableEntry W) → Fits s e.weight
      → ((lowered_entry s w e ≡ e) × (s.combine e.weight w ≡ e.weight)) ⊎ ((lowered_entry s w e ≡ changed e) × (s.combine e.weight w ≢ e.weight))
  one_lowered e fe =
      let test = laws.same_is_equal (s.combine e.weight w) e.weight (laws.fits-combine e.weight w fe fw) fe in
      elim (cases_Bool (s.same (s.combine e.weight w) e.weight)) [
        | inl same ↦ inl (cond-true (s.same (s.combine e.weight w) e.weight) e (changed e) same, test.0 same)
        | inr differs ↦ inr (cond-false (s.same (s.combine e.weight w) e.weight) e (changed e) differs, λ equal. let both : true ≡ false = sym (test.1 equal) ∙ differs in cc)
      ]

  -- a weight that comes to no entry is zero and adds nothing, or it is added
  one_added : ((lowered_in s x w [] ≡ []) × (w ≡ s.zero)) ⊎ ((lowered_in s x w [] ≡ made ∷ []) × (w ≢ s.zero))
  one_added =
      let test = laws.same_is_equal w s.zero fw laws.fits-zero in
      elim (cases_Bool (s.same w s.zero)) [
        | inl same ↦ inl (cond-true (s.same w s.zero) [] (made ∷ []) same, test.0 same)
        | inr differs ↦ inr (cond-false (s.same w s.zero) [] (made ∷ []) differs, λ equal. let both : true ≡ false = sym (test.1 equal) ∙ differs in cc)
      ]

  entry_place : (e : TableEntry W) → (lowered_entry s w e).place ≡ e.place
  entry_place e = elim (s.same (s.combine e.weight w) e.weight) as (λ (b : Bool). (cond b e (changed e)).place ≡ e.place) [ true ↦ refl | false ↦ refl ]

  here_list : (e : TableEntry W) (es : List (TableEntry W)) → same_place e.place x ≡ true → lowered_in s x w (e ∷ es) ≡ lowered_entry s w e ∷ es
  here_list e es is = cond-true (same_place e.place x) (lowered_entry s w e ∷ es) (e ∷ lowered_in s x w es) is

  later_list : (e : TableEntry W) (es : List (TableEntry W)) → same_place e.place x ≡ false → lowered_in s x w (e ∷ es) ≡ e ∷ lowered_in s x w es
  later_list e es other = cond-false (same_place e.place x) (lowered_entry s w e ∷ es) (e ∷ lowered_in s x w es) other

  weight_first : (e : TableEntry W) (es : List (TableEntry W)) → same_place e.place x ≡ true → weight_in s (e ∷ es) x ≡ e.weight
  weight_first e es is = cond-true (same_place e.place x) e.weight (weight_in s es x) is

  weight_later : (e : TableEntry W) (es : List (TableEntry W)) → same_place e.place x ≡ false → weight_in s (e ∷ es) x ≡ weight_in s es x
  weight_later e es other = cond-false (same_place e.place x) e.weight (weight_in s es x) other

  settled_first : (e : TableEntry W) (es : List (TableEntry W)) → same_place e.place x ≡ true → settled_in s (e ∷ es) x ≡ settled_of s e
  settled_first e es is = cond-true (same_place e.place x) (settled_of s e) (settled_in s es x) is

  settled_later : (e : TableEntry W) (es : List (TableEntry W)) → same_place e.place x ≡ false → settled_in s (e ∷ es) x ≡ settled_in s es x
  settled_later e es other = cond-false (same_place e.place x) (settled_of s e) (settled_in s es x) other

  -- The place that it comes to
  pub lowered_weight_here : (es : List (TableEntry W)) → AllFit es → weight_in s (lowered_in s x w es) x ≡ s.combine (weight_in s es x) w
  lowered_weight_here [] all = elim one_added [
    | inl none ↦ ap (λ es. weight_in s es x) none.0 ∙ sym (laws.combine_zero w fw ∙ none.1)
    | inr some ↦ ap (λ es. weight_in s es x) some.0 ∙ weight_first made [] (same_place_itself x) ∙ sym (laws.combine_zero w fw)
  ]
  lowered_weight_here (e ∷ es) all = elim (cases_Bool (same_place e.place x)) [
    | inl is ↦
        let sum : s.combine (weight_in s (e ∷ es) x) w ≡ s.combine e.weight w = ap (λ v. s.combine v w) (weight_first e es is) in
        let new : (lowered_entry s w e).weight ≡ s.combine e.weight w = elim (one_lowered e all.0) [
          | inl same ↦ ap (λ (f : TableEntry W). f.weight) same.0 ∙ sym same.1
          | inr differs ↦ ap (λ (f : TableEntry W). f.weight) differs.0
        ] in
        ap (λ ds. weight_in s ds x) (here_list e es is)
        ∙ weight_first (lowered_entry s w e) es (ap (λ y. same_place y x) (entry_place e) ∙ is) ∙ new ∙ sym sum
    | inr other ↦ ap (λ ds. weight_in s ds x) (later_list e es other) ∙ weight_later e (lowered_in s x w es) other ∙ lowered_weight_here es all.1
        ∙ ap (λ v. s.combine v w) (sym (weight_later e es other))
  ]

  pub lowered_settled_here : (es : List (TableEntry W)) → AllFit es → (settled_in s (lowered_in s x w es) x ≡ settled_in s es x) ⊎ (settled_in s (lowered_in s x w es) x ≡ s.zero)
  lowered_settled_here [] all = elim one_added [
    | inl none ↦ inl (ap (λ es. settled_in s es x) none.0)
    | inr some ↦ inr (ap (λ es. settled_in s es x) some.0 ∙ settled_first made [] (same_place_itself x))
  ]
  lowered_settled_here (e ∷ es) all = elim (cases_Bool (same_place e.place x)) [
    | inl is ↦ elim (one_lowered e all.0) [
      | inl same ↦ inl (ap (λ ds. settled_in s ds x) (here_list e es is ∙ ap (λ d. d ∷ es) same.0))
      | inr differs ↦ inr (ap (λ ds. settled_in s ds x) (here_list e es is ∙ ap (λ d. d ∷ es) differs.0) ∙ settled_first (changed e) es is)
    ]
    | inr other ↦
        let now : settled_in s (lowered_in s x w (e ∷ es)) x ≡ settled_in s (lowered_in s x w es) x = ap (λ ds. settled_in s ds x) (later_list e es other) ∙ settled_later e (lowered_in s x w es) other in
        elim (lowered_settled_here es all.1) [ inl same ↦ inl (now ∙ same ∙ sym (settled_later e es other)) | inr none ↦ inr (now ∙ none) ]
  ]

  -- and the others.
  module _ (y : Place) (differs : x ≡ y → ⊥) where
    elsewhere : (e : TableEntry W) → same_place e.place x ≡ true → same_place e.place y ≡ false
    elsewhere e is = other_place e.place y (λ p. differs (sym (same_place_is e.place x is) ∙ p))

    pub lowered_weight_other : (es : List (TableEntry W)) → weight_in s (lowered_in s x w es) y ≡ weight_in s es y
    lowered_weight_other [] = elim (s.same w s.zero) as (λ (b : Bool). weight_in s (if b then [] else made ∷ []) y ≡ s.zero) [
      | true ↦ refl
      | false ↦ cond-false (same_place x y) w s.zero (other_place x y differs)
    ]
    lowered_weight_other (e ∷ es) = elim (cases_Bool (same_place e.place x)) [
      | inl is ↦ ap (λ ds. weight_in s ds y) (here_list e es is)
          ∙ cond-false (same_place (lowered_entry s w e).place y) (lowered_entry s w e).weight (weight_in s es y) (ap (λ z. same_place z y) (entry_place e) ∙ elsewhere e is)
          ∙ sym (cond-false (same_place e.place y) e.weight (weight_in s es y) (elsewhere e is))
      | inr other ↦ ap (λ ds. weight_in s ds y) (later_list e es other) ∙ ap (λ v. if same_place e.place y then e.weight else v) (lowered_weight_other es)
    ]

    pub lowered_settled_other : (es : List (TableEntry W)) → settled_in s (lowered_in s x w es) y ≡ settled_in s es y
    lowered_settled_other [] = elim (s.same w s.zero) as (λ (b : Bool). settled_in s (if b then [] else made ∷ []) y ≡ s.zero) [
      | true ↦ refl
      | false ↦ cond-false (same_place x y) (settled_of s made) s.zero (other_place x y differs)
    ]
    lowered_settled_other (e ∷ es) = elim (cases_Bool (same_place e.place x)) [
      | inl is ↦ ap (λ ds. settled_in s ds y) (here_list e es is)
          ∙ cond-false (same_place (lowered_entry s w e).place y) (settled_of s (lowered_entry s w e)) (settled_in s es y) (ap (λ z. same_place z y) (entry_place e) ∙ elsewhere e is)
          ∙ sym (cond-false (same_place e.place y) (settled_of s e) (settled_in s es y) (elsewhere e is))
      | inr other ↦ ap (λ ds. settled_in s ds y) (later_list e es other) ∙ ap (λ v. if same_place e.place y then settled_of s e else v) (lowered_settled_other es)
    ]

  pub lowered_places : (es : List (TableEntry W)) → KeepPlaces es (lowered_in s x w es)
  lowered_places [] k e there = cc
  lowered_places (d ∷ es) k e there = elim (cases_Bool (same_place d.place x)) [
    | inl is ↦ elim k as (λ i. slice_get (d ∷ es) i ≡ Some e → (e' : TableEntry W) × (slice_get (lowered_in s x w (d ∷ es)) i ≡ Some e') × (e'.place ≡ e.place)) [
      | zero ↦ λ at. (lowered_entry s w d, ap (λ ds. slice_get ds 0) (here_list d es is), entry_place d ∙ ap (λ (f : TableEntry W). f.place) (same_Some d e at))
      | suc i ↦ λ at. (e, ap (λ ds. slice_get ds (suc i)) (here_list d es is) ∙ at, refl)
    ] there
    | inr other ↦ elim k as (λ i. slice_get (d ∷ es) i ≡ Some e → (e' : TableEntry W) × (slice_get (lowered_in s x w (d ∷ es)) i ≡ Some e') × (e'.place ≡ e.place)) [
      | zero ↦ λ at. (d, ap (λ ds. slice_get ds 0) (later_list d es other), ap (λ (f : TableEntry W). f.place) (same_Some d e at))
      | suc i ↦ λ at. let rest = lowered_places es i e at in (rest.0, ap (λ ds. slice_get ds (suc i)) (later_list d es other) ∙ rest.1, rest.2)
    ] there
  ]
