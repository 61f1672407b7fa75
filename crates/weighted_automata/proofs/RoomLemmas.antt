-- Lists of places, and what waits.
use Rattle.std.proofs.Common.{zero, suc, ◌≡◌, ℕ, ◌+◌, ◌<◌, ◌≤◌, true, false, List, [], ◌∷◌, ◌++◌, length, get_or, take, drop, map, refl, sym, ap, ◌∙◌, arith}
use Rattle.std.specs.Prelude.{Option, None, Some, cond, option_map, ◌||◌, ◌⊎◌, is_some, IsSome, OnSome, Result, Ok, Err, OnErr}
use Rattle.std.proofs.Common.{inl, inr}
use Rattle.std.proofs.lemmas.Bool.{cond-true, cond-false, cond_both, cases_Bool, or_left, or_right, or_cases}
use Rattle.std.proofs.lemmas.Option.{same_Some}
use Rattle.std.proofs.lemmas.List.{append_assoc, append_cancel_left, take_more}
use Rattle.std.proofs.Math.Seq.{take-append_seam}
use Rattle.weighted_automata.specs.declared.place.Place.{Place}
use Rattle.weighted_automata.specs.declared.transitions.Entry.{Entry}
use Rattle.weighted_automata.specs.Places.{same_place, has_place}
use Rattle.weighted_automata.specs.Entries.{index_where, lowered, places_of, entry_at}
use Rattle.weighted_automata.specs.private.Room.{without}
use Rattle.weighted_automata.proofs.PlaceLemmas.{same_place_is, same_place_itself}

-- a place that is found is there, and the list without it is what is left
pub found_place : (x : Place) (ys : List Place) (k : ℕ) → index_where (λ y. same_place y x) ys ≡ Some k → has_place x ys ≡ true
found_place x [] k e = cc
found_place x (y ∷ ys) k e = elim (same_place y x) as (λ b. cond b (Some 0) (option_map (λ i. i + 1) (index_where (λ z. same_place z x) ys)) ≡ Some k → (b || has_place x ys) ≡ true) [
  | true ↦ λ h. refl
  | false ↦ λ h. elim (index_where (λ z. same_place z x) ys) as (λ i. index_where (λ z. same_place z x) ys ≡ i → option_map (λ j. j + 1) i ≡ Some k → has_place x ys ≡ true) [
    | None ↦ λ was f. cc
    | Some j ↦ λ was f. found_place x ys j was
  ] refl h
] e

pub missed_place : (x : Place) (ys : List Place) → index_where (λ y. same_place y x) ys ≡ None → (has_place x ys ≡ false) × (without x ys ≡ ys)
missed_place x [] e = (refl, refl)
missed_place x (y ∷ ys) e = elim (same_place y x) as (λ b. cond b (Some 0) (option_map (λ i. i + 1) (index_where (λ z. same_place z x) ys)) ≡ None → ((b || has_place x ys) ≡ false) × (cond b ys (y ∷ without x ys) ≡ y ∷ ys)) [
  | true ↦ λ h. cc
  | false ↦ λ h. elim (index_where (λ z. same_place z x) ys) as (λ i. index_where (λ z. same_place z x) ys ≡ i → option_map (λ j. j + 1) i ≡ None → (has_place x ys ≡ false) × (y ∷ without x ys ≡ y ∷ ys)) [
    | None ↦ λ was f. let m = missed_place x ys was in (m.0, ap (λ zs. y ∷ zs) m.1)
    | Some j ↦ λ was f. cc
  ] refl h
] e

pub without_at : (x : Place) (ys : List Place) (k : ℕ) → index_where (λ y. same_place y x) ys ≡ Some k → take k ys ++ drop (suc k) ys ≡ without x ys
without_at x [] k e = cc
without_at x (y ∷ ys) k e = elim (same_place y x) as (λ b. cond b (Some 0) (option_map (λ i. i + 1) (index_where (λ z. same_place z x) ys)) ≡ Some k → take k (y ∷ ys) ++ drop (suc k) (y ∷ ys) ≡ cond b ys (y ∷ without x ys)) [
  | true ↦ λ h. ap (λ i. take i (y ∷ ys) ++ drop (suc i) (y ∷ ys)) (sym (same_Some 0 k h))
  | false ↦ λ h. elim (index_where (λ z. same_place z x) ys) as (λ i. index_where (λ z. same_place z x) ys ≡ i → option_map (λ j. j + 1) i ≡ Some k → take k (y ∷ ys) ++ drop (suc k) (y ∷ ys) ≡ y ∷ without x ys) [
    | None ↦ λ was f. cc
    | Some j ↦ λ was f.
        let next : suc j ≡ k = let g : j + 1 ≡ k = same_Some (j + 1) k f in omega arith in
        ap (λ i. take i (y ∷ ys) ++ drop (suc i) (y ∷ ys)) (sym next) ∙ ap (λ zs. y ∷ zs) (without_at x ys j was)
  ] refl h
] e

pub found_index : (x : Place) (ys : List Place) (k : ℕ) → index_where (λ y. same_place y x) ys ≡ Some k → k < length ys
found_index x [] k e = cc
found_index x (y ∷ ys) k e = elim (same_place y x) as (λ b. cond b (Some 0) (option_map (λ i. i + 1) (index_where (λ z. same_place z x) ys)) ≡ Some k → k < length (y ∷ ys)) [
  | true ↦ λ h. let g : 0 ≡ k = same_Some 0 k h in omega arith
  | false ↦ λ h. elim (index_where (λ z. same_place z x) ys) as (λ i. index_where (λ z. same_place z x) ys ≡ i → option_map (λ j. j + 1) i ≡ Some k → k < length (y ∷ ys)) [
    | None ↦ λ was f. cc
    | Some j ↦ λ was f. let g : j + 1 ≡ k = same_Some (j + 1) k f in omega (arith, found_index x ys j was)
  ] refl h
] e

-- one place fewer waits
pub length-without : (x : Place) (ys : List Place) → has_place x ys ≡ true → length (without x ys) + 1 ≡ length ys
length-without x [] e = cc
length-without x (y ∷ ys) e = elim (same_place y x) as (λ b. (b || has_place x ys) ≡ true → length (cond b ys (y ∷ without x ys)) + 1 ≡ length (y ∷ ys)) [
  | true ↦ λ h. omega arith
  | false ↦ λ h. omega (arith, length-without x ys h)
] e

pub has_place-append : (z : Place) (xs ys : List Place) → has_place z (xs ++ ys) ≡ (has_place z xs || has_place z ys)
has_place-append z [] ys = refl
has_place-append z (x ∷ xs) ys = elim (same_place x z) as (λ b. (b || has_place z (xs ++ ys)) ≡ ((b || has_place z xs) || has_place z ys)) [
  | true ↦ refl
  | false ↦ has_place-append z xs ys
]

-- each other place still waits
pub still_waits : (x z : Place) (ys : List Place) → has_place z ys ≡ true → (x ≡ z) ⊎ (has_place z (without x ys) ≡ true)
still_waits x z [] e = cc
still_waits x z (y ∷ ys) e = elim (cases_Bool (same_place y x)) [
  | inl is ↦ elim (or_cases (same_place y z) (has_place z ys) e) [
    | inl here ↦ inl (sym (same_place_is y x is) ∙ same_place_is y z here)
    | inr there ↦ inr (ap (has_place z) (cond-true (same_place y x) ys (y ∷ without x ys) is) ∙ there)
  ]
  | inr differs ↦
      let left : without x (y ∷ ys) ≡ y ∷ without x ys = cond-false (same_place y x) ys (y ∷ without x ys) differs in
      elim (or_cases (same_place y z) (has_place z ys) e) [
        | inl here ↦ inr (ap (has_place z) left ∙ or_left (same_place y z) (has_place z (without x ys)) here)
        | inr there ↦ elim (still_waits x z ys there) [
          | inl same ↦ inl same
          | inr more ↦ inr (ap (has_place z) left ∙ or_right (same_place y z) (has_place z (without x ys)) more)
        ]
      ]
]

module _ {S W Map : Type 0} (x : Place) (w : W) (n : ℕ) where
  -- a lowered place is there, and each other that was
  pub lowered_has : (ts : List (Entry S W Map)) → has_place x (places_of (lowered x w n ts)) ≡ true
  lowered_has [] = or_left (same_place x x) false (same_place_itself x)
  lowered_has (t ∷ ts) =
      cond_both (same_place t.place x) (record { place = x; weight = w; node = n } ∷ ts) (t ∷ lowered x w n ts) (λ us. has_place x (places_of us) ≡ true)
      (λ e. or_left (same_place x x) (has_place x (places_of ts)) (same_place_itself x))
      (λ e. or_right (same_place t.place x) (has_place x (places_of (lowered x w n ts))) (lowered_has ts))

  pub lowered_keeps : (z : Place) (ts : List (Entry S W Map)) → has_place z (places_of ts) ≡ true → has_place z (places_of (lowered x w n ts)) ≡ true
  lowered_keeps z [] e = cc
  lowered_keeps z (t ∷ ts) e =
      cond_both (same_place t.place x) (record { place = x; weight = w; node = n } ∷ ts) (t ∷ lowered x w n ts) (λ us. has_place z (places_of us) ≡ true)
      (λ is. ap (λ p. same_place p z || has_place z (places_of ts)) (sym (same_place_is t.place x is)) ∙ e)
      (λ differs. elim (or_cases (same_place t.place z) (has_place z (places_of ts)) e) [
        | inl here ↦ or_left (same_place t.place z) (has_place z (places_of (lowered x w n ts))) here
        | inr there ↦ or_right (same_place t.place z) (has_place z (places_of (lowered x w n ts))) (lowered_keeps z ts there)
      ])

  -- room stays: where the place waited no longer, it is there now
  pub room_kept : (z : Place) (ts : List (Entry S W Map)) (waiting : List Place) → has_place z (places_of ts ++ waiting) ≡ true
      → has_place z (places_of (lowered x w n ts) ++ without x waiting) ≡ true
  room_kept z ts waiting e = has_place-append z (places_of (lowered x w n ts)) (without x waiting)
      ∙ elim (or_cases (has_place z (places_of ts)) (has_place z waiting) (sym (has_place-append z (places_of ts) waiting) ∙ e)) [
        | inl there ↦ or_left (has_place z (places_of (lowered x w n ts))) (has_place z (without x waiting)) (lowered_keeps z ts there)
        | inr waits ↦ elim (still_waits x z waiting waits) [
          | inl is ↦ or_left (has_place z (places_of (lowered x w n ts))) (has_place z (without x waiting)) (ap (λ p. has_place p (places_of (lowered x w n ts))) (sym is) ∙ lowered_has ts)
          | inr still ↦ or_right (has_place z (places_of (lowered x w n ts))) (has_place z (without x waiting)) still
        ]
      ]

  pub room_stays : (z : Place) (ts : List (Entry S W Map)) (waiting : List Place) → has_place z (places_of ts ++ waiting) ≡ true
      → has_place z (places_of (lowered x w n ts) ++ waiting) ≡ true
  room_stays z ts waiting e = has_place-append z (places_of (lowered x w n ts)) waiting
      ∙ elim (or_cases (has_place z (places_of ts)) (has_place z waiting) (sym (has_place-append z (places_of ts) waiting) ∙ e)) [
        | inl there ↦ or_left (has_place z (places_of (lowered x w n ts))) (has_place z waiting) (lowered_keeps z ts there)
        | inr waits ↦ or_right (has_place z (places_of (lowered x w n ts))) (has_place z waiting) waits
      ]

  -- and no other place has room
  pub lowered_only : (z : Place) (ts : List (Entry S W Map)) → has_place z (places_of (lowered x w n ts)) ≡ true → has_place z (x ∷ places_of ts) ≡ true
  lowered_only z [] = λ e. e
  lowered_only z (t ∷ ts) =
      cond_both (same_place t.place x) (record { place = x; weight = w; node = n } ∷ ts) (t ∷ lowered x w n ts) (λ us. has_place z (places_of us) ≡ true → has_place z (x ∷ places_of (t ∷ ts)) ≡ true)
      (λ is e. elim (or_cases (same_place x z) (has_place z (places_of ts)) e) [
        | inl here ↦ or_left (same_place x z) (has_place z (places_of (t ∷ ts))) here
        | inr there ↦ or_right (same_place x z) (has_place z (places_of (t ∷ ts))) (or_right (same_place t.place z) (has_place z (places_of ts)) there)
      ])
      (λ differs e. elim (or_cases (same_place t.place z) (has_place z (places_of (lowered x w n ts))) e) [
        | inl here ↦ or_right (same_place x z) (has_place z (places_of (t ∷ ts))) (or_left (same_place t.place z) (has_place z (places_of ts)) here)
        | inr there ↦ elim (or_cases (same_place x z) (has_place z (places_of ts)) (lowered_only z ts there)) [
          | inl is ↦ or_left (same_place x z) (has_place z (places_of (t ∷ ts))) is
          | inr before ↦ or_right (same_place x z) (has_place z (places_of (t ∷ ts))) (or_right (same_place t.place z) (has_place z (places_of ts)) before)
        ]
      ])

  pub room_only : (z : Place) (ts : List (Entry S W Map)) (waiting left : List Place) → (has_place z left ≡ true → has_place z waiting ≡ true)
      → has_place z (places_of (lowered x w n ts) ++ left) ≡ true → has_place z (x ∷ (places_of ts ++ waiting)) ≡ true
  room_only z ts waiting left waited e =
      let all : has_place z (places_of ts ++ waiting) ≡ (has_place z (places_of ts) || has_place z waiting) = has_place-append z (places_of ts) waiting in
      elim (or_cases (has_place z (places_of (lowered x w n ts))) (has_place z left) (sym (has_place-append z (places_of (lowered x w n ts)) left) ∙ e)) [
        | inl there ↦ elim (or_cases (same_place x z) (has_place z (places_of ts)) (lowered_only z ts there)) [
          | inl is ↦ or_left (same_place x z) (has_place z (places_of ts ++ waiting)) is
          | inr before ↦ or_right (same_place x z) (has_place z (places_of ts ++ waiting)) (all ∙ or_left (has_place z (places_of ts)) (has_place z waiting) before)
        ]
        | inr waits ↦ or_right (same_place x z) (has_place z (places_of ts ++ waiting)) (all ∙ or_right (has_place z (places_of ts)) (has_place z waiting) (waited waits))
      ]

pub without_only : (x z : Place) (ys : List Place) → has_place z (without x ys) ≡ true → has_place z ys ≡ true
without_only x z [] = λ e. e
without_only x z (y ∷ ys) =
    cond_both (same_place y x) ys (y ∷ without x ys) (λ zs. has_place z zs ≡ true → has_place z (y ∷ ys) ≡ true)
    (λ _ e. or_right (same_place y z) (has_place z ys) e)
    (λ _ e. elim (or_cases (same_place y z) (has_place z (without x ys)) e) [
      | inl here ↦ or_left (same_place y z) (has_place z ys) here
      | inr there ↦ or_right (same_place y z) (has_place z ys) (without_only x z ys there)
    ])

-- the place at an index is one of the list
has_place-at : (z : Place) (xs : List Place) (i : ℕ) (d : Place) → i < length xs → same_place (get_or xs i d) z ≡ true → has_place z xs ≡ true
has_place-at z [] i d within e = absurd (omega arith)
has_place-at z (x ∷ xs) zero d within e = or_left (same_place x z) (has_place z xs) e
has_place-at z (x ∷ xs) (suc i) d within e = or_right (same_place x z) (has_place z xs) (has_place-at z xs i d (omega arith) e)

-- what has room once the place at an index has it: one of the list, or what had room
pub made_only : (z : Place) (xs now before : List Place) (i : ℕ) (d : Place) → i < length xs → (has_place z now ≡ true → has_place z (xs ++ before) ≡ true)
    → has_place z (get_or xs i d ∷ now) ≡ true → has_place z (xs ++ before) ≡ true
made_only z xs now before i d within so e = elim (or_cases (same_place (get_or xs i d) z) (has_place z now) e) [
  | inl here ↦ has_place-append z xs before ∙ or_left (has_place z xs) (has_place z before) (has_place-at z xs i d within here)
  | inr there ↦ so there
]

-- what is there has room, and what waits
pub found_has : {S W Map : Type 0} (x : Place) (ts : List (Entry S W Map)) (k : ℕ) → index_where (λ (t : Entry S W Map). same_place t.place x) ts ≡ Some k → has_place x (places_of ts) ≡ true
found_has x [] k e = cc
found_has x (t ∷ ts) k e = elim (same_place t.place x) as (λ b. cond b (Some 0) (option_map (λ i. i + 1) (index_where (λ u. same_place u.place x) ts)) ≡ Some k → (b || has_place x (places_of ts)) ≡ true) [
  | true ↦ λ h. refl
  | false ↦ λ h. elim (index_where (λ u. same_place u.place x) ts) as (λ i. index_where (λ u. same_place u.place x) ts ≡ i → option_map (λ j. j + 1) i ≡ Some k → has_place x (places_of ts) ≡ true) [
    | None ↦ λ was f. cc
    | Some j ↦ λ was f. found_has x ts j was
  ] refl h
] e

pub missed_has : {S W Map : Type 0} (x : Place) (ts : List (Entry S W Map)) → index_where (λ (t : Entry S W Map). same_place t.place x) ts ≡ None
    → (has_place x (places_of ts) ≡ false) × (entry_at x ts ≡ None)
missed_has x [] e = (refl, refl)
missed_has x (t ∷ ts) e = elim (same_place t.place x) as (λ b. cond b (Some 0) (option_map (λ i. i + 1) (index_where (λ u. same_place u.place x) ts)) ≡ None
    → ((b || has_place x (places_of ts)) ≡ false) × (cond b (Some t) (entry_at x ts) ≡ None)) [
      | true ↦ λ h. cc
      | false ↦ λ h. elim (index_where (λ u. same_place u.place x) ts) as (λ i. index_where (λ u. same_place u.place x) ts ≡ i → option_map (λ j. j + 1) i ≡ None → (has_place x (places_of ts) ≡ false) × (entry_at x ts ≡ None)) [
        | None ↦ λ was f. missed_has x ts was
        | Some j ↦ λ was f. cc
      ] refl h
    ] e

-- one place more waits
module _ (places waiting : List Place) (x : Place) where
  one_more : (z : Place) → has_place z (places ++ (waiting ++ x ∷ [])) ≡ (has_place z (places ++ waiting) || (same_place x z || false))
  one_more z = ap (has_place z) (sym (append_assoc places waiting (x ∷ []))) ∙ has_place-append z (places ++ waiting) (x ∷ [])

  pub room_named : has_place x (places ++ (waiting ++ x ∷ [])) ≡ true
  room_named = one_more x ∙ or_right (has_place x (places ++ waiting)) (same_place x x || false) (or_left (same_place x x) false (same_place_itself x))

  pub room_more : (z : Place) → has_place z (places ++ waiting) ≡ true → has_place z (places ++ (waiting ++ x ∷ [])) ≡ true
  room_more z e = one_more z ∙ or_left (has_place z (places ++ waiting)) (same_place x z || false) e

  pub room_no_more : (z : Place) → has_place z (places ++ (waiting ++ x ∷ [])) ≡ true → has_place z (x ∷ (places ++ waiting)) ≡ true
  room_no_more z e = elim (or_cases (has_place z (places ++ waiting)) (same_place x z || false) (sym (one_more z) ∙ e)) [
    | inl before ↦ or_right (same_place x z) (has_place z (places ++ waiting)) before
    | inr here ↦ elim (or_cases (same_place x z) false here) [
      | inl is ↦ or_left (same_place x z) (has_place z (places ++ waiting)) is
      | inr f ↦ cc
    ]
  ]

-- the first places of a list, and one more
pub has_place-take_more : (z : Place) (xs : List Place) (i : ℕ) (d : Place) → i < length xs
    → has_place z (take (i + 1) xs) ≡ true → (has_place z (take i xs) ≡ true) ⊎ (get_or xs i d ≡ z)
has_place-take_more z xs i d within e =
    let split : has_place z (take (i + 1) xs) ≡ (has_place z (take i xs) || (same_place (get_or xs i d) z || false)) =
    ap (has_place z) (take_more xs i d within) ∙ has_place-append z (take i xs) (get_or xs i d ∷ []) in
    elim (or_cases (has_place z (take i xs)) (same_place (get_or xs i d) z || false) (sym split ∙ e)) [
      | inl before ↦ inl before
      | inr here ↦ elim (or_cases (same_place (get_or xs i d) z) false here) [
        | inl is ↦ inr (same_place_is (get_or xs i d) z is)
        | inr f ↦ cc
      ]
    ]

pub on_some : {T P : Type 0} (o : Option T) → IsSome o → OnSome o P → P
on_some None there h = cc
on_some (Some x) there h = h

-- what holds at any answer holds at a refusal
pub at_refusal : {T E P : Type 0} (r : Result T E) → P → OnErr r P
at_refusal (Ok x) p = tt
at_refusal (Err e) p = p

pub without_none : (x : Place) (ys : List Place) → has_place x ys ≡ false → without x ys ≡ ys
without_none x [] e = refl
without_none x (y ∷ ys) e = elim (same_place y x) as (λ b. (b || has_place x ys) ≡ false → cond b ys (y ∷ without x ys) ≡ y ∷ ys) [
  | true ↦ λ h. cc
  | false ↦ λ h. ap (λ zs. y ∷ zs) (without_none x ys h)
] e

-- what has room and is not there waits
pub waits_beside : (x : Place) (places waiting : List Place) → has_place x places ≡ false → has_place x (places ++ waiting) ≡ true → has_place x waiting ≡ true
waits_beside x places waiting e h = sym (ap (λ b. b || has_place x waiting) e) ∙ sym (has_place-append x places waiting) ∙ h

pub length-without_le : (x : Place) (ys : List Place) → length (without x ys) ≤ length ys
length-without_le x [] = omega arith
length-without_le x (y ∷ ys) = cond_both (same_place y x) ys (y ∷ without x ys) (λ zs. length zs ≤ length (y ∷ ys)) (λ _. omega arith) (λ _. omega (arith, length-without_le x ys))

some_more : (o : Option ℕ) → is_some (option_map (λ k. k + 1) o) ≡ is_some o
some_more None = refl
some_more (Some k) = refl

some_index : {X : Type 0} (at : X → Place) (x : Place) (ts : List X) → is_some (index_where (λ t. same_place (at t) x) ts) ≡ has_place x (map at ts)
some_index at x [] = refl
some_index at x (t ∷ ts) = elim (same_place (at t) x) as (λ b. is_some (cond b (Some 0) (option_map (λ k. k + 1) (index_where (λ u. same_place (at u) x) ts))) ≡ (b || has_place x (map at ts))) [
  | true ↦ refl
  | false ↦ some_more (index_where (λ u. same_place (at u) x) ts) ∙ some_index at x ts
]

pub some_waiting : (x : Place) (ys : List Place) → is_some (index_where (λ y. same_place y x) ys) ≡ has_place x ys
some_waiting x [] = refl
some_waiting x (y ∷ ys) = elim (same_place y x) as (λ b. is_some (cond b (Some 0) (option_map (λ k. k + 1) (index_where (λ u. same_place u x) ys))) ≡ (b || has_place x ys)) [
  | true ↦ refl
  | false ↦ some_more (index_where (λ u. same_place u x) ys) ∙ some_waiting x ys
]

-- a place has room where it is there, and else where it waits
module _ {S W Map : Type 0} (x : Place) (ts : List (Entry S W Map)) (waiting : List Place) where
  pub room_if_found : is_some (index_where (λ (t : Entry S W Map). same_place t.place x) ts) ≡ true → has_place x (places_of ts ++ waiting) ≡ true
  room_if_found e = has_place-append x (places_of ts) waiting
      ∙ or_left (has_place x (places_of ts)) (has_place x waiting) (sym (some_index (λ (t : Entry S W Map). t.place) x ts) ∙ e)

  pub room_if_missed : is_some (index_where (λ (t : Entry S W Map). same_place t.place x) ts) ≡ false → has_place x (places_of ts ++ waiting) ≡ is_some (index_where (λ y. same_place y x) waiting)
  room_if_missed e = has_place-append x (places_of ts) waiting
      ∙ ap (λ b. b || has_place x waiting) (sym (some_index (λ (t : Entry S W Map). t.place) x ts) ∙ e) ∙ sym (some_waiting x waiting)

-- places added behind places added
pub then_more : (xs ys zs : List Place) → (more : List Place) × (ys ≡ xs ++ more) → (more : List Place) × (zs ≡ ys ++ more) → (more : List Place) × (zs ≡ xs ++ more)
then_more xs ys zs first second = (first.0 ++ second.0, second.1 ∙ ap (λ l. l ++ second.0) first.1 ∙ append_assoc xs first.0 second.0)

-- what waited before is what waits at first
pub waited_before : (places waiting before : List Place) → (more : List Place) × (places ++ waiting ≡ (places ++ before) ++ more) → take (length before) waiting ≡ before
waited_before places waiting before added =
    let same : waiting ≡ before ++ added.0 = append_cancel_left places waiting (before ++ added.0) (added.1 ∙ append_assoc places before added.0) in
    ap (take (length before)) same ∙ take-append_seam before added.0
