-- What a member that goes last does to the rows.
use Rattle.std.proofs.Common.{zero, suc, ◌≡◌, ℕ, ◌+◌, ◌-◌, ◌<◌, Bool, true, false, List, [], ◌∷◌, ◌++◌, length, set, refl, sym, ap, ◌∙◌, inl, inr, arith}
use Rattle.std.specs.Prelude.{Option, drop, slice_get, None, Some, cond, option_map, nat_eq, nat_lt}
use Rattle.std.specs.Cmp.{IsEquivalence}
use Rattle.std.specs.Option.{SomeIff}
use Rattle.std.proofs.lemmas.Bool.{cond-true, cond-false, cases_Bool, false_from_ne_true, eqb-true, lt-ltb}
use Rattle.std.proofs.lemmas.Option.{same_Some}
use Rattle.std.proofs.Math.Dec.{eqb-suc-zero}
use Rattle.key_rows.specs.declared.rows.Ends.{Ends}
use Rattle.key_rows.specs.Rows.{index_where, index_from, last_where, has_key, gap, gaps_of, ends_of, gap_to, next_by, next_alike}

module _ {X : Type 0} (p : X → Bool) (y : X) where
  pub index_where-push : (xs : List X) → index_where p (xs ++ y ∷ []) ≡ elim (index_where p xs) [ Some i ↦ Some i | None ↦ cond (p y) (Some (length xs)) None ]
  index_where-push [] = refl
  index_where-push (x ∷ xs) =
      elim (p x) as (λ b. cond b (Some 0) (option_map (λ k. k + 1) (index_where p (xs ++ y ∷ []))) ≡ elim (cond b (Some 0) (option_map (λ k. k + 1) (index_where p xs))) [ Some i ↦ Some i | None ↦ cond (p y) (Some (suc (length xs))) None ]) [
        | true ↦ refl
        | false ↦ ap (option_map (λ k. k + 1)) (index_where-push xs)
            ∙ elim (index_where p xs) as (λ o. option_map (λ k. k + 1) (elim o [ Some i ↦ Some i | None ↦ cond (p y) (Some (length xs)) None ]) ≡ elim (option_map (λ k. k + 1) o) [ Some i ↦ Some i | None ↦ cond (p y) (Some (suc (length xs))) None ]) [
              | Some i ↦ refl
              | None ↦ elim (p y) as (λ b. option_map (λ k. k + 1) (cond b (Some (length xs)) None) ≡ cond b (Some (suc (length xs))) None) [
                | true ↦ ap Some (omega arith)
                | false ↦ refl
              ]
            ]
      ]

  pub last_where-push : (xs : List X) → last_where p (xs ++ y ∷ []) ≡ cond (p y) (Some (length xs)) (last_where p xs)
  last_where-push [] = refl
  last_where-push (x ∷ xs) =
      ap (λ o. elim o [ Some k ↦ Some (suc k) | None ↦ cond (p x) (Some 0) None ]) (last_where-push xs)
      ∙ elim (p y) as (λ b. elim (cond b (Some (length xs)) (last_where p xs)) [ Some k ↦ Some (suc k) | None ↦ cond (p x) (Some 0) None ] ≡ cond b (Some (suc (length xs))) (elim (last_where p xs) [ Some k ↦ Some (suc k) | None ↦ cond (p x) (Some 0) None ])) [
        | true ↦ refl
        | false ↦ refl
      ]

module _ {X : Type 0} (p : X → Bool) where
  -- a list has a first that passes exactly where it has a last
  pub last_if_first : (xs : List X) (i : ℕ) → index_where p xs ≡ Some i → (k : ℕ) × (last_where p xs ≡ Some k)
  last_if_first [] i e = cc
  last_if_first (x ∷ xs) i e = elim (last_where p xs) as (λ o. last_where p xs ≡ o → (k : ℕ) × (elim o [ Some j ↦ Some (suc j) | None ↦ cond (p x) (Some 0) None ] ≡ Some k)) [
    | Some j ↦ λ was. (suc j, refl)
    | None ↦ λ was. elim (cases_Bool (p x)) [
      | inl here ↦ (0, cond-true (p x) (Some 0) None here)
      | inr other ↦ elim (index_where p xs) as (λ r. index_where p xs ≡ r → option_map (λ k. k + 1) r ≡ Some i → (k : ℕ) × (cond (p x) (Some 0) None ≡ Some k)) [
        | None ↦ λ at f. cc
        | Some j ↦ λ at f. let both = last_if_first xs j at in let g : None ≡ Some both.0 = sym was ∙ both.1 in cc
      ] refl (sym (cond-false (p x) (Some 0) (option_map (λ k. k + 1) (index_where p xs)) other) ∙ e)
    ]
  ] refl

  pub none_if_no_last : (xs : List X) → last_where p xs ≡ None → index_where p xs ≡ None
  none_if_no_last xs e = elim (index_where p xs) as (λ o. index_where p xs ≡ o → o ≡ None) [
    | None ↦ λ was. refl
    | Some i ↦ λ was. let both = last_if_first xs i was in let f : None ≡ Some both.0 = sym e ∙ both.1 in cc
  ] refl

  pub first_if_last : (xs : List X) (k : ℕ) → last_where p xs ≡ Some k → (i : ℕ) × (index_where p xs ≡ Some i)
  first_if_last [] k e = cc
  first_if_last (x ∷ xs) k e = elim (p x) as (λ b. (elim (last_where p xs) [ Some j ↦ Some (suc j) | None ↦ cond b (Some 0) None ] ≡ Some k) → (i : ℕ) × (cond b (Some 0) (option_map (λ j. j + 1) (index_where p xs)) ≡ Some i)) [
    | true ↦ λ f. (0, refl)
    | false ↦ λ f. elim (last_where p xs) as (λ o. last_where p xs ≡ o → (elim o [ Some j ↦ Some (suc j) | None ↦ None ] ≡ Some k) → (i : ℕ) × (option_map (λ j. j + 1) (index_where p xs) ≡ Some i)) [
      | None ↦ λ was g. cc
      | Some j ↦ λ was g. let both = first_if_last xs j was in (both.0 + 1, ap (option_map (λ n. n + 1)) both.1)
    ] refl f
  ] e

  pub last_within : (xs : List X) (k : ℕ) → last_where p xs ≡ Some k → k < length xs
  last_within [] k e = cc
  last_within (x ∷ xs) k e = elim (last_where p xs) as (λ o. last_where p xs ≡ o → (elim o [ Some j ↦ Some (suc j) | None ↦ cond (p x) (Some 0) None ] ≡ Some k) → k < length (x ∷ xs)) [
    | Some j ↦ λ was g. let is : suc j ≡ k = same_Some (suc j) k g in omega (arith, last_within xs j was)
    | None ↦ λ was g. elim (p x) as (λ b. cond b (Some 0) None ≡ Some k → k < length (x ∷ xs)) [
      | true ↦ λ f. let is : 0 ≡ k = same_Some 0 k f in omega arith
      | false ↦ λ f. cc
    ] g
  ] refl e

abbrev gap_by : Option ℕ → ℕ
gap_by o = elim o [ None ↦ 0 | Some i ↦ suc i ]

abbrev with_gap : Option ℕ → ℕ → List ℕ → List ℕ
with_gap o n gs = elim o [ None ↦ gs | Some k ↦ set gs k (n - k) ]

abbrev ends_by : Option ℕ → Option ℕ → Option Ends
ends_by o l = elim o [ None ↦ None | Some i ↦ elim l [ None ↦ None | Some k ↦ Some (record { first = i; last = k }) ] ]

abbrev pub first_of : Option Ends → ℕ → ℕ
first_of o n = elim o [ None ↦ n | Some e ↦ e.first ]

abbrev found_with : Option ℕ → Bool → ℕ → Option ℕ
found_with o b n = elim o [ Some i ↦ Some i | None ↦ cond b (Some n) None ]

module _ {K : Type 0} (same : K → K → Bool) (laws : IsEquivalence same) where
  -- equal keys have the same rows
  one_row : (s t : K) → same s t ≡ true → (o : Option K) → has_key same s o ≡ has_key same t o
  one_row s t e None = refl
  one_row s t e (Some z) = laws.congr s t z e

  one_test : (s t : K) → same s t ≡ true → has_key same s ≡ has_key same t
  one_test s t e = λ j o. one_row s t e o j

  module _ (q : K) where
    gap_stays : (o : Option K) (ks : List (Option K)) → ((s : K) → o ≡ Some s → same s q ≡ false) → gap same o (ks ++ Some q ∷ []) ≡ gap same o ks
    gap_stays None ks e = refl
    gap_stays (Some s) ks e = ap gap_by (index_where-push (has_key same s) (Some q) ks)
        ∙ elim (index_where (has_key same s) ks) as (λ o. gap_by (found_with o (same s q) (length ks)) ≡ gap_by o) [
          | Some i ↦ refl
          | None ↦ ap (λ b. gap_by (cond b (Some (length ks)) None)) (e s refl)
        ]

    gap_found : (s : K) (ks : List (Option K)) (i : ℕ) → index_where (has_key same s) ks ≡ Some i → gap same (Some s) (ks ++ Some q ∷ []) ≡ gap same (Some s) ks
    gap_found s ks i e = ap gap_by (index_where-push (has_key same s) (Some q) ks ∙ ap (λ o. found_with o (same s q) (length ks)) e) ∙ sym (ap gap_by e)

    gap_new : (s : K) (ks : List (Option K)) → index_where (has_key same s) ks ≡ None → same s q ≡ true → gap same (Some s) (ks ++ Some q ∷ []) ≡ suc (length ks)
    gap_new s ks e h = ap gap_by (index_where-push (has_key same s) (Some q) ks ∙ ap (λ o. found_with o (same s q) (length ks)) e ∙ ap (λ b. cond b (Some (length ks)) None) h)

    -- where the row of q ends, the members before have the gaps that they had
    gap_kept : (o : Option K) (ks : List (Option K)) (k : ℕ) → last_where (has_key same q) ks ≡ Some k → gap same o (ks ++ Some q ∷ []) ≡ gap same o ks
    gap_kept None ks k was = refl
    gap_kept (Some s) ks k was = elim (cases_Bool (same s q)) [
      | inl is ↦
          let both = first_if_last (has_key same q) ks k was in
          gap_found s ks both.0 (ap (λ f. index_where f ks) (one_test s q is) ∙ both.1)
      | inr other ↦ gap_stays (Some s) ks (λ z e. ap (λ x. same x q) (sym (same_Some s z e)) ∙ other)
    ]

    -- and where it is empty, only one with its key has another
    gap_first : (s : K) (ks : List (Option K)) → last_where (has_key same q) ks ≡ None → same q s ≡ true → gap same (Some s) (ks ++ Some q ∷ []) ≡ suc (length ks)
    gap_first s ks was here =
        let back : same s q ≡ true = laws.symm s q ∙ here in
        gap_new s ks (ap (λ f. index_where f ks) (one_test s q back) ∙ none_if_no_last (has_key same q) ks was) back

    gap_other : (o : Option K) (ks : List (Option K)) → has_key same q o ≡ false → gap same o (ks ++ Some q ∷ []) ≡ gap same o ks
    gap_other None ks other = refl
    gap_other (Some s) ks other = gap_stays (Some s) ks (λ z e. ap (λ x. same x q) (sym (same_Some s z e)) ∙ laws.symm s q ∙ other)

    pub gaps_push : (ks : List (Option K)) → gaps_of same (ks ++ Some q ∷ []) ≡ with_gap (last_where (has_key same q) ks) (length ks) (gaps_of same ks) ++ 0 ∷ []
    gaps_push [] = refl
    gaps_push (p ∷ ks) =
        let n : ℕ = length ks in
        let gs : List ℕ = gaps_of same ks in
        let test : Bool = has_key same q p in
        elim (last_where (has_key same q) ks) as (λ o. last_where (has_key same q) ks ≡ o
        → gap same p (ks ++ Some q ∷ []) ∷ gaps_of same (ks ++ Some q ∷ []) ≡ with_gap (elim o [ Some k ↦ Some (suc k) | None ↦ cond test (Some 0) None ]) (suc n) (gap same p ks ∷ gs) ++ 0 ∷ []) [
          | Some k ↦ λ was.
              let less : n - k ≡ suc n - suc k = omega arith in
              ap (λ g. g ∷ gaps_of same (ks ++ Some q ∷ [])) (gap_kept p ks k was)
              ∙ ap (λ xs. gap same p ks ∷ xs) (gaps_push ks ∙ ap (λ o. with_gap o n gs ++ 0 ∷ []) was)
              ∙ ap (λ m. gap same p ks ∷ (set gs k m ++ 0 ∷ [])) less
          | None ↦ λ was. elim (cases_Bool test) [
            | inl here ↦
                let whole : suc n ≡ suc n - 0 = omega arith in
                ap (λ g. g ∷ gaps_of same (ks ++ Some q ∷ [])) (gap_here p ks was here ∙ whole)
                ∙ ap (λ xs. (suc n - 0) ∷ xs) (gaps_push ks ∙ ap (λ o. with_gap o n gs ++ 0 ∷ []) was)
                ∙ ap (λ o. with_gap o (suc n) (gap same p ks ∷ gs) ++ 0 ∷ []) (sym (cond-true test (Some 0) None here))
            | inr other ↦
                ap (λ g. g ∷ gaps_of same (ks ++ Some q ∷ [])) (gap_other p ks other)
                ∙ ap (λ xs. gap same p ks ∷ xs) (gaps_push ks ∙ ap (λ o. with_gap o n gs ++ 0 ∷ []) was)
                ∙ ap (λ o. with_gap o (suc n) (gap same p ks ∷ gs) ++ 0 ∷ []) (sym (cond-false test (Some 0) None other))
          ]
        ] refl
      where
        gap_here : (o : Option K) (js : List (Option K)) → last_where (has_key same q) js ≡ None → has_key same q o ≡ true → gap same o (js ++ Some q ∷ []) ≡ suc (length js)
        gap_here None js was here = cc
        gap_here (Some s) js was here = gap_first s js was here

    pub ends_push : (s : K) (ks : List (Option K)) → ends_of same s (ks ++ Some q ∷ [])
        ≡ cond (same q s) (Some (record { first = first_of (ends_of same q ks) (length ks); last = length ks })) (ends_of same s ks)
    ends_push s ks =
        let n : ℕ = length ks in
        let new : Option Ends = Some (record { first = first_of (ends_of same q ks) n; last = n }) in
        ap (λ o. ends_by o (last_where (has_key same s) (ks ++ Some q ∷ []))) (index_where-push (has_key same s) (Some q) ks)
        ∙ ap (ends_by (found_with (index_where (has_key same s) ks) (same s q) n)) (last_where-push (has_key same s) (Some q) ks)
        ∙ elim (cases_Bool (same s q)) [
          | inl goes ↦
              ap (λ b. ends_by (found_with (index_where (has_key same s) ks) b n) (cond b (Some n) (last_where (has_key same s) ks))) goes
              ∙ (elim (index_where (has_key same s) ks) as (λ o. index_where (has_key same s) ks ≡ o → ends_by (found_with o true n) (Some n) ≡ Some (record { first = first_of (ends_by o (last_where (has_key same s) ks)) n; last = n })) [
                | None ↦ λ was. refl
                | Some i ↦ λ was.
                    let both = last_if_first (has_key same s) ks i was in
                    ap (λ l. Some (record { first = first_of (ends_by (Some i) l) n; last = n })) (sym both.1)
              ] refl)
              ∙ ap (λ f. Some (record { first = first_of (ends_by (index_where f ks) (last_where f ks)) n; last = n })) (one_test s q goes)
              ∙ sym (cond-true (same q s) new (ends_of same s ks) (laws.symm q s ∙ goes))
          | inr other ↦
              ap (λ b. ends_by (found_with (index_where (has_key same s) ks) b n) (cond b (Some n) (last_where (has_key same s) ks))) other
              ∙ elim (index_where (has_key same s) ks) as (λ o. ends_by (found_with o false n) (last_where (has_key same s) ks) ≡ ends_by o (last_where (has_key same s) ks)) [
                | None ↦ refl
                | Some i ↦ refl
              ]
              ∙ sym (cond-false (same q s) new (ends_of same s ks) (laws.symm q s ∙ other))
        ]

module _ {K : Type 0} (same : K → K → Bool) where
  pub gap_to_ends : (t : K) (ks : List (Option K)) (gs : List ℕ) → gap_to (ends_of same t ks) (length ks) gs ≡ with_gap (last_where (has_key same t) ks) (length ks) gs
  gap_to_ends t ks gs =
      elim (index_where (has_key same t) ks) as (λ o. index_where (has_key same t) ks ≡ o → gap_to (ends_by o (last_where (has_key same t) ks)) (length ks) gs ≡ with_gap (last_where (has_key same t) ks) (length ks) gs) [
        | None ↦ λ was. elim (last_where (has_key same t) ks) as (λ l. last_where (has_key same t) ks ≡ l → gs ≡ with_gap l (length ks) gs) [
          | None ↦ λ at. refl
          | Some k ↦ λ at. let both = first_if_last (has_key same t) ks k at in let f : None ≡ Some both.0 = sym was ∙ both.1 in cc
        ] refl
        | Some i ↦ λ was. elim (last_where (has_key same t) ks) as (λ l. last_where (has_key same t) ks ≡ l → gap_to (ends_by (Some i) l) (length ks) gs ≡ with_gap l (length ks) gs) [
          | None ↦ λ at. let both = last_if_first (has_key same t) ks i was in let f : None ≡ Some both.0 = sym at ∙ both.1 in cc
          | Some k ↦ λ at. cond-true (nat_lt k (length ks)) (set gs k (length ks - k)) gs (lt-ltb k (length ks) (last_within (has_key same t) ks k at))
        ] refl
      ] refl

  pub length-gaps : (ks : List (Option K)) → length (gaps_of same ks) ≡ length ks
  length-gaps [] = refl
  length-gaps (p ∷ ks) = ap suc (length-gaps ks)

  pub first_is : (s : K) (ks : List (Option K)) → option_map (λ (e : Ends). e.first) (ends_of same s ks) ≡ index_where (has_key same s) ks
  first_is s ks = elim (index_where (has_key same s) ks) as (λ o. index_where (has_key same s) ks ≡ o → option_map (λ (e : Ends). e.first) (ends_by o (last_where (has_key same s) ks)) ≡ o) [
    | None ↦ λ was. refl
    | Some i ↦ λ was. let both = last_if_first (has_key same s) ks i was in ap (λ l. option_map (λ (e : Ends). e.first) (ends_by (Some i) l)) both.1
  ] refl

  pub last_is : (s : K) (ks : List (Option K)) → option_map (λ (e : Ends). e.last) (ends_of same s ks) ≡ last_where (has_key same s) ks
  last_is s ks = elim (last_where (has_key same s) ks) as (λ o. last_where (has_key same s) ks ≡ o → option_map (λ (e : Ends). e.last) (ends_by (index_where (has_key same s) ks) o) ≡ o) [
    | None ↦ λ was. ap (λ i. option_map (λ (e : Ends). e.last) (ends_by i None)) (none_if_no_last (has_key same s) ks was)
    | Some l ↦ λ was. let both = first_if_last (has_key same s) ks l was in ap (λ i. option_map (λ (e : Ends). e.last) (ends_by i (Some l))) both.1
  ] refl

index_within : {X : Type 0} (p : X → Bool) (xs : List X) (k : ℕ) → index_where p xs ≡ Some k → k < length xs
index_within p [] k e = cc
index_within p (x ∷ xs) k e = elim (p x) as (λ b. cond b (Some 0) (option_map (λ j. j + 1) (index_where p xs)) ≡ Some k → k < length (x ∷ xs)) [
  | true ↦ λ f. let is : 0 ≡ k = same_Some 0 k f in omega arith
  | false ↦ λ f. elim (index_where p xs) as (λ o. index_where p xs ≡ o → option_map (λ j. j + 1) o ≡ Some k → k < length (x ∷ xs)) [
    | None ↦ λ was g. cc
    | Some j ↦ λ was g. let is : j + 1 ≡ k = same_Some (j + 1) k g in omega (arith, index_within p xs j was)
  ] refl f
] e

next_suc : (k g : ℕ) → next_by (suc k) g ≡ option_map suc (next_by k g)
next_suc k g = elim (nat_eq g 0) as (λ b. cond b None (Some (suc k + g)) ≡ option_map suc (cond b None (Some (k + g)))) [
  | true ↦ refl
  | false ↦ ap Some (omega arith)
]

later : {X : Type 0} (p : X → Bool) (x : X) (xs : List X) (i : ℕ) → index_from p (suc i) (x ∷ xs) ≡ option_map suc (index_from p i xs)
later p x xs i = elim (index_where p (drop i xs)) as (λ o. option_map (λ k. k + suc i) o ≡ option_map suc (option_map (λ k. k + i) o)) [
  | None ↦ refl
  | Some k ↦ ap Some (omega arith)
]

-- where the next stands, by the distance behind the k-th, if there is a k-th
abbrev pub next_at : ℕ → Option ℕ → Option ℕ
next_at k o = elim o [ None ↦ None | Some g ↦ next_by k g ]

module _ {K : Type 0} (same : K → K → Bool) where
  -- a gap leads to a member of the list
  gap_within : (ks : List (Option K)) (k g : ℕ) → slice_get (gaps_of same ks) k ≡ Some g → k + g < length ks
  gap_within [] k g e = cc
  gap_within (None ∷ ks) zero g e = let is : 0 ≡ g = same_Some 0 g e in omega arith
  gap_within (Some s ∷ ks) zero g e = elim (index_where (has_key same s) ks) as (λ o. index_where (has_key same s) ks ≡ o → Some (gap_by o) ≡ Some g → 0 + g < suc (length ks)) [
    | None ↦ λ was f. let is : 0 ≡ g = same_Some 0 g f in omega arith
    | Some i ↦ λ was f. let is : suc i ≡ g = same_Some (suc i) g f in omega (arith, index_within (has_key same s) ks i was)
  ] refl e
  gap_within (p ∷ ks) (suc k) g e = omega (arith, gap_within ks k g e)

  -- the gap behind a member leads to the next of its row
  pub next_is : (ks : List (Option K)) (k : ℕ) → next_at k (slice_get (gaps_of same ks) k) ≡ next_alike same k ks
  next_is [] k = refl
  next_is (None ∷ ks) zero = refl
  next_is (Some key ∷ ks) zero =
      elim (index_where (has_key same key) ks) as (λ o. next_by 0 (gap_by o) ≡ option_map (λ k. k + 1) o) [
        | None ↦ refl
        | Some i ↦ ap (λ b. cond b None (Some (0 + suc i))) (eqb-suc-zero i) ∙ ap Some (omega arith)
      ]
  next_is (p ∷ ks) (suc k) = at_suc k (slice_get (gaps_of same ks) k) ∙ ap (option_map suc) (next_is ks k) ∙ sym (alike_suc p ks k)
    where
      at_suc : (k : ℕ) (o : Option ℕ) → next_at (suc k) o ≡ option_map suc (next_at k o)
      at_suc k None = refl
      at_suc k (Some g) = next_suc k g

      alike_suc : (p : Option K) (ks : List (Option K)) (k : ℕ) → next_alike same (suc k) (p ∷ ks) ≡ option_map suc (next_alike same k ks)
      alike_suc p ks k = elim (slice_get ks k) as (λ o. (elim o [ None ↦ None | Some r ↦ elim r [ None ↦ None | Some key ↦ index_from (has_key same key) (suc k + 1) (p ∷ ks) ] ])
          ≡ option_map suc (elim o [ None ↦ None | Some r ↦ elim r [ None ↦ None | Some key ↦ index_from (has_key same key) (k + 1) ks ] ])) [
            | None ↦ refl
            | Some r ↦ elim r as (λ r. (elim r [ None ↦ None | Some key ↦ index_from (has_key same key) (suc k + 1) (p ∷ ks) ])
                ≡ option_map suc (elim r [ None ↦ None | Some key ↦ index_from (has_key same key) (k + 1) ks ])) [
                  | None ↦ refl
                  | Some key ↦ (let more : suc k + 1 ≡ suc (k + 1) = omega arith in ap (λ i. index_from (has_key same key) i (p ∷ ks)) more ∙ later (has_key same key) p ks (k + 1))
                ]
          ]

  pub gap_in : (ks : List (Option K)) (gs : List ℕ) (k g : ℕ) → gs ≡ gaps_of same ks → slice_get gs k ≡ Some g → k + g < length gs
  gap_in ks gs k g e read =
      let in_keys : k + g < length ks = gap_within ks k g (ap (λ xs. slice_get xs k) (sym e) ∙ read) in
      omega (arith, in_keys, ap length e, length-gaps same ks)

  pub next_in : (ks : List (Option K)) (gs : List ℕ) (k : ℕ) (o : Option ℕ) → gs ≡ gaps_of same ks → slice_get gs k ≡ o → next_at k o ≡ next_alike same k ks
  next_in ks gs k o e read = ap (next_at k) (sym read ∙ ap (λ xs. slice_get xs k) e) ∙ next_is ks k

pub next_some : (k g : ℕ) → (g ≡ 0 → ⊥) → next_by k g ≡ Some (k + g)
next_some k g some = cond-false (nat_eq g 0) None (Some (k + g)) (false_from_ne_true (nat_eq g 0) (λ h. some (eqb-true g 0 h)))

-- a member without a key changes no row
module _ {K : Type 0} (same : K → K → Bool) where
  gap-none : (o : Option K) (ks : List (Option K)) → gap same o (ks ++ None ∷ []) ≡ gap same o ks
  gap-none None ks = refl
  gap-none (Some s) ks = ap gap_by (index_where-push (has_key same s) None ks)
      ∙ elim (index_where (has_key same s) ks) as (λ o. gap_by (found_with o false (length ks)) ≡ gap_by o) [
        | Some i ↦ refl
        | None ↦ refl
      ]

  pub gaps-none : (ks : List (Option K)) → gaps_of same (ks ++ None ∷ []) ≡ gaps_of same ks ++ 0 ∷ []
  gaps-none [] = refl
  gaps-none (p ∷ ks) = ap (λ g. g ∷ gaps_of same (ks ++ None ∷ [])) (gap-none p ks) ∙ ap (λ gs. gap same p ks ∷ gs) (gaps-none ks)

  pub ends-none : (s : K) (ks : List (Option K)) → ends_of same s (ks ++ None ∷ []) ≡ ends_of same s ks
  ends-none s ks =
      ap (λ o. ends_by o (last_where (has_key same s) (ks ++ None ∷ []))) (index_where-push (has_key same s) None ks)
      ∙ ap (ends_by (found_with (index_where (has_key same s) ks) false (length ks))) (last_where-push (has_key same s) None ks)
      ∙ elim (index_where (has_key same s) ks) as (λ o. ends_by (found_with o false (length ks)) (last_where (has_key same s) ks) ≡ ends_by o (last_where (has_key same s) ks)) [
        | Some i ↦ refl
        | None ↦ refl
      ]

-- what is some exactly if P, and P
pub holds_some : {T : Type 0} (r : Option T) (P : Type 0) (v : T) → SomeIff r P v → P → r ≡ Some v
holds_some None P v h p = absurd (h p)
holds_some (Some x) P v h p = ap Some h.1
