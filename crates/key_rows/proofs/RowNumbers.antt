-- What the row of a key says, once a row goes last, and once the ends of one are others.
use Rattle.std.proofs.Common.{zero, suc, ◌≡◌, ℕ, ◌<◌, Bool, true, false, List, [], ◌∷◌, ◌++◌, length, set, refl, sym, ap, ◌∙◌, subst, inl, inr, arith}
use Rattle.std.specs.Prelude.{Option, None, Some, Result, Ok, Err, OnOk, OnErr, cond, slice_get, option_map, option_and_then, is_some, MatchOption}
use Rattle.std.specs.declared.cmp.Ordering.{Ordering}
use Rattle.std.specs.Ordering.{eq_by_cmp, is_eq}
use Rattle.std.specs.Cmp.{IsTotalOrder, eq_by_cmp_equiv, Equal-is}
use Rattle.std.proofs.lemmas.Bool.{cond-true, cond-false, cases_Bool, true≢false}
use Rattle.key_rows.proofs.MemberLemmas.{passes}
use Rattle.std.proofs.lemmas.Option.{same_Some}
use Rattle.key_rows.specs.declared.rows.Ends.{Ends}
use Rattle.key_rows.specs.declared.rows.Row.{Row}
use Rattle.key_rows.specs.Positions.{last_where}
use Rattle.key_rows.specs.Cells.{ends_in, with_ends, is_of, row_number, get, cell, ContainsKey}
use Rattle.key_rows.proofs.RowLemmas.{last_where-push, last_within}

module _ {K : Type 0} where
  get_before : (rs : List (Row K)) (r : Row K) (n : ℕ) → n < length rs → slice_get (rs ++ r ∷ []) n ≡ slice_get rs n
  get_before [] r n h = absurd (omega arith)
  get_before (x ∷ xs) r zero h = refl
  get_before (x ∷ xs) r (suc n) h = get_before xs r n (omega arith)

  get_last : (rs : List (Row K)) (r : Row K) → slice_get (rs ++ r ∷ []) (length rs) ≡ Some r
  get_last [] r = refl
  get_last (x ∷ xs) r = get_last xs r

  -- the ends of one are these, and of the others as they were
  pub ends_set : (rs : List (Row K)) (n : ℕ) (e : Ends) → n < length rs → option_map ends_in (slice_get (with_ends n e rs) n) ≡ Some (Some e)
  ends_set [] n e h = absurd (omega arith)
  ends_set (r ∷ rs) zero e h = refl
  ends_set (r ∷ rs) (suc n) e h = ends_set rs n e (omega arith)

  pub ends_other : (rs : List (Row K)) (n m : ℕ) (e : Ends) → (n ≡ m → ⊥) → option_map ends_in (slice_get (with_ends n e rs) m) ≡ option_map ends_in (slice_get rs m)
  ends_other [] n m e h = refl
  ends_other (r ∷ rs) zero zero e h = absurd (h refl)
  ends_other (r ∷ rs) zero (suc m) e h = refl
  ends_other (r ∷ rs) (suc n) zero e h = refl
  ends_other (r ∷ rs) (suc n) (suc m) e h = ends_other rs n m e (λ f. h (ap suc f))

  pub keys_stay : (p : Row K → Bool) → ((k : K) (a b : Option Ends) → p (record { key = k; ends = a }) ≡ p (record { key = k; ends = b }))
      → (rs : List (Row K)) (n : ℕ) (e : Ends) → last_where p (with_ends n e rs) ≡ last_where p rs
  keys_stay p same [] n e = refl
  keys_stay p same (r ∷ rs) zero e = ap (λ b. elim (last_where p rs) [ Some k ↦ Some (suc k) | None ↦ cond b (Some 0) None ]) (same r.key (Some e) r.ends)
  keys_stay p same (r ∷ rs) (suc n) e = ap (λ o. elim o [ Some k ↦ Some (suc k) | None ↦ cond (p r) (Some 0) None ]) (keys_stay p same rs n e)

  -- the row of a number with other ends
  pub written_ends : (rs : List (Row K)) (n : ℕ) (e : Ends) (r : Row K) → slice_get rs n ≡ Some r → set rs n (record { key = r.key; ends = Some e }) ≡ with_ends n e rs
  written_ends [] n e r at = refl
  written_ends (x ∷ xs) zero e r at = ap (λ (y : Row K). record { key = y.key; ends = Some e } ∷ xs) (sym (same_Some x r at))
  written_ends (x ∷ xs) (suc n) e r at = ap (λ rs. x ∷ rs) (written_ends xs n e r at)

abbrev pub content : Option (Option Ends) → Option Ends
content o = elim o [ None ↦ None | Some c ↦ c ]

there_is : {X : Type 0} (xs : List X) (n : ℕ) → n < length xs → (x : X) × (slice_get xs n ≡ Some x)
there_is [] n h = absurd (omega arith)
there_is (x ∷ xs) zero h = (x, refl)
there_is (x ∷ xs) (suc n) h = there_is xs n (omega arith)

module _ {K : Type 0} (cmp : K → K → Ordering) where
  -- a row more: its key has its ends, and the others what they had
  pub get_pushed : (rs : List (Row K)) (r : Row K) (k : K) → get cmp (rs ++ r ∷ []) k ≡ cond (eq_by_cmp cmp k r.key) (Some r.ends) (get cmp rs k)
  get_pushed rs r k =
      ap (option_and_then (λ n. option_map ends_in (slice_get (rs ++ r ∷ []) n))) (last_where-push (is_of cmp k) r rs)
      ∙ elim (eq_by_cmp cmp k r.key) as (λ b. option_and_then (λ n. option_map ends_in (slice_get (rs ++ r ∷ []) n)) (cond b (Some (length rs)) (row_number cmp k rs)) ≡ cond b (Some r.ends) (get cmp rs k)) [
        | true ↦ ap (option_map ends_in) (get_last rs r)
        | false ↦ elim (row_number cmp k rs) as (λ o. row_number cmp k rs ≡ o → option_and_then (λ n. option_map ends_in (slice_get (rs ++ r ∷ []) n)) o ≡ option_and_then (λ n. option_map ends_in (slice_get rs n)) o) [
          | None ↦ λ was. refl
          | Some n ↦ λ was. ap (option_map ends_in) (get_before rs r n (last_within (is_of cmp k) rs n was))
        ] refl
      ]

  pub holds_row : (rs : List (Row K)) (k : K) → is_some (row_number cmp k rs) ≡ true → ContainsKey cmp rs k
  holds_row rs k h = elim (row_number cmp k rs) as (λ o. row_number cmp k rs ≡ o → is_some o ≡ true → is_some (option_and_then (λ n. option_map ends_in (slice_get rs n)) o) ≡ true) [
    | None ↦ λ was f. cc
    | Some n ↦ λ was f. let there = there_is rs n (last_within (is_of cmp k) rs n was) in ap (λ o. is_some (option_map ends_in o)) there.1
  ] refl h

  pub has_row : (rs : List (Row K)) (k : K) → ContainsKey cmp rs k → is_some (row_number cmp k rs) ≡ true
  has_row rs k h = elim (row_number cmp k rs) as (λ o. is_some (option_and_then (λ n. option_map ends_in (slice_get rs n)) o) ≡ true → is_some o ≡ true) [
    | None ↦ λ f. f
    | Some n ↦ λ f. refl
  ] h

  -- what the row of a number says is what its key says
  pub says : (rs : List (Row K)) (k : K) (n : ℕ) (e : Option Ends) → row_number cmp k rs ≡ Some n → option_map ends_in (slice_get rs n) ≡ Some e → get cmp rs k ≡ Some e
  says rs k n e at is = ap (option_and_then (λ m. option_map ends_in (slice_get rs m))) at ∙ is

  no_row : (rs : List (Row K)) (k : K) → is_some (row_number cmp k rs) ≡ false → get cmp rs k ≡ None
  no_row rs k h = elim (row_number cmp k rs) as (λ o. is_some o ≡ false → option_and_then (λ n. option_map ends_in (slice_get rs n)) o ≡ None) [
    | None ↦ λ f. refl
    | Some n ↦ λ f. cc
  ] h

  module _ (total : IsTotalOrder cmp) where
    -- equal keys have one row
    pub one_row : (rs : List (Row K)) (s t : K) → eq_by_cmp cmp s t ≡ true → row_number cmp s rs ≡ row_number cmp t rs
    one_row rs s t e =
        let orders : (z : K) → cmp s z ≡ cmp t z = λ z. total.congr s t z ((Equal-is (cmp s t)).0 e) in
        ap (λ (f : K → Ordering). last_where (λ (r : Row K). is_eq (f r.key)) rs) (λ j z. orders z j)

    -- a row has one key
    no_other : (rs : List (Row K)) (key k : K) (n : ℕ) → row_number cmp key rs ≡ Some n → eq_by_cmp cmp key k ≡ false → row_number cmp k rs ≡ Some n → ⊥
    no_other rs key k n at other was =
        let there = there_is rs n (last_within (is_of cmp key) rs n at) in
        let mine : eq_by_cmp cmp key there.0.key ≡ true = passes (is_of cmp key) rs n there.0 at there.1 in
        let theirs : eq_by_cmp cmp k there.0.key ≡ true = passes (is_of cmp k) rs n there.0 was there.1 in
        let back : eq_by_cmp cmp there.0.key k ≡ true = (eq_by_cmp_equiv total).symm there.0.key k ∙ theirs in
        true≢false (sym ((eq_by_cmp_equiv total).congr key there.0.key k mine ∙ back) ∙ other)

    -- the ends of a key's row are others: so does its key have, and the others what they had
    pub get_set : (rs : List (Row K)) (key : K) (n : ℕ) (e : Ends) → row_number cmp key rs ≡ Some n → (k : K)
        → get cmp (with_ends n e rs) k ≡ cond (eq_by_cmp cmp key k) (Some (Some e)) (get cmp rs k)
    get_set rs key n e at k =
        ap (option_and_then (λ m. option_map ends_in (slice_get (with_ends n e rs) m))) (keys_stay (is_of cmp k) (λ j a b. refl) rs n e)
        ∙ elim (cases_Bool (eq_by_cmp cmp key k)) [
          | inl same ↦
              ap (option_and_then (λ m. option_map ends_in (slice_get (with_ends n e rs) m))) (sym (one_row rs key k same) ∙ at)
              ∙ ends_set rs n e (last_within (is_of cmp key) rs n at)
              ∙ sym (cond-true (eq_by_cmp cmp key k) (Some (Some e)) (get cmp rs k) same)
          | inr other ↦
              (elim (row_number cmp k rs) as (λ o. row_number cmp k rs ≡ o → option_and_then (λ m. option_map ends_in (slice_get (with_ends n e rs) m)) o ≡ option_and_then (λ m. option_map ends_in (slice_get rs m)) o) [
                | None ↦ λ was. refl
                | Some m ↦ λ was. ends_other rs n m e (λ is. no_other rs key k n at other (was ∙ ap Some (sym is)))
              ] refl)
              ∙ sym (cond-false (eq_by_cmp cmp key k) (Some (Some e)) (get cmp rs k) other)
        ]

    -- what a row that is made for a key, unless it has one, leaves of the others
    pub record IsMade (rs new : List (Row K)) (key : K) : Type 0 where
      pub cells : (k : K) → cell cmp new k ≡ cell cmp rs k
      pub kept : (k : K) → ContainsKey cmp rs k → ContainsKey cmp new k
      pub there : ContainsKey cmp new key

    -- an empty row more for a key that has none: what each key's row says stays
    module _ (rs new : List (Row K)) (key : K) (row : Row K) (is : row ≡ record { key = key; ends = None }) (made : new ≡ rs ++ row ∷ []) (none : is_some (row_number cmp key rs) ≡ false) where
      gets : (k : K) → get cmp new k ≡ cond (eq_by_cmp cmp k key) (Some None) (get cmp rs k)
      gets k = ap (λ xs. get cmp xs k) made ∙ get_pushed rs row k ∙ ap (λ (r : Row K). cond (eq_by_cmp cmp k r.key) (Some r.ends) (get cmp rs k)) is

      cell_made : (k : K) → cell cmp new k ≡ cell cmp rs k
      cell_made k = ap content (gets k) ∙ elim (cases_Bool (eq_by_cmp cmp k key)) [
        | inl same ↦ ap content (cond-true (eq_by_cmp cmp k key) (Some None) (get cmp rs k) same)
            ∙ sym (ap content (ap (option_and_then (λ n. option_map ends_in (slice_get rs n))) (one_row rs k key same) ∙ no_row rs key none))
        | inr other ↦ ap content (cond-false (eq_by_cmp cmp k key) (Some None) (get cmp rs k) other)
      ]

      cell_kept : (k : K) → ContainsKey cmp rs k → ContainsKey cmp new k
      cell_kept k had = ap is_some (gets k) ∙ elim (eq_by_cmp cmp k key) as (λ b. is_some (cond b (Some None) (get cmp rs k)) ≡ true) [ true ↦ refl | false ↦ had ]

      cell_there : ContainsKey cmp new key
      cell_there = ap is_some (gets key ∙ cond-true (eq_by_cmp cmp key key) (Some None) (get cmp rs key) ((eq_by_cmp_equiv total).refl key))

      pub row_made : IsMade rs new key
      row_made = record { cells = cell_made; kept = cell_kept; there = cell_there }

    pub made_unless : (rs new : List (Row K)) (key : K)
        → MatchOption (row_number cmp key rs) (new ≡ rs ++ record { key = key; ends = None } ∷ []) (λ _. new ≡ rs) → IsMade rs new key
    made_unless rs new key made = elim (row_number cmp key rs) as (λ o. row_number cmp key rs ≡ o → MatchOption o (new ≡ rs ++ record { key = key; ends = None } ∷ []) (λ _. new ≡ rs) → IsMade rs new key) [
      | None ↦ λ was m. row_made rs new key (record { key = key; ends = None }) refl m (ap is_some was)
      | Some n ↦ λ was m. subst (λ xs. IsMade rs xs key) (sym m) (record { cells = λ k. refl; kept = λ k had. had; there = holds_row rs key (ap is_some was) })
    ] refl made

-- what follows from what holds where a call is not refused, and where it is
pub either_way : {A E P Q R : Type 0} (r : Result A E) → OnOk r P → OnErr r Q → (P → R) → (Q → R) → R
either_way (Ok x) p q if_made if_not = if_made p
either_way (Err e) p q if_made if_not = if_not q

pub if_ok : {A E P R : Type 0} (r : Result A E) → OnOk r P → (P → R) → OnOk r R
if_ok (Ok x) p f = f p
if_ok (Err e) p f = tt
