-- A walk along a row: what passes by is none of it.
use Rattle.std.proofs.Common.{◌≡◌, inl, inr, ℕ, zero, suc, ◌<◌, ◌≤◌, ◌+◌, ◌-◌, List, [], ◌∷◌, length, refl, sym, ap, ◌∙◌, subst, arith}
use Rattle.std.specs.Prelude.{Option, Some, None, slice_get, drop, cond, option_map, Bool, true, false}
use Rattle.std.proofs.lemmas.Bool.{cases_lt}
use Rattle.std.proofs.lemmas.Option.{same_Some, slice_get_within}
use Rattle.key_rows.specs.Rows.{index_where, index_from}
use Rattle.pushdown_rules.proofs.CallerLemmas.{index_found, index_from_start, IsFound}

module _ {X : Type 0} (p : X → Bool) where
  -- where a search goes on behind the first of a list
  abbrev goes : Bool → Option ℕ → Option ℕ
  goes b o = cond b (Some 0) (option_map (λ k. k + 1) o)

  none_where : (xs : List X) (j : ℕ) (x : X) → index_where p xs ≡ None → slice_get xs j ≡ Some x → p x ≡ false
  none_where [] j x none there = cc
  none_where (y ∷ ys) j x none there = elim (p y) as (λ b. p y ≡ b → goes b (index_where p ys) ≡ None → p x ≡ false) [
    | true ↦ λ is e. cc
    | false ↦ λ is e. elim (index_where p ys) as (λ o. index_where p ys ≡ o → option_map (λ k. k + 1) o ≡ None → p x ≡ false) [
      | Some m ↦ λ was f. cc
      | None ↦ λ was f. elim j as (λ i. slice_get (y ∷ ys) i ≡ Some x → p x ≡ false) [
        | zero ↦ λ here. ap p (sym (same_Some y x here)) ∙ is
        | suc i ↦ λ here. none_where ys i x was here
      ] there
    ] refl e
  ] refl none

  before_where : (xs : List X) (m j : ℕ) (x : X) → index_where p xs ≡ Some m → j < m → slice_get xs j ≡ Some x → p x ≡ false
  before_where [] m j x at low there = cc
  before_where (y ∷ ys) m j x at low there = elim (p y) as (λ b. p y ≡ b → goes b (index_where p ys) ≡ Some m → p x ≡ false) [
    | true ↦ λ is e. let first : 0 ≡ m = same_Some 0 m e in absurd (omega (arith, first, low))
    | false ↦ λ is e. elim (index_where p ys) as (λ o. index_where p ys ≡ o → option_map (λ k. k + 1) o ≡ Some m → p x ≡ false) [
      | None ↦ λ was f. cc
      | Some n ↦ λ was f.
          let more : n + 1 ≡ m = same_Some (n + 1) m f in
          elim j as (λ i. i < m → slice_get (y ∷ ys) i ≡ Some x → p x ≡ false) [
            | zero ↦ λ less here. ap p (sym (same_Some y x here)) ∙ is
            | suc i ↦ λ less here. before_where ys n i x was (omega (arith, more, less)) here
          ] low there
    ] refl e
  ] refl at

  drop_get : (xs : List X) (i k : ℕ) → slice_get (drop i xs) k ≡ slice_get xs (k + i)
  drop_get xs zero k = let e : k ≡ k + zero = omega arith in ap (slice_get xs) e
  drop_get [] (suc i) k = refl
  drop_get (x ∷ xs) (suc i) k = let e : suc (k + i) ≡ k + suc i = omega arith in drop_get xs i k ∙ ap (slice_get (x ∷ xs)) e

  from_there : (xs : List X) (i j : ℕ) (x : X) → i ≤ j → slice_get xs j ≡ Some x → slice_get (drop i xs) (j - i) ≡ Some x
  from_there xs i j x low there = let e : (j - i) + i ≡ j = omega (arith, low) in drop_get xs i (j - i) ∙ ap (slice_get xs) e ∙ there

  pub none_from : (xs : List X) (i j : ℕ) (x : X) → index_from p i xs ≡ None → i ≤ j → slice_get xs j ≡ Some x → p x ≡ false
  none_from xs i j x none low there = elim (index_where p (drop i xs)) as (λ o. index_where p (drop i xs) ≡ o → option_map (λ k. k + i) o ≡ None → p x ≡ false) [
    | Some m ↦ λ was f. cc
    | None ↦ λ was f. none_where (drop i xs) (j - i) x was (from_there xs i j x low there)
  ] refl none

  pub before_from : (xs : List X) (i k j : ℕ) (x : X) → index_from p i xs ≡ Some k → i ≤ j → j < k → slice_get xs j ≡ Some x → p x ≡ false
  before_from xs i k j x at low less there = elim (index_where p (drop i xs)) as (λ o. index_where p (drop i xs) ≡ o → option_map (λ n. n + i) o ≡ Some k → p x ≡ false) [
    | None ↦ λ was f. cc
    | Some m ↦ λ was f.
        let is : m + i ≡ k = same_Some (m + i) k f in
        before_where (drop i xs) m (j - i) x was (omega (arith, is, low, less)) (from_there xs i j x low there)
  ] refl at

-- A walk stands where the next of a row stands, and all before it hold.
pub record IsRowWalk {X : Type 0} (p : X → Bool) (xs : List X) (at : Option ℕ) (P : ℕ → Type 0) : Type 0 where
  pub from : ℕ
  pub stands : at ≡ index_from p from xs
  pub met : (k : ℕ) → k < from → P k

abbrev pub to_go : ℕ → Option ℕ → ℕ
to_go n at = elim at [ None ↦ 0 | Some k ↦ n - k ]

module _ {X : Type 0} (p : X → Bool) (xs : List X) where
  pub walk_starts : (at : Option ℕ) (P : ℕ → Type 0) → at ≡ index_where p xs → IsRowWalk p xs at P
  walk_starts at P is = record { from = 0; stands = is ∙ index_from_start p xs; met = λ k low. absurd (omega (arith, low)) }

  module _ (at : Option ℕ) (P : ℕ → Type 0) (walk : IsRowWalk p xs at P) where
    pub walk_at : (k : ℕ) → at ≡ Some k → IsFound p xs k
    walk_at k is = (index_found p walk.from xs k (sym walk.stands ∙ is)).0

    pub walk_within : (k : ℕ) → at ≡ Some k → k < length xs
    walk_within k is = let f = walk_at k is in slice_get_within xs k f.item f.there

    pub walk_goes_on : (k : ℕ) (next : Option ℕ) (Q : ℕ → Type 0) → at ≡ Some k → ((j : ℕ) → P j → Q j) → Q k → ((j : ℕ) → ((x : X) → slice_get xs j ≡ Some x → p x ≡ false) → Q j)
        → next ≡ index_from p (k + 1) xs → IsRowWalk p xs next Q
    walk_goes_on k next Q is later here skips goes = record {
      from = k + 1;
      stands = goes;
      met = λ j low. elim (cases_lt j walk.from) [
        | inl before ↦ later j (walk.met j before)
        | inr behind ↦ elim (cases_lt j k) [
          | inl between ↦ skips j (λ x there. before_from p xs walk.from k j x (sym walk.stands ∙ is) behind between there)
          | inr last ↦ let same : k ≡ j = omega (arith, low, last) in subst Q same here
        ]
      ];
    }

    pub walk_ends : at ≡ None → ((j : ℕ) → ((x : X) → slice_get xs j ≡ Some x → p x ≡ false) → P j) → (j : ℕ) → P j
    walk_ends is skips j = elim (cases_lt j walk.from) [
      | inl before ↦ walk.met j before
      | inr behind ↦ skips j (λ x there. none_from p xs walk.from j x (sym walk.stands ∙ is) behind there)
    ]

  pub less_to_go : (k : ℕ) (next : Option ℕ) → k < length xs → next ≡ index_from p (k + 1) xs → to_go (length xs) next < to_go (length xs) (Some k)
  less_to_go k next low goes = elim next as (λ o. o ≡ index_from p (k + 1) xs → to_go (length xs) o < length xs - k) [
    | None ↦ λ e. omega (arith, low)
    | Some m ↦ λ e. let more = (index_found p (k + 1) xs m (sym e)).1 in omega (arith, low, more)
  ] goes
