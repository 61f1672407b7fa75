-- Passes that go from one that passes a test to the next, over one row or over two.
use Rattle.std.proofs.Common.{zero, suc, ◌≡◌, ℕ, ◌+◌, ◌-◌, ◌<◌, ◌≤◌, Bool, true, false, List, [], ◌∷◌, ◌++◌, length, refl, sym, ap, ap₂, ◌∙◌, subst, append-nil, inl, inr, arith}
use Rattle.std.specs.Prelude.{Option, None, Some, cond, option_map, drop, slice_get, ◌||◌, ◌&&◌, nat_lt, IfSome}
use Rattle.std.proofs.lemmas.Bool.{cond-true, cond-false, cases_Bool, lt-ltb, ltb-true, ltb-false, le-ltb, or_parts}
use Rattle.std.proofs.lemmas.Option.{same_Some, slice_get_within}
use Rattle.key_rows.specs.Rows.{index_where, index_from}
use Rattle.pushdown_rules.specs.declared.rule.Rule.{Rule}
use Rattle.pushdown_rules.proofs.CallerLemmas.{by_number, index_found, IsFound, index_from_start, turn_last, turn_next}
use Rattle.direction_parts.specs.Passes.{by_rule}
use Rattle.direction_parts.specs.Merges.{lower_of}

pub by_rule_is : {S W Map X : Type 0} (f : ℕ → Rule S W Map → List X) (n : ℕ) (rs : List (Rule S W Map)) → by_rule f n rs ≡ by_number f n rs
by_rule_is f n [] = refl
by_rule_is f n (r ∷ rs) = ap (λ ys. f n r ++ ys) (by_rule_is f (suc n) rs)

-- what gives nothing at each
pub by_number-none : {X Y : Type 0} (f : ℕ → X → List Y) → ((k : ℕ) (x : X) → f k x ≡ []) → (n : ℕ) (xs : List X) → by_number f n xs ≡ []
by_number-none f none n [] = refl
by_number-none f none n (x ∷ xs) = ap (λ ys. ys ++ by_number f (suc n) xs) (none n x) ∙ by_number-none f none (suc n) xs

-- The lower of two numbers.
lower-plus : (i : ℕ) (a b : Option ℕ) → option_map (λ k. k + i) (lower_of a b) ≡ lower_of (option_map (λ k. k + i) a) (option_map (λ k. k + i) b)
lower-plus i None b = refl
lower-plus i (Some x) None = refl
lower-plus i (Some x) (Some y) = elim (cases_Bool (nat_lt x y)) [
  | inl e ↦ ap (option_map (λ k. k + i)) (cond-true (nat_lt x y) (Some x) (Some y) e)
      ∙ sym (cond-true (nat_lt (x + i) (y + i)) (Some (x + i)) (Some (y + i)) (lt-ltb (x + i) (y + i) (let h = ltb-true x y e in omega (arith, h))))
  | inr e ↦ ap (option_map (λ k. k + i)) (cond-false (nat_lt x y) (Some x) (Some y) e)
      ∙ sym (cond-false (nat_lt (x + i) (y + i)) (Some (x + i)) (Some (y + i)) (le-ltb (x + i) (y + i) (let h = ltb-false x y e in omega (arith, h))))
]

lower_is : (a b : Option ℕ) (k : ℕ) → lower_of a b ≡ Some k → IfSome a (λ j. k ≤ j) × IfSome b (λ j. k ≤ j)
lower_is None None k e = (tt, tt)
lower_is None (Some y) k e = let is : y ≡ k = same_Some y k e in (tt, omega (arith, is))
lower_is (Some x) None k e = let is : x ≡ k = same_Some x k e in (omega (arith, is), tt)
lower_is (Some x) (Some y) k e = elim (cases_Bool (nat_lt x y)) [
  | inl h ↦
      let is : x ≡ k = same_Some x k (sym (cond-true (nat_lt x y) (Some x) (Some y) h) ∙ e) in
      let less : x < y = ltb-true x y h in (omega (arith, is), omega (arith, is, less))
  | inr h ↦
      let is : y ≡ k = same_Some y k (sym (cond-false (nat_lt x y) (Some x) (Some y) h) ∙ e) in
      let more : y ≤ x = ltb-false x y h in (omega (arith, is, more), omega (arith, is))
]

-- the first that passes one of two tests
module _ {X : Type 0} (p q : X → Bool) where
  abbrev either : X → Bool
  either x = p x || q x

  lower_zero : (o : Option ℕ) → Some 0 ≡ lower_of (Some 0) (option_map (λ k. k + 1) o)
  lower_zero None = refl
  lower_zero (Some j) = sym (cond-true (nat_lt 0 (j + 1)) (Some 0) (Some (j + 1)) (lt-ltb 0 (j + 1) (omega arith)))

  zero_lower : (o : Option ℕ) → Some 0 ≡ lower_of (option_map (λ k. k + 1) o) (Some 0)
  zero_lower None = refl
  zero_lower (Some j) = sym (cond-false (nat_lt (j + 1) 0) (Some (j + 1)) (Some 0) (le-ltb (j + 1) 0 (omega arith)))

  either_where : (xs : List X) → index_where either xs ≡ lower_of (index_where p xs) (index_where q xs)
  either_where [] = refl
  either_where (x ∷ xs) =
      elim (p x) as (λ b. cond (b || q x) (Some 0) (option_map (λ k. k + 1) (index_where either xs)) ≡ lower_of (cond b (Some 0) (option_map (λ k. k + 1) (index_where p xs))) (cond (q x) (Some 0) (option_map (λ k. k + 1) (index_where q xs)))) [
        | true ↦ elim (q x) as (λ c. Some 0 ≡ lower_of (Some 0) (cond c (Some 0) (option_map (λ k. k + 1) (index_where q xs)))) [
          | true ↦ refl
          | false ↦ lower_zero (index_where q xs)
        ]
        | false ↦ elim (q x) as (λ c. cond c (Some 0) (option_map (λ k. k + 1) (index_where either xs)) ≡ lower_of (option_map (λ k. k + 1) (index_where p xs)) (cond c (Some 0) (option_map (λ k. k + 1) (index_where q xs)))) [
          | true ↦ zero_lower (index_where p xs)
          | false ↦ ap (option_map (λ k. k + 1)) (either_where xs) ∙ lower-plus 1 (index_where p xs) (index_where q xs)
        ]
      ]

  either_from : (i : ℕ) (xs : List X) → index_from either i xs ≡ lower_of (index_from p i xs) (index_from q i xs)
  either_from i xs = ap (option_map (λ k. k + i)) (either_where (drop i xs)) ∙ lower-plus i (index_where p (drop i xs)) (index_where q (drop i xs))

module _ {X : Type 0} where
  abbrev nothing : List X
  nothing = []

  drop_none : (n : ℕ) → drop n nothing ≡ nothing
  drop_none zero = refl
  drop_none (suc n) = refl

  suc_drops : (i : ℕ) (x : X) (xs : List X) → drop (suc i + 1) (x ∷ xs) ≡ drop (i + 1) xs
  suc_drops i x xs = let e : suc i + 1 ≡ suc (i + 1) = omega arith in ap (λ n. drop n (x ∷ xs)) e

module _ {X : Type 0} (p : X → Bool) where
  one_more : (i : ℕ) (o : Option ℕ) → option_map (λ k. k + i) (option_map (λ k. k + 1) o) ≡ option_map (λ k. k + (i + 1)) o
  one_more i None = refl
  one_more i (Some k) = ap Some (omega arith)

  by_two : (i : ℕ) (o : Option ℕ) → option_map (λ k. k + (suc i + 1)) o ≡ option_map suc (option_map (λ k. k + (i + 1)) o)
  by_two i None = refl
  by_two i (Some k) = ap Some (omega arith)

  by_suc : (i : ℕ) (o : Option ℕ) → option_map (λ k. k + suc i) o ≡ option_map suc (option_map (λ k. k + i) o)
  by_suc i None = refl
  by_suc i (Some k) = ap Some (omega arith)

  from_suc : (i : ℕ) (o : Option ℕ) → (option_map suc o ≡ Some (suc i) → ⊥) → o ≡ Some i → ⊥
  from_suc i o other e = other (ap (option_map suc) e)

  -- where the search doesn't end at once it goes on with the next
  one_later : (i : ℕ) (xs : List X) → (index_from p i xs ≡ Some i → ⊥) → index_from p (i + 1) xs ≡ index_from p i xs
  one_later i [] other = ap (λ ys. option_map (λ k. k + (i + 1)) (index_where p ys)) (drop_none (i + 1)) ∙ sym (ap (λ ys. option_map (λ k. k + i) (index_where p ys)) (drop_none i))
  one_later zero (x ∷ xs) other = elim (cases_Bool (p x)) [
    | inl here ↦ absurd (other (ap (option_map (λ k. k + 0)) (cond-true (p x) (Some 0) (option_map (λ k. k + 1) (index_where p xs)) here)))
    | inr other_one ↦ sym (ap (option_map (λ k. k + 0)) (cond-false (p x) (Some 0) (option_map (λ k. k + 1) (index_where p xs)) other_one) ∙ one_more 0 (index_where p xs))
  ]
  one_later (suc i) (x ∷ xs) other =
      ap (λ ys. option_map (λ k. k + (suc i + 1)) (index_where p ys)) (suc_drops i x xs)
      ∙ by_two i (index_where p (drop (i + 1) xs))
      ∙ ap (option_map suc) (one_later i xs (from_suc i (index_from p i xs) (λ e. other (by_suc i (index_where p (drop i xs)) ∙ e))))
      ∙ sym (by_suc i (index_where p (drop i xs)))

  -- what a search finds that does not stand before a number, a search from there finds
  later_by : (d i : ℕ) (xs : List X) → IfSome (index_from p i xs) (λ j. i + d ≤ j) → index_from p (i + d) xs ≡ index_from p i xs
  later_by zero i xs far = let e : i + 0 ≡ i = omega arith in ap (λ n. index_from p n xs) e
  later_by (suc d) i xs far =
      let e : i + suc d ≡ (i + 1) + d = omega arith in
      let other : index_from p i xs ≡ Some i → ⊥ = λ at. let h : i + suc d ≤ i = subst (λ o. IfSome o (λ j. i + suc d ≤ j)) at far in omega (arith, h) in
      let step = one_later i xs other in
      ap (λ n. index_from p n xs) e
      ∙ later_by d (i + 1) xs (subst (λ n. IfSome (index_from p (i + 1) xs) (λ j. n ≤ j)) e (subst (λ o. IfSome o (λ j. i + suc d ≤ j)) (sym step) far))
      ∙ step

  later : (i k : ℕ) (xs : List X) → i ≤ k → IfSome (index_from p i xs) (λ j. k ≤ j) → index_from p k xs ≡ index_from p i xs
  later i k xs before far =
      let e : i + (k - i) ≡ k = omega arith in
      subst (λ n. index_from p n xs ≡ index_from p i xs) e (later_by (k - i) i xs (subst (λ n. IfSome (index_from p i xs) (λ j. n ≤ j)) (sym e) far))

  -- a row that does not stand at a number stands where it stood, behind it
  pub not_there : (k : ℕ) (xs : List X) (at : Option ℕ) → at ≡ index_from p k xs → (at ≡ Some k → ⊥) → at ≡ index_from p (k + 1) xs
  not_there k xs at stands other = stands ∙ sym (one_later k xs (λ e. other (stands ∙ e)))

-- how much of a list is left where a pass stands
abbrev pub to_go : ℕ → Option ℕ → ℕ
to_go n at = elim at [ None ↦ 0 | Some k ↦ suc (n - k) ]

pub less_to_go : {X : Type 0} (p : X → Bool) (xs : List X) (k : ℕ) (next : Option ℕ) → k < length xs → next ≡ index_from p (k + 1) xs → to_go (length xs) next < to_go (length xs) (Some k)
less_to_go p xs k next within goes = elim next as (λ o. o ≡ index_from p (k + 1) xs → to_go (length xs) o < suc (length xs - k)) [
  | None ↦ λ e. omega arith
  | Some j ↦ λ e.
      let found = index_found p (k + 1) xs j (sym e) in
      let far = found.1 in
      omega (arith, within, far, slice_get_within xs j found.0.item found.0.there)
] goes

-- what stands where a row stands passes the row's test
pub passes_at : {X : Type 0} (p : X → Bool) (xs : List X) (k : ℕ) (x : X) → IsFound p xs k → slice_get xs k ≡ Some x → p x ≡ true
passes_at {X} p xs k x found there = let P : X → Type 0 = λ y. p y ≡ true in subst P (same_Some found.item x (sym found.there ∙ there)) found.passes

-- A pass over one row: where it stands, and what is still to come.
pub record IsPass {X Y : Type 0} (p : X → Bool) (f : ℕ → X → List Y) (xs : List X) (all listed : List Y) (at : Option ℕ) : Type 0 where
  pub from : ℕ
  pub stands : at ≡ index_from p from xs
  pub rest : listed ++ by_number f from (drop from xs) ≡ all

module _ {X Y : Type 0} (p : X → Bool) (f : ℕ → X → List Y) (xs : List X) where
  pub pass_starts : (listed : List Y) (at : Option ℕ) → at ≡ index_where p xs → IsPass p f xs (listed ++ by_number f 0 xs) listed at
  pass_starts listed at e = record { from = 0; stands = e ∙ index_from_start p xs; rest = refl }

  module _ (all listed : List Y) (at : Option ℕ) (pass : IsPass p f xs all listed at) where
    pub pass_at : (k : ℕ) → at ≡ Some k → IsFound p xs k
    pass_at k is = (index_found p pass.from xs k (sym pass.stands ∙ is)).0

    -- so a search from there ends there
    pub pass_here : (k : ℕ) → at ≡ Some k → index_from p k xs ≡ Some k
    pass_here k is =
        let e = sym pass.stands ∙ is in
        let here : k ≤ k = omega arith in
        later p pass.from k xs (index_found p pass.from xs k e).1 (subst (λ o. IfSome o (λ j. k ≤ j)) (sym e) here) ∙ e

    module _ (only : (k : ℕ) (x : X) → p x ≡ false → f k x ≡ []) where
      pub pass_goes_on : (k : ℕ) (x : X) (more : List Y) (next : Option ℕ) → at ≡ Some k → slice_get xs k ≡ Some x → more ≡ listed ++ f k x → next ≡ index_from p (k + 1) xs
          → IsPass p f xs all more next
      pass_goes_on k x more next is there made goes = record {
        from = k + 1;
        stands = goes;
        rest = turn_next p f only xs pass.from k x listed more all (sym pass.stands ∙ is) there pass.rest made;
      }

      pub pass_ends : at ≡ None → listed ≡ all
      pass_ends is = sym (append-nil listed) ∙ turn_last p f only xs pass.from listed all (sym pass.stands ∙ is) pass.rest

-- A pass over two rows.
pub record IsFork {X Y : Type 0} (p q : X → Bool) (f : ℕ → X → List Y) (xs : List X) (all listed : List Y) (a b : Option ℕ) : Type 0 where
  pub from : ℕ
  pub first : a ≡ index_from p from xs
  pub second : b ≡ index_from q from xs
  pub rest : listed ++ by_number f from (drop from xs) ≡ all

module _ {X Y : Type 0} (p q : X → Bool) (f : ℕ → X → List Y) (xs : List X) where
  pub fork_starts : (listed : List Y) (a b : Option ℕ) → a ≡ index_where p xs → b ≡ index_where q xs → IsFork p q f xs (listed ++ by_number f 0 xs) listed a b
  fork_starts listed a b e g = record { from = 0; first = e ∙ index_from_start p xs; second = g ∙ index_from_start q xs; rest = refl }

  module _ (all listed : List Y) (a b : Option ℕ) (fork : IsFork p q f xs all listed a b) where
    -- as a pass over what passes either test
    pub as_pass : (at : Option ℕ) → at ≡ lower_of a b → IsPass (λ x. p x || q x) f xs all listed at
    as_pass at lower = record {
      from = fork.from;
      stands = lower ∙ ap₂ lower_of fork.first fork.second ∙ sym (either_from p q fork.from xs);
      rest = fork.rest;
    }

    before : (at : Option ℕ) (k : ℕ) → at ≡ lower_of a b → at ≡ Some k → fork.from ≤ k
    unfolding as_pass
    before at k lower is = (index_found (λ x. p x || q x) fork.from xs k (sym (as_pass at lower).stands ∙ is)).1

    -- where the rows stand, seen from the lower of the two
    pub fork_at : (at : Option ℕ) (k : ℕ) → at ≡ lower_of a b → at ≡ Some k → (a ≡ index_from p k xs) × (b ≡ index_from q k xs)
    fork_at at k lower is =
        let far = lower_is a b k (sym lower ∙ is) in
        let since = before at k lower is in (
          fork.first ∙ sym (later p fork.from k xs since (subst (λ o. IfSome o (λ j. k ≤ j)) fork.first far.0)),
          fork.second ∙ sym (later q fork.from k xs since (subst (λ o. IfSome o (λ j. k ≤ j)) fork.second far.1)),
        )

    module _ (only : (k : ℕ) (x : X) → p x ≡ false → q x ≡ false → f k x ≡ []) where
      neither : (k : ℕ) (x : X) → (p x || q x) ≡ false → f k x ≡ []
      neither k x none = let parts = or_parts (p x) (q x) none in only k x parts.0 parts.1

      pub fork_goes_on : (at : Option ℕ) (k : ℕ) (x : X) (more : List Y) (c d : Option ℕ) → at ≡ lower_of a b → at ≡ Some k → slice_get xs k ≡ Some x → more ≡ listed ++ f k x
          → c ≡ index_from p (k + 1) xs → d ≡ index_from q (k + 1) xs → IsFork p q f xs all more c d
      unfolding pass_goes_on
      fork_goes_on at k x more c d lower is there made goes_p goes_q = record {
        from = k + 1;
        first = goes_p;
        second = goes_q;
        rest = (pass_goes_on (λ y. p y || q y) f xs all listed at (as_pass at lower) neither k x more (index_from (λ y. p y || q y) (k + 1) xs) is there made refl).rest;
      }

      pub fork_ends : (at : Option ℕ) → at ≡ lower_of a b → at ≡ None → listed ≡ all
      fork_ends at lower is = pass_ends (λ y. p y || q y) f xs all listed at (as_pass at lower) neither is

  pub less_to_fork : (k : ℕ) (c d : Option ℕ) → k < length xs → c ≡ index_from p (k + 1) xs → d ≡ index_from q (k + 1) xs → to_go (length xs) (lower_of c d) < to_go (length xs) (Some k)
  less_to_fork k c d within goes_p goes_q = less_to_go (λ y. p y || q y) xs k (lower_of c d) within (ap₂ lower_of goes_p goes_q ∙ sym (either_from p q (k + 1) xs))

-- a row that is left out where a test that holds for all fails
pub only_where : {X : Type 0} (b : Bool) (p : X → Bool) (k : ℕ) (xs : List X) → b ≡ true → index_from p k xs ≡ index_from (λ x. b && p x) k xs
only_where b p k xs holds = ap (λ c. index_from (λ x. c && p x) k xs) (sym holds)

never : {X : Type 0} (xs : List X) → None ≡ index_where (λ (x : X). false) xs
never [] = refl
never (x ∷ xs) = ap (option_map (λ k. k + 1)) (never xs)

pub none_where : {X : Type 0} (b : Bool) (p : X → Bool) (xs : List X) → b ≡ false → None ≡ index_where (λ x. b && p x) xs
none_where b p xs fails = never xs ∙ ap (λ c. index_where (λ x. c && p x) xs) (sym fails)
