-- What passes over the rules and over the transitions list, each thing once.
use Rattle.std.proofs.Common.{◌≡◌, inl, inr, ℕ, zero, suc, ◌+◌, ◌≤◌, Bool, true, List, [], ◌∷◌, ◌++◌, refl, sym, ap, ◌∙◌, subst, arith}
use Rattle.std.specs.Prelude.{Option, Some, slice_get}
use Rattle.std.specs.List.{flat_map}
use Rattle.std.proofs.lemmas.Bool.{cond_both, cond-true}
use Rattle.std.proofs.lemmas.Option.{same_Some}
use Rattle.pushdown_rules.specs.declared.rule.Rule.{Rule}
use Rattle.wpds_base.specs.Lists.{IsIn, IsOnce}
use Rattle.saturation_laws.proofs.CallerLemmas.{in_left, in_append, in_right, from_flat_map}
use Rattle.direction_parts.specs.Passes.{only_if, one_symbol, two_symbols, by_rule}

pub in_only : {X : Type 0} (test : Bool) (x : X) → test ≡ true → IsIn x (only_if test x)
in_only test x e = let P : List _ → Type 0 = IsIn x in subst P (sym (cond-true test (x ∷ []) [] e)) (inl refl)

pub from_only : {X : Type 0} (test : Bool) (x y : X) → IsIn y (only_if test x) → (test ≡ true) × (x ≡ y)
from_only {X = X} test x y = let P : List X → Type 0 = λ xs. IsIn y xs → (test ≡ true) × (x ≡ y) in
    cond_both test (x ∷ []) [] P (λ e h. elim h [ inl same ↦ (e, same) | inr none ↦ absurd none ]) (λ e h. absurd h)

pub one_symbol_is : (w : List ℕ) (g : ℕ) → one_symbol w ≡ Some g → w ≡ g ∷ []
one_symbol_is [] g e = cc
one_symbol_is (a ∷ []) g e = ap (λ x. x ∷ []) (same_Some a g e)
one_symbol_is (a ∷ b ∷ w) g e = cc

pub two_symbols_are : (w : List ℕ) (v : ℕ × ℕ) → two_symbols w ≡ Some v → w ≡ v.0 ∷ v.1 ∷ []
two_symbols_are [] v e = cc
two_symbols_are (a ∷ []) v e = cc
two_symbols_are (a ∷ b ∷ []) v e = ap (λ (x : ℕ × ℕ). x.0 ∷ x.1 ∷ []) (same_Some (a, b) v e)
two_symbols_are (a ∷ b ∷ c ∷ w) v e = cc

-- What the rule of a number gives.
pub record IsOfRule {S W Map X : Type 0} (f : ℕ → Rule S W Map → List X) (n : ℕ) (rs : List (Rule S W Map)) (x : X) : Type 0 where
  pub number : ℕ
  pub by : Rule S W Map
  pub there : slice_get rs number ≡ Some by
  pub is : IsIn x (f (n + number) by)

pub record IsByRule {S W Map X : Type 0} (f : ℕ → Rule S W Map → List X) (rs : List (Rule S W Map)) (x : X) : Type 0 where
  pub number : ℕ
  pub by : Rule S W Map
  pub there : slice_get rs number ≡ Some by
  pub is : IsIn x (f number by)

module _ {S W Map X : Type 0} (f : ℕ → Rule S W Map → List X) where
  in_rule : (n k : ℕ) (rs : List (Rule S W Map)) (r : Rule S W Map) (x : X) → slice_get rs k ≡ Some r → IsIn x (f (n + k) r) → IsIn x (by_rule f n rs)
  in_rule n k [] r x e here = cc
  in_rule n zero (q ∷ rs) r x e here =
      let same : q ≡ r = same_Some q r e in
      let P : ℕ → Type 0 = λ m. IsIn x (f m r) in
      let Q : Rule S W Map → Type 0 = λ u. IsIn x (f n u) in
      let h : n + 0 ≡ n = omega arith in
      in_left x (f n q) (by_rule f (suc n) rs) (subst Q (sym same) (subst P h here))
  in_rule n (suc k) (q ∷ rs) r x e here =
      let P : ℕ → Type 0 = λ m. IsIn x (f m r) in
      let h : n + suc k ≡ suc n + k = omega arith in
      in_right x (f n q) (by_rule f (suc n) rs) (in_rule (suc n) k rs r x e (subst P h here))

  from_rule : (n : ℕ) (rs : List (Rule S W Map)) (x : X) → IsIn x (by_rule f n rs) → IsOfRule f n rs x
  from_rule n [] x h = absurd h
  from_rule n (r ∷ rs) x h = elim (in_append x (f n r) (by_rule f (suc n) rs) h) [
    | inl here ↦ let P : ℕ → Type 0 = λ m. IsIn x (f m r) in let e : n ≡ n + 0 = omega arith in record { number = 0; by = r; there = refl; is = subst P e here }
    | inr more ↦
        let rest = from_rule (suc n) rs x more in
        let P : ℕ → Type 0 = λ m. IsIn x (f m rest.by) in
        let e : suc n + rest.number ≡ n + suc rest.number = omega arith in
        record { number = suc rest.number; by = rest.by; there = rest.there; is = subst P e rest.is }
  ]

  pub in_rules : (k : ℕ) (rs : List (Rule S W Map)) (r : Rule S W Map) (x : X) → slice_get rs k ≡ Some r → IsIn x (f k r) → IsIn x (by_rule f 0 rs)
  in_rules k rs r x there here = let P : ℕ → Type 0 = λ m. IsIn x (f m r) in let e : k ≡ 0 + k = omega arith in in_rule 0 k rs r x there (subst P e here)

  pub from_rules : (rs : List (Rule S W Map)) (x : X) → IsIn x (by_rule f 0 rs) → IsByRule f rs x
  from_rules rs x h =
      let one = from_rule 0 rs x h in
      let P : ℕ → Type 0 = λ m. IsIn x (f m one.by) in
      let e : 0 + one.number ≡ one.number = omega arith in
      record { number = one.number; by = one.by; there = one.there; is = subst P e one.is }

pub once_append : {X : Type 0} (xs ys : List X) → IsOnce xs → IsOnce ys → ((x : X) → IsIn x xs → IsIn x ys → ⊥) → IsOnce (xs ++ ys)
once_append [] ys _ once _ = once
once_append (x ∷ xs) ys here once apart = (
  λ h. elim (in_append x xs ys h) [ inl g ↦ here.0 g | inr g ↦ apart x (inl refl) g ],
  once_append xs ys here.1 once (λ y h g. apart y (inr h) g),
)

pub once_only : {X : Type 0} (test : Bool) (x : X) → IsOnce (only_if test x)
once_only test x = cond_both test (x ∷ []) [] IsOnce (λ _. (λ h. h, tt)) (λ _. tt)

-- lists with nothing in common, one after the other
pub once_flat_map : {X Y : Type 0} (f : X → List Y) (Of : Y → X → Type 0) → ((x : X) (y : Y) → IsIn y (f x) → Of y x) → ((y : Y) (x z : X) → Of y x → Of y z → x ≡ z) → ((x : X) → IsOnce (f x))
    → (xs : List X) → IsOnce xs → IsOnce (flat_map f xs)
once_flat_map f Of of same each [] _ = tt
once_flat_map f Of of same each (x ∷ xs) once =
    once_append (f x) (flat_map f xs) (each x) (once_flat_map f Of of same each xs once.1) (λ y h g.
    let other = from_flat_map f y xs g in
    let P : _ → Type 0 = λ z. IsIn z xs in
    once.0 (subst P (sym (same y x other.before (of x y h) (of other.before y other.is))) other.there))

module _ {S W Map X : Type 0} (f : ℕ → Rule S W Map → List X) (number : X → Option ℕ) (numbered : (k : ℕ) (r : Rule S W Map) (x : X) → IsIn x (f k r) → number x ≡ Some k)
    (each : (k : ℕ) (r : Rule S W Map) → IsOnce (f k r)) where
  from_number : (n : ℕ) (rs : List (Rule S W Map)) (x : X) → IsIn x (by_rule f n rs) → (k : ℕ) × (n ≤ k) × (number x ≡ Some k)
  from_number n [] x h = absurd h
  from_number n (r ∷ rs) x h = elim (in_append x (f n r) (by_rule f (suc n) rs) h) [
    | inl here ↦ (n, omega arith, numbered n r x here)
    | inr more ↦ let rest = from_number (suc n) rs x more in let far = rest.1 in (rest.0, omega (arith, far), rest.2)
  ]

  pub once_by_rule : (n : ℕ) (rs : List (Rule S W Map)) → IsOnce (by_rule f n rs)
  once_by_rule n [] = tt
  once_by_rule n (r ∷ rs) = once_append (f n r) (by_rule f (suc n) rs) (each n r) (once_by_rule (suc n) rs) (λ x h g.
      let later = from_number (suc n) rs x g in
      let same : n ≡ later.0 = same_Some n later.0 (sym (numbered n r x h) ∙ later.2) in
      let far = later.1 in absurd (omega (arith, same, far)))

module _ {S W Map X : Type 0} (f : ℕ → Rule S W Map → List X) (P : X → Type 0) (each : (k : ℕ) (r : Rule S W Map) (x : X) → IsIn x (f k r) → P x) where
  pub all_rules : (n : ℕ) (rs : List (Rule S W Map)) (x : X) → IsIn x (by_rule f n rs) → P x
  all_rules n [] x h = absurd h
  all_rules n (r ∷ rs) x h = elim (in_append x (f n r) (by_rule f (suc n) rs) h) [ inl here ↦ each n r x here | inr more ↦ all_rules (suc n) rs x more ]
