-- Assignments and assumptions as pairs.
use Rattle.std.proofs.Common.{◌≡◌, ℕ, zero, suc, ◌<◌, Bool, true, false, ◌&&◌, ◌||◌, List, [], ◌∷◌, ◌++◌, refl, sym, ap, ◌∙◌, subst, inl, inr}
use Rattle.std.specs.Prelude.{IsTrue, nat_eq, Option, Some, slice_get}
use Rattle.std.proofs.lemmas.Bool.{cases_Bool, cond-true, cond-false, eqb-true, eq-eqb, and_parts, and_from, or_right}
use Rattle.std.proofs.lemmas.Option.{same_Some}
use Rattle.truth_tables.specs.Formulas.{Formula}
use Rattle.diagram_ops.specs.Quantifying.{is_listed}
use Rattle.relation_laws.specs.States.{same_bit}
use Rattle.relation_laws.specs.Relations.{Pairs, identity}
use Rattle.relation_laws.proofs.CallerLemmas.{same_truth, each_same, each_gives, each_from}
use Rattle.relation_weights.specs.Actions.{frame_pairs, allows, becomes, assigned, numbers, IsValueOver, AreTargets}

-- a number and what it becomes
abbrev Target : Type 0
Target = ℕ × Option (Formula ℕ)

-- nothing is freed
pub frame_none : (n : ℕ) (x y : ℕ → Bool) → frame_pairs n [] x y ≡ identity n x y
frame_none n x y = each_same n (λ k. is_listed [] k || same_bit (x k) (y k)) (λ k. same_bit (x k) (y k)) (λ k below. refl)

and_true : (a : Bool) → (a && true) ≡ a
and_true true = refl
and_true false = refl

and_assoc : (a b c : Bool) → ((a && b) && c) ≡ (a && (b && c))
and_assoc true b c = refl
and_assoc false b c = refl

-- each target of a list has become what it may
abbrev pub all_become : List Target → Pairs
all_become [] x y = true
all_become (t ∷ ts) x y = allows t.1 x (y t.0) && all_become ts x y

all_become_push : (ts : List Target) (t : Target) (x y : ℕ → Bool) → all_become (ts ++ t ∷ []) x y ≡ (all_become ts x y && allows t.1 x (y t.0))
all_become_push [] t x y = and_true (allows t.1 x (y t.0))
all_become_push (s ∷ ts) t x y = ap (λ b. allows s.1 x (y s.0) && b) (all_become_push ts t x y) ∙ sym (and_assoc (allows s.1 x (y s.0)) (all_become ts x y) (allows t.1 x (y t.0)))

pub become_next : (f : Bool) (ts : List Target) (t : Target) (x y : ℕ → Bool) → ((f && all_become ts x y) && allows t.1 x (y t.0)) ≡ (f && all_become (ts ++ t ∷ []) x y)
become_next f ts t x y = and_assoc f (all_become ts x y) (allows t.1 x (y t.0)) ∙ ap (λ b. f && b) (sym (all_become_push ts t x y))

pub become_none : (f : Bool) (x y : ℕ → Bool) → f ≡ (f && all_become [] x y)
become_none f x y = sym (and_true f)

-- one target of a list
pub target_at : (n : ℕ) (ts : List Target) → AreTargets n ts → (k : ℕ) (t : Target) → slice_get ts k ≡ Some t → (t.0 < n) × IsValueOver n t.1
target_at n [] all k t e = cc
target_at n (s ∷ ts) all zero t e =
    let P : Target → Type 0 = λ u. (u.0 < n) × IsValueOver n u.1 in
    subst P (same_Some s t e) (all.0, all.1)
target_at n (s ∷ ts) all (suc k) t e = target_at n ts all.3 k t e

becomes_head : (t : Target) (ts : List Target) (k : ℕ) (x : ℕ → Bool) (b : Bool) → nat_eq t.0 k ≡ true → becomes (t ∷ ts) k x b ≡ allows t.1 x b
becomes_head t ts k x b e = cond-true (nat_eq t.0 k) (allows t.1 x b) (becomes ts k x b) e

becomes_rest : (t : Target) (ts : List Target) (k : ℕ) (x : ℕ → Bool) (b : Bool) → nat_eq t.0 k ≡ false → becomes (t ∷ ts) k x b ≡ becomes ts k x b
becomes_rest t ts k x b e = cond-false (nat_eq t.0 k) (allows t.1 x b) (becomes ts k x b) e

becomes_of : (ts : List Target) (x y : ℕ → Bool) → IsTrue (all_become ts x y) → (k : ℕ) → IsTrue (is_listed (numbers ts) k || same_bit (x k) (y k)) → IsTrue (becomes ts k x (y k))
becomes_of [] x y all k h = h
becomes_of (t ∷ ts) x y all k h =
    let parts = and_parts (allows t.1 x (y t.0)) (all_become ts x y) all in
    elim (cases_Bool (nat_eq t.0 k)) [
      | inl is ↦ becomes_head t ts k x (y k) is ∙ ap (λ i. allows t.1 x (y i)) (sym (eqb-true t.0 k is)) ∙ parts.0
      | inr apart ↦
          becomes_rest t ts k x (y k) apart
          ∙ becomes_of ts x y parts.1 k (sym (ap (λ b. (b || is_listed (numbers ts) k) || same_bit (x k) (y k)) apart) ∙ h)
    ]

listed_of : (ts : List Target) (x y : ℕ → Bool) (k : ℕ) → IsTrue (becomes ts k x (y k)) → IsTrue (is_listed (numbers ts) k || same_bit (x k) (y k))
listed_of [] x y k h = h
listed_of (t ∷ ts) x y k h = elim (cases_Bool (nat_eq t.0 k)) [
  | inl is ↦ ap (λ b. (b || is_listed (numbers ts) k) || same_bit (x k) (y k)) is
  | inr apart ↦ ap (λ b. (b || is_listed (numbers ts) k) || same_bit (x k) (y k)) apart ∙ listed_of ts x y k (sym (becomes_rest t ts k x (y k) apart) ∙ h)
]

-- it has, if each listed number has
all_of : (n : ℕ) (ts : List Target) (x y : ℕ → Bool) → AreTargets n ts → ((k : ℕ) → k < n → is_listed (numbers ts) k ≡ true → IsTrue (becomes ts k x (y k))) → IsTrue (all_become ts x y)
all_of n [] x y all h = refl
all_of n (t ∷ ts) x y all h =
    let itself : nat_eq t.0 t.0 ≡ true = eq-eqb t.0 t.0 refl in
    and_from (allows t.1 x (y t.0)) (all_become ts x y)
    (sym (becomes_head t ts t.0 x (y t.0) itself) ∙ h t.0 all.0 (ap (λ b. b || is_listed (numbers ts) t.0) itself))
    (all_of n ts x y all.3 (λ k below listed. elim (cases_Bool (nat_eq t.0 k)) [
      | inl is ↦ let f : true ≡ false = sym listed ∙ ap (is_listed (numbers ts)) (sym (eqb-true t.0 k is)) ∙ all.2 in cc
      | inr apart ↦ sym (becomes_rest t ts k x (y k) apart) ∙ h k below (or_right (nat_eq t.0 k) (is_listed (numbers ts) k) listed)
    ]))

pub assigned_is : (n : ℕ) (ts : List Target) → AreTargets n ts → (x y : ℕ → Bool) → (frame_pairs n (numbers ts) x y && all_become ts x y) ≡ assigned n ts x y
assigned_is n ts all x y = same_truth (frame_pairs n (numbers ts) x y && all_become ts x y) (assigned n ts x y)
    (λ h.
    let parts = and_parts (frame_pairs n (numbers ts) x y) (all_become ts x y) h in
    each_from n (λ k. becomes ts k x (y k)) (λ k below. becomes_of ts x y parts.1 k (each_gives n (λ i. is_listed (numbers ts) i || same_bit (x i) (y i)) parts.0 k below)))
    (λ h.
    let each = each_gives n (λ i. becomes ts i x (y i)) h in
    and_from (frame_pairs n (numbers ts) x y) (all_become ts x y)
    (each_from n (λ i. is_listed (numbers ts) i || same_bit (x i) (y i)) (λ k below. listed_of ts x y k (each k below)))
    (all_of n ts x y all (λ k below listed. each k below)))
