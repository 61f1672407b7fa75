-- What weights say of values, by forms without sources in place of what is known.
use Rattle.std.proofs.Common.{◌≡◌, ◌≢◌, ℕ, zero, suc, ◌<◌, ◌≤◌, ◌^◌, ℤ, Bool, true, false, refl, sym, ap, ap₂, subst, ◌∙◌, inl, inr, arith}
use Rattle.std.specs.Prelude.{◌⊎◌, IsTrue, Option, None, Some, nat_eq, cond}
use Rattle.std.specs.Ordering.{int_eq}
use Rattle.std.proofs.lemmas.Option.{same_Some}
use Rattle.std.proofs.lemmas.Bool.{cases_Bool, cases_eq, cond-true, cond-false, false_from_ne_true, ltb-true, eqb-true, eq-eqb}
use Rattle.semiring_laws.specs.Semiring.{Fits}
use Rattle.copy_weights.specs.declared.form.Form.{Form}
use Rattle.copy_weights.specs.declared.form.Form.TheVariants.{Varying, Meet}
use Rattle.copy_weights.specs.declared.form.CopyW.{CopyW}
use Rattle.copy_weights.specs.declared.form.CopyW.TheVariants.{Zero, Map}
use Rattle.copy_weights.specs.declared.form.CopyMap.TheVariants.{Restore}
use Rattle.copy_weights.specs.Forms.{joined, with_constant, meet, undefined, itself, has, meet_over, put, form, form_fits}
use Rattle.copy_weights.specs.CopyConst.{copy_operations}
use Rattle.copy_weights.specs.Values.{Known, either, constant, one_of, value, values, IsPart, IsKnownOf}
use Rattle.copy_weights.specs.Values.Known.{Undefined, Number, Varies}
use Rattle.copy_weights.specs.private.SetLaws.{sets_same_below}
use Rattle.copy_weights.specs.private.FormLaws.{int_itself, int_apart, int_cases, joined_equal, joined_apart, constants_meet, undefined_meet, meet_undefined, choice, meet_over_step, put_meet, put_put, put_same, put_undefined, put_constant, put_of_itself}
use Rattle.copy_weights.specs.CopyLaws.{form_tabulate, count, each_fits, forms_alike}

-- ---- what is known, as a form without sources

as_form : Known → Form
as_form Undefined = undefined
as_form (Number x) = Meet (Some x) 0
as_form Varies = Varying

known_of : Form → Known
known_of Varying = Varies
known_of (Meet None s) = Undefined
known_of (Meet (Some x) s) = Number x

back : (v : Known) → known_of (as_form v) ≡ v
unfolding known_of as_form
back Undefined = refl
back (Number x) = refl
back Varies = refl

same_known : (u v : Known) → as_form u ≡ as_form v → u ≡ v
same_known u v e = sym (back u) ∙ ap known_of e ∙ back v

numbers_either : (x y : ℤ) → as_form (either (Number x) (Number y)) ≡ with_constant 0 (joined (Some x) (Some y))
unfolding as_form
numbers_either x y = elim (int_cases x y) [
  | inl is ↦ ap as_form (cond-true (int_eq x y) (Number x) Varies (int_itself x y is)) ∙ ap (with_constant 0) (sym (joined_equal x y is))
  | inr apart ↦ ap as_form (cond-false (int_eq x y) (Number x) Varies (int_apart x y apart)) ∙ ap (with_constant 0) (sym (joined_apart x y apart))
]

as_form-either : (u v : Known) → as_form (either u v) ≡ meet (as_form u) (as_form v)
unfolding as_form
as_form-either Undefined v = sym (undefined_meet (as_form v))
as_form-either (Number x) Undefined = sym (meet_undefined (Meet (Some x) 0))
as_form-either (Number x) (Number y) = numbers_either x y ∙ sym (constants_meet (Some x) (Some y))
as_form-either (Number x) Varies = refl
as_form-either Varies v = refl

as_form-choice : (b : Bool) (u v : Known) → as_form (cond b (either u v) v) ≡ choice b (as_form u) (as_form v)
unfolding choice
as_form-choice true u v = as_form-either u v
as_form-choice false u v = refl

as_form-constant : (c : Option ℤ) → as_form (constant c) ≡ Meet c 0
unfolding as_form
as_form-constant None = refl
as_form-constant (Some x) = refl

as_form-one_of : (k s : ℕ) (old : ℕ → Known) → as_form (one_of k s old) ≡ meet_over k (λ i. as_form (old i)) s
unfolding one_of meet_over as_form
as_form-one_of zero s old = refl
as_form-one_of (suc k) s old =
    as_form-choice (has s k) (old k) (one_of k s old)
    ∙ ap (choice (has s k) (as_form (old k))) (as_form-one_of k s old)
    ∙ sym (meet_over_step k (λ i. as_form (old i)) s)

as_form-value : (n : ℕ) (f : Form) (old : ℕ → Known) → as_form (value n f old) ≡ put n (λ i. as_form (old i)) f
unfolding as_form
as_form-value n Varying old = refl
as_form-value n (Meet c s) old = as_form-either (constant c) (one_of n s old) ∙ ap₂ meet (as_form-constant c) (as_form-one_of n s old)

-- ---- forms

pub value_undefined : (n : ℕ) (old : ℕ → Known) → value n undefined old ≡ Undefined
unfolding as_form
value_undefined n old = same_known (value n undefined old) Undefined (as_form-value n undefined old ∙ put_undefined n (λ i. as_form (old i)))

pub value_constant : (n : ℕ) (c : ℤ) (old : ℕ → Known) → value n (Meet (Some c) 0) old ≡ Number c
unfolding as_form
value_constant n c old = same_known (value n (Meet (Some c) 0) old) (Number c) (as_form-value n (Meet (Some c) 0) old ∙ put_constant n (λ i. as_form (old i)) (Some c))

pub value_copy : (n k : ℕ) (old : ℕ → Known) → k < n → value n (itself k) old ≡ old k
value_copy n k old below = same_known (value n (itself k) old) (old k) (as_form-value n (itself k) old ∙ put_of_itself n (λ i. as_form (old i)) k below)

pub value_meet : (n : ℕ) (f g : Form) (old : ℕ → Known) → value n (meet f g) old ≡ either (value n f old) (value n g old)
value_meet n f g old =
    same_known (value n (meet f g) old) (either (value n f old) (value n g old))
    (as_form-value n (meet f g) old
    ∙ put_meet n (λ i. as_form (old i)) f g
    ∙ sym (as_form-either (value n f old) (value n g old) ∙ ap₂ meet (as_form-value n f old) (as_form-value n g old)))

value_put : (n : ℕ) (f : ℕ → Form) (g : Form) (old : ℕ → Known) → value n (put n f g) old ≡ value n g (λ k. value n (f k) old)
value_put n f g old =
    same_known (value n (put n f g) old) (value n g (λ k. value n (f k) old))
    (as_form-value n (put n f g) old
    ∙ sym (put_put n (λ i. as_form (old i)) f g)
    ∙ sym (as_form-value n g (λ k. value n (f k) old)
    ∙ put_same n (λ i. as_form (value n (f i) old)) (λ i. put n (λ j. as_form (old j)) (f i)) g (λ k below. as_form-value n (f k) old)))

-- ---- forms over numbers

known_same : (P Q : ℤ → Type 0) (v : Known) → ((x : ℤ) → P x → Q x) → ((x : ℤ) → Q x → P x) → IsKnownOf v P → IsKnownOf v Q
known_same P Q Undefined there back known = λ x q. known x (back x q)
known_same P Q (Number x) there back known = (there x known.0, λ y q. known.1 y (back y q))
known_same P Q Varies there back (x, y, p, q, apart) = (x, y, there x p, there y q, apart)

known_either : (P Q : ℤ → Type 0) (u v : Known) → IsKnownOf u P → IsKnownOf v Q → IsKnownOf (either u v) (λ x. P x ⊎ Q x)
known_either P Q Undefined v hu hv =
    known_same Q (λ x. P x ⊎ Q x) v (λ x q. inr q) (λ x h. elim h [ inl p ↦ absurd (hu x p) | inr q ↦ q ]) hv
known_either P Q (Number x) Undefined hu hv = (inl hu.0, λ y h. elim h [ inl p ↦ hu.1 y p | inr q ↦ absurd (hv y q) ])
known_either P Q (Number x) (Number y) hu hv = elim (int_cases x y) [
  | inl is ↦
      let R : Known → Type 0 = λ v. IsKnownOf v (λ z. P z ⊎ Q z) in
      subst R (sym (cond-true (int_eq x y) (Number x) Varies (int_itself x y is)))
      (inl hu.0, λ z h. elim h [ inl p ↦ hu.1 z p | inr q ↦ hv.1 z q ∙ sym is ])
  | inr apart ↦
      let R : Known → Type 0 = λ v. IsKnownOf v (λ z. P z ⊎ Q z) in
      subst R (sym (cond-false (int_eq x y) (Number x) Varies (int_apart x y apart))) (x, y, inl hu.0, inr hv.0, apart)
]
known_either P Q (Number x) Varies hu (y, z, p, q, apart) = (y, z, inr p, inr q, apart)
known_either P Q Varies v (y, z, p, q, apart) hv = (y, z, inl p, inl q, apart)

-- the old numbers of a set's members below k
Among : ℕ → ℕ → (ℕ → ℤ) → ℤ → Type 0
Among k s old x = (i : ℕ) × (i < k) × (has s i ≡ true) × (old i ≡ x)

known_one_of : (k s : ℕ) (old : ℕ → ℤ) → IsKnownOf (one_of k s (λ i. Number (old i))) (Among k s old)
unfolding one_of Among
known_one_of zero s old = λ x p. absurd (omega (arith, p.1))
known_one_of (suc k) s old =
    let rest = known_one_of k s old in
    elim (cases_Bool (has s k)) [
      | inl is ↦
          let R : Known → Type 0 = λ v. IsKnownOf v (Among (suc k) s old) in
          subst R (sym (cond-true (has s k) (either (Number (old k)) (one_of k s (λ i. Number (old i)))) (one_of k s (λ i. Number (old i))) is))
          (known_same (λ x. (old k ≡ x) ⊎ Among k s old x) (Among (suc k) s old) (either (Number (old k)) (one_of k s (λ i. Number (old i))))
          (λ x h. elim h [ inl here ↦ (k, omega arith, is, here) | inr p ↦ (p.0, omega (arith, p.1), p.2, p.3) ])
          (λ x p. elim (cases_eq p.0 k) [
            | inl last ↦ inl (ap old (sym last) ∙ p.3)
            | inr earlier ↦ inr (p.0, omega (arith, p.1, earlier), p.2, p.3)
          ])
          (known_either (λ x. old k ≡ x) (Among k s old) (Number (old k)) (one_of k s (λ i. Number (old i))) (refl, λ y e. sym e) rest))
      | inr apart ↦
          let R : Known → Type 0 = λ v. IsKnownOf v (Among (suc k) s old) in
          subst R (sym (cond-false (has s k) (either (Number (old k)) (one_of k s (λ i. Number (old i)))) (one_of k s (λ i. Number (old i))) apart))
          (known_same (Among k s old) (Among (suc k) s old) (one_of k s (λ i. Number (old i)))
          (λ x p. (p.0, omega (arith, p.1), p.2, p.3))
          (λ x p. elim (cases_eq p.0 k) [
            | inl last ↦ (let f : true ≡ false = sym p.2 ∙ ap (has s) last ∙ apart in cc)
            | inr earlier ↦ (p.0, omega (arith, p.1, earlier), p.2, p.3)
          ])
          rest)
    ]

known_constant : (c : Option ℤ) → IsKnownOf (constant c) (λ x. c ≡ Some x)
known_constant None = λ x e. cc
known_constant (Some x) = (refl, λ y e. sym (same_Some x y e))

pub known_of_parts : (n s : ℕ) (c : Option ℤ) (old : ℕ → ℤ) → IsKnownOf (value n (Meet c s) (λ k. Number (old k))) (IsPart n c s old)
unfolding Among
known_of_parts n s c old = known_either (λ x. c ≡ Some x) (Among n s old) (constant c) (one_of n s (λ k. Number (old k))) (known_constant c) (known_one_of n s old)

-- ---- weights

pub values_one : (n : ℕ) (old : ℕ → Known) (k : ℕ) → k < n → values n (copy_operations n).one old k ≡ old k
values_one n old k below = ap (λ f. value n f old) (form_tabulate n itself k below) ∙ value_copy n k old below

either_undefined : (v : Known) → either v Undefined ≡ v
either_undefined Undefined = refl
either_undefined (Number x) = refl
either_undefined Varies = refl

pub values_combine : (n : ℕ) (a b : CopyW) (old : ℕ → Known) (k : ℕ) → k < n → values n ((copy_operations n).combine a b) old k ≡ either (values n a old k) (values n b old k)
values_combine n Zero b old k below = refl
values_combine n (Map fs) Zero old k below = sym (either_undefined (value n (form fs k) old))
values_combine n (Map fs) (Map gs) old k below =
    ap (λ f. value n f old) (form_tabulate n (λ i. meet (form fs i) (form gs i)) k below) ∙ value_meet n (form fs k) (form gs k) old

pub values_extend : (n : ℕ) (a b : CopyW) (old : ℕ → Known) (k : ℕ) → k < n → a ≢ Zero → values n ((copy_operations n).extend a b) old k ≡ values n b (values n a old) k
values_extend n Zero b old k below some = absurd (some refl)
values_extend n (Map fs) Zero old k below some = refl
values_extend n (Map fs) (Map gs) old k below some =
    ap (λ f. value n f old) (form_tabulate n (λ i. put n (form fs) (form gs i)) k below) ∙ value_put n (form fs) (form gs k) old

value_cond : (n : ℕ) (b : Bool) (f g : Form) (old : ℕ → Known) → value n (cond b f g) old ≡ cond b (value n f old) (value n g old)
value_cond n true f g old = refl
value_cond n false f g old = refl

pub values_restore : (n vars : ℕ) (a : CopyW) (old : ℕ → Known) (k : ℕ) → k < n → a ≢ Zero → values n ((copy_operations n).after (Restore vars) a) old k ≡ cond (has vars k) (old k) (values n a old k)
values_restore n vars Zero old k below some = absurd (some refl)
values_restore n vars (Map fs) old k below some =
    ap (λ f. value n f old) (form_tabulate n (λ i. cond (has vars i) (itself i) (form fs i)) k below)
    ∙ value_cond n (has vars k) (itself k) (form fs k) old
    ∙ ap (λ v. cond (has vars k) v (value n (form fs k) old)) (value_copy n k old below)

-- ---- forms that say the same are equal

nothing : ℕ → Known
nothing k = Undefined

-- variable i alone is defined, and varies
alone : ℕ → ℕ → Known
alone i k = cond (nat_eq k i) Varies Undefined

alone_same : (i k : ℕ) → k ≡ i → alone i k ≡ Varies
unfolding alone
alone_same i k e = cond-true (nat_eq k i) Varies Undefined (eq-eqb k i e)

alone_other : (i k : ℕ) → (k ≡ i → ⊥) → alone i k ≡ Undefined
unfolding alone
alone_other i k h = cond-false (nat_eq k i) Varies Undefined (false_from_ne_true (nat_eq k i) (λ e. h (eqb-true k i e)))

added : Bool → Known → Known → Known
added b u v = cond b (either u v) v

one_of_step : (k s : ℕ) (old : ℕ → Known) → one_of (suc k) s old ≡ added (has s k) (old k) (one_of k s old)
unfolding one_of added
one_of_step k s old = refl

added_undefined : (b : Bool) (v : Known) → added b Undefined v ≡ v
unfolding added
added_undefined true v = refl
added_undefined false v = refl

added_varies : (b : Bool) → added b Varies Undefined ≡ cond b Varies Undefined
unfolding added
added_varies true = refl
added_varies false = refl

one_of_nothing : (k s : ℕ) → one_of k s nothing ≡ Undefined
unfolding one_of nothing
one_of_nothing zero s = refl
one_of_nothing (suc k) s = one_of_step k s nothing ∙ added_undefined (has s k) (one_of k s nothing) ∙ one_of_nothing k s

one_of_past : (k s i : ℕ) → k ≤ i → one_of k s (alone i) ≡ Undefined
unfolding one_of
one_of_past zero s i past = refl
one_of_past (suc k) s i past =
    one_of_step k s (alone i)
    ∙ ap₂ (added (has s k)) (alone_other i k (λ e. absurd (omega arith))) (one_of_past k s i (omega arith))
    ∙ added_undefined (has s k) Undefined

one_of_alone : (k s i : ℕ) → i < k → one_of k s (alone i) ≡ cond (has s i) Varies Undefined
unfolding one_of
one_of_alone zero s i below = absurd (omega arith)
one_of_alone (suc k) s i below = one_of_step k s (alone i) ∙ elim (cases_eq k i) [
  | inl is ↦
      ap₂ (added (has s k)) (alone_same i k is) (one_of_past k s i (omega arith))
      ∙ added_varies (has s k) ∙ ap (λ j. cond (has s j) Varies Undefined) is
  | inr apart ↦
      ap (λ v. added (has s k) v (one_of k s (alone i))) (alone_other i k apart)
      ∙ added_undefined (has s k) (one_of k s (alone i)) ∙ one_of_alone k s i (omega arith)
]

value_nothing : (n s : ℕ) (c : Option ℤ) → value n (Meet c s) nothing ≡ constant c
value_nothing n s c = ap (either (constant c)) (one_of_nothing n s) ∙ either_undefined (constant c)

constant_of : Known → Option ℤ
constant_of Undefined = None
constant_of (Number x) = Some x
constant_of Varies = None

constant_back : (c : Option ℤ) → constant_of (constant c) ≡ c
unfolding constant_of
constant_back None = refl
constant_back (Some x) = refl

same_constants : (c d : Option ℤ) → constant c ≡ constant d → c ≡ d
same_constants c d e = sym (constant_back c) ∙ ap constant_of e ∙ constant_back d

varies : Known → Bool
varies Undefined = false
varies (Number x) = false
varies Varies = true

constant_is_one : (c : Option ℤ) → varies (constant c) ≡ false
unfolding varies
constant_is_one None = refl
constant_is_one (Some x) = refl

varies_alone : (c : Option ℤ) (b : Bool) → varies (either (constant c) (cond b Varies Undefined)) ≡ b
unfolding varies
varies_alone None true = refl
varies_alone None false = refl
varies_alone (Some x) true = refl
varies_alone (Some x) false = refl

value_alone : (n s i : ℕ) (c : Option ℤ) → i < n → varies (value n (Meet c s) (alone i)) ≡ has s i
value_alone n s i c below = ap (λ v. varies (either (constant c) v)) (one_of_alone n s i below) ∙ varies_alone c (has s i)

varies_itself : varies Varies ≡ true
unfolding varies
varies_itself = refl

no_constant_varies : (c : Option ℤ) → Varies ≡ constant c → ⊥
no_constant_varies c e = let t : true ≡ false = sym varies_itself ∙ ap varies e ∙ constant_is_one c in cc

same_forms : (n : ℕ) (f g : Form) → IsTrue (form_fits n f) → IsTrue (form_fits n g) → ((old : ℕ → Known) → value n f old ≡ value n g old) → f ≡ g
same_forms n Varying Varying hf hg same = refl
same_forms n Varying (Meet d t) hf hg same = absurd (no_constant_varies d (same nothing ∙ value_nothing n t d))
same_forms n (Meet c s) Varying hf hg same = absurd (no_constant_varies c (sym (same nothing) ∙ value_nothing n s c))
same_forms n (Meet c s) (Meet d t) hf hg same =
    ap₂ (λ e u. Meet e u)
    (same_constants c d (sym (value_nothing n s c) ∙ same nothing ∙ value_nothing n t d))
    (sets_same_below n s t (ltb-true s (2 ^ n) hf) (ltb-true t (2 ^ n) hg)
    (λ i below. sym (value_alone n s i c below) ∙ ap varies (same (alone i)) ∙ value_alone n t i d below))

pub values_equal : (n : ℕ) (a b : CopyW) → Fits (copy_operations n) a → Fits (copy_operations n) b → a ≢ Zero → b ≢ Zero → ((old : ℕ → Known) (k : ℕ) → k < n → values n a old k ≡ values n b old k) → a ≡ b
values_equal n Zero b fa fb some other same = absurd (some refl)
values_equal n (Map fs) Zero fa fb some other same = absurd (other refl)
values_equal n (Map fs) (Map gs) fa fb some other same =
    ap Map (forms_alike n fs gs (count n fs fa) (count n gs fb) (λ i below.
    same_forms n (form fs i) (form gs i) (each_fits n fs fa i below) (each_fits n gs fb i below) (λ old. same old i below)))
