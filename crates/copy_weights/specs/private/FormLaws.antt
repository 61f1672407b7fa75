-- Meets and substitution of forms.
use Rattle.std.proofs.Common.{◌≡◌, ℕ, zero, suc, ◌+◌, ◌^◌, ◌<◌, ◌≤◌, ℤ, Bool, true, false, ◌||◌, refl, sym, ap, ap₂, ◌∙◌, inl, inr, pow_pos, arith}
use Rattle.std.specs.Prelude.{IsTrue, Option, None, Some, ◌↔◌, ◌⊎◌, nat_eq, cond, bit_or, option_and_then}
use Rattle.std.specs.Ordering.{int_eq}
use Rattle.std.proofs.lemmas.Bool.Decides.{Decides-int_eq}
use Rattle.std.proofs.lemmas.Bool.{cases_Bool, cases_eq, cond-true, cond-false, and_parts, and_from, ltb-true, lt-ltb, eqb-true, eq-eqb, false_from_ne_true}
use Rattle.std.proofs.lemmas.Option.{same_Some}
use Rattle.copy_weights.specs.declared.form.Form.{Form}
use Rattle.copy_weights.specs.declared.form.Form.TheVariants.{Varying, Meet}
use Rattle.copy_weights.specs.Forms.{joined, with_constant, meet, undefined, itself, has, meet_over, put, form_fits, set_below}
use Rattle.copy_weights.specs.CopyConst.{absent, form_rank, same_constant, same_form}
use Rattle.copy_weights.specs.private.SetLaws.{has_or, has_zero, has_pow_same, has_pow_other, set_or_comm, set_or_assoc, set_or_same, set_or_none, set_none_or, set_or_below, set_below_members, absent_within, absent_at_most, union_same}

-- ---- constants

int_same : (x y : ℤ) → int_eq x y ≡ true → x ≡ y
int_same x y e = (Decides-int_eq x y).0 e

pub int_itself : (x y : ℤ) → x ≡ y → int_eq x y ≡ true
int_itself x y e = (Decides-int_eq x y).1 e

pub int_apart : (x y : ℤ) → (x ≡ y → ⊥) → int_eq x y ≡ false
int_apart x y h = false_from_ne_true (int_eq x y) (λ e. h (int_same x y e))

pub joined_equal : (x y : ℤ) → x ≡ y → joined (Some x) (Some y) ≡ Some (Some x)
joined_equal x y e = cond-true (int_eq x y) (Some (Some x)) None (int_itself x y e)

pub joined_apart : (x y : ℤ) → (x ≡ y → ⊥) → joined (Some x) (Some y) ≡ None
joined_apart x y h = cond-false (int_eq x y) (Some (Some x)) None (int_apart x y h)

pub int_cases : (x y : ℤ) → (x ≡ y) ⊎ (x ≡ y → ⊥)
int_cases x y = elim (cases_Bool (int_eq x y)) [
  | inl is ↦ inl (int_same x y is)
  | inr apart ↦ inr (λ e. let f : true ≡ false = sym (int_itself x y e) ∙ apart in cc)
]

joined_comm : (c d : Option ℤ) → joined c d ≡ joined d c
joined_comm None None = refl
joined_comm None (Some y) = refl
joined_comm (Some x) None = refl
joined_comm (Some x) (Some y) = elim (int_cases x y) [
  | inl is ↦ joined_equal x y is ∙ ap (λ z. Some (Some z)) is ∙ sym (joined_equal y x (sym is))
  | inr apart ↦ joined_apart x y apart ∙ sym (joined_apart y x (λ e. apart (sym e)))
]

joined_same : (c : Option ℤ) → joined c c ≡ Some c
joined_same None = refl
joined_same (Some x) = joined_equal x x refl

and_then_some : (o : Option (Option ℤ)) → option_and_then (λ k. Some k) o ≡ o
and_then_some None = refl
and_then_some (Some k) = refl

joined_none : (c : Option ℤ) → joined c None ≡ Some c
joined_none None = refl
joined_none (Some x) = refl

then_none : (o : Option (Option ℤ)) → option_and_then (λ k. joined k None) o ≡ o
then_none None = refl
then_none (Some k) = joined_none k

joined_assoc : (c d e : Option ℤ) → option_and_then (λ k. joined k e) (joined c d) ≡ option_and_then (λ k. joined c k) (joined d e)
joined_assoc None d e = sym (and_then_some (joined d e))
joined_assoc (Some x) None e = refl
joined_assoc (Some x) (Some y) None = then_none (joined (Some x) (Some y))
joined_assoc (Some x) (Some y) (Some z) = elim (int_cases x y) [
  | inl xy ↦ elim (int_cases y z) [
    | inl yz ↦
        ap (option_and_then (λ k. joined k (Some z))) (joined_equal x y xy) ∙ joined_equal x z (xy ∙ yz)
        ∙ sym (ap (option_and_then (λ k. joined (Some x) k)) (joined_equal y z yz) ∙ joined_equal x y xy)
    | inr apart ↦
        ap (option_and_then (λ k. joined k (Some z))) (joined_equal x y xy) ∙ joined_apart x z (λ e. apart (sym xy ∙ e))
        ∙ sym (ap (option_and_then (λ k. joined (Some x) k)) (joined_apart y z apart))
  ]
  | inr apart ↦
      ap (option_and_then (λ k. joined k (Some z))) (joined_apart x y apart)
      ∙ sym (elim (int_cases y z) [
        | inl yz ↦ ap (option_and_then (λ k. joined (Some x) k)) (joined_equal y z yz) ∙ joined_apart x y apart
        | inr other ↦ ap (option_and_then (λ k. joined (Some x) k)) (joined_apart y z other)
      ])
]

-- ---- meets

pub meet_comm : (f g : Form) → meet f g ≡ meet g f
meet_comm Varying Varying = refl
meet_comm Varying (Meet d t) = refl
meet_comm (Meet c s) Varying = refl
meet_comm (Meet c s) (Meet d t) = ap₂ with_constant (set_or_comm s t) (joined_comm c d)

meet_with_left : (s u : ℕ) (o : Option (Option ℤ)) (e : Option ℤ) → meet (with_constant s o) (Meet e u) ≡ with_constant (bit_or s u) (option_and_then (λ k. joined k e) o)
meet_with_left s u None e = refl
meet_with_left s u (Some k) e = refl

meet_with_right : (s t : ℕ) (c : Option ℤ) (o : Option (Option ℤ)) → meet (Meet c s) (with_constant t o) ≡ with_constant (bit_or s t) (option_and_then (λ k. joined c k) o)
meet_with_right s t c None = refl
meet_with_right s t c (Some k) = refl

pub varying_right : (f : Form) → meet f Varying ≡ Varying
varying_right Varying = refl
varying_right (Meet c s) = refl

pub meet_assoc : (f g h : Form) → meet (meet f g) h ≡ meet f (meet g h)
meet_assoc Varying g h = refl
meet_assoc (Meet c s) Varying h = refl
meet_assoc (Meet c s) (Meet d t) Varying = varying_right (meet (Meet c s) (Meet d t))
meet_assoc (Meet c s) (Meet d t) (Meet e u) =
    meet_with_left (bit_or s t) u (joined c d) e ∙ ap₂ with_constant (set_or_assoc s t u) (joined_assoc c d e) ∙ sym (meet_with_right s (bit_or t u) c (joined d e))

pub meet_same : (f : Form) → meet f f ≡ f
meet_same Varying = refl
meet_same (Meet c s) = ap₂ with_constant (set_or_same s) (joined_same c)

pub meet_undefined : (f : Form) → meet f undefined ≡ f
meet_undefined Varying = refl
meet_undefined (Meet c s) = ap₂ with_constant (set_or_none s) (joined_none c)

pub undefined_meet : (f : Form) → meet undefined f ≡ f
undefined_meet f = meet_comm undefined f ∙ meet_undefined f

-- the meets of two and two
pub meet_pairs : (f g h k : Form) → meet (meet f g) (meet h k) ≡ meet (meet f h) (meet g k)
meet_pairs f g h k =
    meet_assoc f g (meet h k)
    ∙ ap (meet f) (sym (meet_assoc g h k) ∙ ap (λ m. meet m k) (meet_comm g h) ∙ meet_assoc h g k)
    ∙ sym (meet_assoc f h (meet g k))

meet_in_front : (f g h : Form) → meet g (meet f h) ≡ meet f (meet g h)
meet_in_front f g h = sym (meet_assoc g f h) ∙ ap (λ m. meet m h) (meet_comm g f) ∙ meet_assoc f g h

-- ---- meets over a set

unfoldable pub choice : Bool → Form → Form → Form
choice b f g = cond b (meet f g) g

pub meet_over_step : (k : ℕ) (f : ℕ → Form) (s : ℕ) → meet_over (suc k) f s ≡ choice (has s k) (f k) (meet_over k f s)
unfolding meet_over choice
meet_over_step k f s = refl

choice_or : (a b : Bool) (f g h : Form) → choice (a || b) f (meet g h) ≡ meet (choice a f g) (choice b f h)
unfolding choice
choice_or true true f g h = ap (λ m. meet m (meet g h)) (sym (meet_same f)) ∙ meet_pairs f f g h
choice_or true false f g h = sym (meet_assoc f g h)
choice_or false true f g h = meet_in_front g f h
choice_or false false f g h = refl

pub meet_over_or : (n : ℕ) (f : ℕ → Form) (s t : ℕ) → meet_over n f (bit_or s t) ≡ meet (meet_over n f s) (meet_over n f t)
unfolding meet_over
meet_over_or zero f s t = refl
meet_over_or (suc k) f s t =
    meet_over_step k f (bit_or s t)
    ∙ ap₂ (λ b m. choice b (f k) m) (has_or s t k) (meet_over_or k f s t)
    ∙ choice_or (has s k) (has t k) (f k) (meet_over k f s) (meet_over k f t)
    ∙ sym (ap₂ meet (meet_over_step k f s) (meet_over_step k f t))

pub meet_over_none : (n : ℕ) (f : ℕ → Form) → meet_over n f 0 ≡ undefined
unfolding meet_over choice
meet_over_none zero f = refl
meet_over_none (suc k) f = meet_over_step k f 0 ∙ ap₂ (λ b m. choice b (f k) m) (has_zero k) (meet_over_none k f)

choice_meet : (b : Bool) (f g h k : Form) → choice b (meet f g) (meet h k) ≡ meet (choice b f h) (choice b g k)
unfolding choice
choice_meet true f g h k = meet_pairs f g h k
choice_meet false f g h k = refl

meet_over_meet : (n : ℕ) (f g : ℕ → Form) (s : ℕ) → meet_over n (λ k. meet (f k) (g k)) s ≡ meet (meet_over n f s) (meet_over n g s)
unfolding meet_over
meet_over_meet zero f g s = refl
meet_over_meet (suc k) f g s =
    meet_over_step k (λ i. meet (f i) (g i)) s
    ∙ ap (choice (has s k) (meet (f k) (g k))) (meet_over_meet k f g s)
    ∙ choice_meet (has s k) (f k) (g k) (meet_over k f s) (meet_over k g s)
    ∙ sym (ap₂ meet (meet_over_step k f s) (meet_over_step k g s))

pub meet_over_same : (n : ℕ) (f g : ℕ → Form) (s : ℕ) → ((k : ℕ) → k < n → f k ≡ g k) → meet_over n f s ≡ meet_over n g s
unfolding meet_over
meet_over_same zero f g s h = refl
meet_over_same (suc k) f g s h = meet_over_step k f s ∙ ap₂ (choice (has s k)) (h k (omega arith)) (meet_over_same k f g s (λ i b. h i (omega arith))) ∙ sym (meet_over_step k g s)

-- ---- substitution

put_with : (n : ℕ) (f : ℕ → Form) (s : ℕ) (o : Option (Option ℤ)) → put n f (with_constant s o) ≡ meet (with_constant 0 o) (meet_over n f s)
put_with n f s None = refl
put_with n f s (Some c) = refl

pub constants_meet : (c d : Option ℤ) → meet (Meet c 0) (Meet d 0) ≡ with_constant 0 (joined c d)
constants_meet c d = ap (λ s. with_constant s (joined c d)) (set_or_none 0)

pub put_meet : (n : ℕ) (f : ℕ → Form) (g h : Form) → put n f (meet g h) ≡ meet (put n f g) (put n f h)
put_meet n f Varying h = refl
put_meet n f (Meet c s) Varying = sym (varying_right (put n f (Meet c s)))
put_meet n f (Meet c s) (Meet d t) =
    put_with n f (bit_or s t) (joined c d)
    ∙ ap₂ meet (sym (constants_meet c d)) (meet_over_or n f s t)
    ∙ meet_pairs (Meet c 0) (Meet d 0) (meet_over n f s) (meet_over n f t)

pub put_undefined : (n : ℕ) (f : ℕ → Form) → put n f undefined ≡ undefined
put_undefined n f = ap (meet undefined) (meet_over_none n f) ∙ meet_undefined undefined

pub put_constant : (n : ℕ) (f : ℕ → Form) (c : Option ℤ) → put n f (Meet c 0) ≡ Meet c 0
put_constant n f c = ap (meet (Meet c 0)) (meet_over_none n f) ∙ meet_undefined (Meet c 0)

pub put_of_meets : (n : ℕ) (f g : ℕ → Form) (h : Form) → put n (λ k. meet (f k) (g k)) h ≡ meet (put n f h) (put n g h)
put_of_meets n f g Varying = refl
put_of_meets n f g (Meet c s) =
    ap (meet (Meet c 0)) (meet_over_meet n f g s)
    ∙ ap (λ m. meet m (meet (meet_over n f s) (meet_over n g s))) (sym (meet_same (Meet c 0)))
    ∙ meet_pairs (Meet c 0) (Meet c 0) (meet_over n f s) (meet_over n g s)

put_choice : (n : ℕ) (f : ℕ → Form) (b : Bool) (g h : Form) → put n f (choice b g h) ≡ choice b (put n f g) (put n f h)
unfolding choice
put_choice n f true g h = put_meet n f g h
put_choice n f false g h = refl

put_meet_over : (n k : ℕ) (f g : ℕ → Form) (s : ℕ) → put n f (meet_over k g s) ≡ meet_over k (λ i. put n f (g i)) s
unfolding meet_over
put_meet_over n zero f g s = put_undefined n f
put_meet_over n (suc k) f g s =
    ap (put n f) (meet_over_step k g s)
    ∙ put_choice n f (has s k) (g k) (meet_over k g s)
    ∙ ap (choice (has s k) (put n f (g k))) (put_meet_over n k f g s)
    ∙ sym (meet_over_step k (λ i. put n f (g i)) s)

pub put_put : (n : ℕ) (f g : ℕ → Form) (h : Form) → put n (λ k. put n f (g k)) h ≡ put n f (put n g h)
put_put n f g Varying = refl
put_put n f g (Meet c s) =
    ap₂ meet (sym (put_constant n f c)) (sym (put_meet_over n n f g s))
    ∙ sym (put_meet n f (Meet c 0) (meet_over n g s))

pub put_same : (n : ℕ) (f g : ℕ → Form) (h : Form) → ((k : ℕ) → k < n → f k ≡ g k) → put n f h ≡ put n g h
put_same n f g Varying e = refl
put_same n f g (Meet c s) e = ap (meet (Meet c 0)) (meet_over_same n f g s e)

-- ---- variables themselves

choice_set : (b : Bool) (k m : ℕ) → choice b (itself k) (Meet None m) ≡ Meet None (cond b (bit_or (2 ^ k) m) m)
unfolding choice
choice_set true k m = refl
choice_set false k m = refl

meet_over_itself : (k s : ℕ) → meet_over k itself s ≡ Meet None (set_below k (has s))
unfolding meet_over set_below
meet_over_itself zero s = refl
meet_over_itself (suc k) s = meet_over_step k itself s ∙ ap (choice (has s k) (itself k)) (meet_over_itself k s) ∙ choice_set (has s k) k (set_below k (has s))

pub put_itself : (n : ℕ) (f : Form) → IsTrue (form_fits n f) → put n itself f ≡ f
put_itself n Varying h = refl
put_itself n (Meet c s) h =
    ap (meet (Meet c 0)) (meet_over_itself n s ∙ ap (Meet None) (set_below_members n s (ltb-true s (2 ^ n) h)))
    ∙ ap₂ with_constant (set_none_or s) (joined_none c)

choice_one : (b : Bool) (f g : Form) → b ≡ false → choice b f g ≡ g
unfolding choice
choice_one b f g e = cond-false b (meet f g) g e

pub meet_over_past : (n : ℕ) (f : ℕ → Form) (k : ℕ) → n ≤ k → meet_over n f (2 ^ k) ≡ undefined
unfolding meet_over
meet_over_past zero f k h = refl
meet_over_past (suc n) f k h = meet_over_step n f (2 ^ k) ∙ choice_one (has (2 ^ k) n) (f n) (meet_over n f (2 ^ k)) (has_pow_other k n (λ e. absurd (omega arith))) ∙ meet_over_past n f k (omega arith)

pub meet_over_one : (n : ℕ) (f : ℕ → Form) (k : ℕ) → k < n → meet_over n f (2 ^ k) ≡ f k
unfolding meet_over choice
meet_over_one zero f k h = absurd (omega arith)
meet_over_one (suc n) f k h = meet_over_step n f (2 ^ k) ∙ elim (cases_eq n k) [
  | inl is ↦
      ap₂ (λ b m. choice b (f n) m) (ap (has (2 ^ k)) is ∙ has_pow_same k) (meet_over_past n f k (omega arith))
      ∙ meet_undefined (f n) ∙ ap f is
  | inr apart ↦ choice_one (has (2 ^ k) n) (f n) (meet_over n f (2 ^ k)) (has_pow_other k n apart) ∙ meet_over_one n f k (omega arith)
]

pub put_of_itself : (n : ℕ) (f : ℕ → Form) (k : ℕ) → k < n → put n f (itself k) ≡ f k
put_of_itself n f k h = ap (meet undefined) (meet_over_one n f k h) ∙ undefined_meet (f k)

-- ---- what fits

fits_with : (n s : ℕ) (o : Option (Option ℤ)) → s < 2 ^ n → IsTrue (form_fits n (with_constant s o))
fits_with n s None h = refl
fits_with n s (Some c) h = lt-ltb s (2 ^ n) h

pub fits_meet : (n : ℕ) (f g : Form) → IsTrue (form_fits n f) → IsTrue (form_fits n g) → IsTrue (form_fits n (meet f g))
fits_meet n Varying g hf hg = refl
fits_meet n (Meet c s) Varying hf hg = refl
fits_meet n (Meet c s) (Meet d t) hf hg = fits_with n (bit_or s t) (joined c d) (set_or_below n s t (ltb-true s (2 ^ n) hf) (ltb-true t (2 ^ n) hg))

pow_at_least : (n : ℕ) → 0 < 2 ^ n
pow_at_least n = pow_pos n

pub fits_constant : (n : ℕ) (c : Option ℤ) → IsTrue (form_fits n (Meet c 0))
fits_constant n c = lt-ltb 0 (2 ^ n) (pow_at_least n)

fits_choice : (n : ℕ) (b : Bool) (f g : Form) → IsTrue (form_fits n f) → IsTrue (form_fits n g) → IsTrue (form_fits n (choice b f g))
unfolding choice
fits_choice n true f g hf hg = fits_meet n f g hf hg
fits_choice n false f g hf hg = hg

fits_meet_over : (n k : ℕ) (f : ℕ → Form) (s : ℕ) → ((i : ℕ) → i < k → IsTrue (form_fits n (f i))) → IsTrue (form_fits n (meet_over k f s))
unfolding meet_over choice
fits_meet_over n zero f s h = fits_constant n None
fits_meet_over n (suc k) f s h = fits_choice n (has s k) (f k) (meet_over k f s) (h k (omega arith)) (fits_meet_over n k f s (λ i b. h i (omega arith)))

pub fits_put : (n : ℕ) (f : ℕ → Form) (g : Form) → ((i : ℕ) → i < n → IsTrue (form_fits n (f i))) → IsTrue (form_fits n (put n f g))
fits_put n f Varying h = refl
fits_put n f (Meet c s) h = fits_meet n (Meet c 0) (meet_over n f s) (fits_constant n c) (fits_meet_over n n f s h)

-- ---- ranks

pub rank_within : (n : ℕ) (f : Form) → form_rank n f ≤ n + 2
rank_within n Varying = omega arith
rank_within n (Meet None s) = let h = absent_within n s in omega (arith, h)
rank_within n (Meet (Some x) s) = let h = absent_within n s in omega (arith, h)

rank_with : (n s : ℕ) (o : Option (Option ℤ)) (m : ℕ) → absent n s ≤ m → form_rank n (with_constant s o) ≤ m + 2
rank_with n s None m h = omega arith
rank_with n s (Some None) m h = omega arith
rank_with n s (Some (Some x)) m h = omega arith

some_rank : (n s m : ℕ) (x y : ℤ) → absent n s ≤ m → form_rank n (with_constant s (joined (Some x) (Some y))) ≤ m + 1
some_rank n s m x y h = elim (int_cases x y) [
  | inl is ↦ let e = ap (λ o. form_rank n (with_constant s o)) (joined_equal x y is) in omega (arith, e, h)
  | inr apart ↦ let e = ap (λ o. form_rank n (with_constant s o)) (joined_apart x y apart) in omega (arith, e, h)
]

pub rank_at_most : (n : ℕ) (f g : Form) → form_rank n (meet f g) ≤ form_rank n f
rank_at_most n Varying g = omega arith
rank_at_most n (Meet c s) Varying = omega arith
rank_at_most n (Meet None s) (Meet d t) = rank_with n (bit_or s t) (Some d) (absent n s) (absent_at_most n s t)
rank_at_most n (Meet (Some x) s) (Meet None t) = let h = absent_at_most n s t in omega (arith, h)
rank_at_most n (Meet (Some x) s) (Meet (Some y) t) = some_rank n (bit_or s t) (absent n s) x y (absent_at_most n s t)

pub rank_same : (n : ℕ) (f g : Form) → IsTrue (form_fits n f) → IsTrue (form_fits n g) → form_rank n (meet f g) ≡ form_rank n f → meet f g ≡ f
rank_same n Varying g hf hg e = refl
rank_same n (Meet None s) Varying hf hg e = absurd (omega (arith, e))
rank_same n (Meet (Some x) s) Varying hf hg e = absurd (omega (arith, e))
rank_same n (Meet None s) (Meet None t) hf hg e =
    ap (Meet None) (union_same n s t (ltb-true s (2 ^ n) hf) (ltb-true t (2 ^ n) hg) (omega (arith, e)))
rank_same n (Meet None s) (Meet (Some y) t) hf hg e = let h = absent_at_most n s t in absurd (omega (arith, e, h))
rank_same n (Meet (Some x) s) (Meet None t) hf hg e =
    ap (Meet (Some x)) (union_same n s t (ltb-true s (2 ^ n) hf) (ltb-true t (2 ^ n) hg) (omega (arith, e)))
rank_same n (Meet (Some x) s) (Meet (Some y) t) hf hg e = elim (int_cases x y) [
  | inl is ↦
      let r = ap (λ o. form_rank n (with_constant (bit_or s t) o)) (joined_equal x y is) in
      ap₂ with_constant (union_same n s t (ltb-true s (2 ^ n) hf) (ltb-true t (2 ^ n) hg) (omega (arith, e, r))) (joined_equal x y is)
  | inr apart ↦ let r = ap (λ o. form_rank n (with_constant (bit_or s t) o)) (joined_apart x y apart) in absurd (omega (arith, e, r))
]

-- ---- equality

same_constants : (c d : Option ℤ) → IsTrue (same_constant c d) ↔ (c ≡ d)
same_constants None None = (λ _. refl, λ _. refl)
same_constants None (Some y) = (λ h. cc, λ e. cc)
same_constants (Some x) None = (λ h. cc, λ e. cc)
same_constants (Some x) (Some y) = (λ h. ap Some (int_same x y h), λ e. int_itself x y (same_Some x y e))

pub same_form_is : (f g : Form) → IsTrue (same_form f g) → f ≡ g
same_form_is Varying Varying h = refl
same_form_is Varying (Meet d t) h = cc
same_form_is (Meet c s) Varying h = cc
same_form_is (Meet c s) (Meet d t) h =
    let parts = and_parts (same_constant c d) (nat_eq s t) h in
    ap₂ (λ k u. Meet k u) ((same_constants c d).0 parts.0) (eqb-true s t parts.1)

pub same_form_itself : (f : Form) → IsTrue (same_form f f)
same_form_itself Varying = refl
same_form_itself (Meet c s) = and_from (same_constant c c) (nat_eq s s) ((same_constants c c).1 refl) (eq-eqb s s refl)
