-- Copy constants are a semiring, whatever the number of variables.
use Rattle.std.proofs.Common.{◌≡◌, ◌≢◌, ℕ, zero, suc, ◌+◌, ◌*◌, ◌^◌, ◌<◌, ◌≤◌, ◌↔◌, Bool, true, false, ◌&&◌, List, [], ◌∷◌, length, pow_pos, pow_mono, pow-suc, suc-mul, refl, sym, ap, ap₂, ◌∙◌, inl, inr, arith}
use Rattle.std.specs.Prelude.{IsTrue, nat_eq, cond}
use Rattle.std.proofs.lemmas.Bool.{cases_lt, cases_eq, and_parts, and_from, eqb-true, eq-eqb, lt-ltb}
use Rattle.semiring_laws.specs.Semiring.{IsSemiring}
use Rattle.copy_weights.specs.declared.form.Form.{Form}
use Rattle.copy_weights.specs.declared.form.CopyW.{CopyW}
use Rattle.copy_weights.specs.declared.form.CopyW.TheVariants.{Zero, Map}
use Rattle.copy_weights.specs.declared.form.CopyMap.{CopyMap}
use Rattle.copy_weights.specs.declared.form.CopyMap.TheVariants.{Plain, Restore}
use Rattle.copy_weights.specs.Forms.{meet, itself, has, put, tabulate, form, form_fits}
use Rattle.copy_weights.specs.private.SetLaws.{each_gives, each_from}
use Rattle.copy_weights.specs.private.FormLaws.{meet_comm, meet_assoc, meet_same, put_meet, put_of_meets, put_put, put_same, put_itself, put_of_itself, fits_meet, fits_put, rank_within, rank_at_most, rank_same, same_form_is, same_form_itself}
use Rattle.copy_weights.specs.CopyConst.{combined, extended, returned, each_below, form_rank, rank_sum, same_form, same_forms, same_weight, weight_fits, weight_rank, copy_operations}

-- ---- lists of forms by their places

pub length_tabulate : (n : ℕ) (f : ℕ → Form) → length (tabulate n f) ≡ n
unfolding tabulate
length_tabulate zero f = refl
length_tabulate (suc n) f = ap suc (length_tabulate n (λ i. f (suc i)))

pub form_tabulate : (n : ℕ) (f : ℕ → Form) (i : ℕ) → i < n → form (tabulate n f) i ≡ f i
unfolding tabulate form
form_tabulate zero f i h = absurd (omega arith)
form_tabulate (suc n) f zero h = refl
form_tabulate (suc n) f (suc i) h = form_tabulate n (λ k. f (suc k)) i (omega arith)

pub tabulate_same : (n : ℕ) (f g : ℕ → Form) → ((i : ℕ) → i < n → f i ≡ g i) → tabulate n f ≡ tabulate n g
unfolding tabulate
tabulate_same zero f g h = refl
tabulate_same (suc n) f g h = ap₂ (λ x xs. x ∷ xs) (h 0 (omega arith)) (tabulate_same n (λ i. f (suc i)) (λ i. g (suc i)) (λ i b. h (suc i) (omega arith)))

tabulate_forms : (n : ℕ) (fs : List Form) → length fs ≡ n → tabulate n (form fs) ≡ fs
unfolding tabulate form
tabulate_forms zero [] e = refl
tabulate_forms zero (x ∷ xs) e = absurd (omega (arith, e))
tabulate_forms (suc n) [] e = absurd (omega (arith, e))
tabulate_forms (suc n) (x ∷ xs) e = ap (λ ys. x ∷ ys) (tabulate_forms n xs (let f : suc (length xs) ≡ suc n = e in omega arith))

pub forms_by_places : (n : ℕ) (f : ℕ → Form) (fs : List Form) → length fs ≡ n → ((i : ℕ) → i < n → f i ≡ form fs i) → tabulate n f ≡ fs
forms_by_places n f fs e same = tabulate_same n f (form fs) same ∙ tabulate_forms n fs e

pub forms_alike : (n : ℕ) (fs gs : List Form) → length fs ≡ n → length gs ≡ n → ((i : ℕ) → i < n → form fs i ≡ form gs i) → fs ≡ gs
forms_alike n fs gs e is same = sym (tabulate_forms n fs e) ∙ forms_by_places n (form fs) gs is same

-- ---- what fits

abbrev pub FitsForms : ℕ → List Form → Type 0
FitsForms n fs = IsTrue (nat_eq (length fs) n && each_below n (λ k. form_fits n (form fs k)))

pub count : (n : ℕ) (fs : List Form) → FitsForms n fs → length fs ≡ n
count n fs h = eqb-true (length fs) n (and_parts (nat_eq (length fs) n) (each_below n (λ k. form_fits n (form fs k))) h).0

pub each_fits : (n : ℕ) (fs : List Form) → FitsForms n fs → (i : ℕ) → i < n → IsTrue (form_fits n (form fs i))
each_fits n fs h i below = each_gives n (λ k. form_fits n (form fs k)) (and_parts (nat_eq (length fs) n) (each_below n (λ k. form_fits n (form fs k))) h).1 i below

pub fits_tabulate : (n : ℕ) (f : ℕ → Form) → ((i : ℕ) → i < n → IsTrue (form_fits n (f i))) → FitsForms n (tabulate n f)
fits_tabulate n f h =
    and_from (nat_eq (length (tabulate n f)) n) (each_below n (λ k. form_fits n (form (tabulate n f) k))) (eq-eqb (length (tabulate n f)) n (length_tabulate n f))
    (each_from n (λ k. form_fits n (form (tabulate n f) k)) (λ i below. ap (form_fits n) (form_tabulate n f i below) ∙ h i below))

pow_below : (k n : ℕ) → k < n → 2 ^ k < 2 ^ n
pow_below k n h = let p = pow_pos k in let m : 2 ^ suc k ≤ 2 ^ n = pow_mono (let less : suc k ≤ n = omega arith in less) in let t : 2 ^ suc k ≡ 2 ^ k * 2 = pow-suc 2 k in omega (arith, p, m, t)

pub itself_fits : (n k : ℕ) → k < n → IsTrue (form_fits n (itself k))
itself_fits n k h = lt-ltb (2 ^ k) (2 ^ n) (pow_below k n h)

fits-combined : (n : ℕ) (a b : CopyW) → IsTrue (weight_fits n a) → IsTrue (weight_fits n b) → IsTrue (weight_fits n (combined n a b))
fits-combined n Zero b fa fb = fb
fits-combined n (Map fs) Zero fa fb = fa
fits-combined n (Map fs) (Map gs) fa fb = fits_tabulate n (λ k. meet (form fs k) (form gs k)) (λ i b. fits_meet n (form fs i) (form gs i) (each_fits n fs fa i b) (each_fits n gs fb i b))

fits-extended : (n : ℕ) (a b : CopyW) → IsTrue (weight_fits n a) → IsTrue (weight_fits n b) → IsTrue (weight_fits n (extended n a b))
fits-extended n Zero b fa fb = refl
fits-extended n (Map fs) Zero fa fb = refl
fits-extended n (Map fs) (Map gs) fa fb = fits_tabulate n (λ k. put n (form fs) (form gs k)) (λ i b. fits_put n (form fs) (form gs i) (each_fits n fs fa))

fits_cond : (n : ℕ) (b : Bool) (f g : Form) → IsTrue (form_fits n f) → IsTrue (form_fits n g) → IsTrue (form_fits n (cond b f g))
fits_cond n true f g hf hg = hf
fits_cond n false f g hf hg = hg

fits-after : (n : ℕ) (h : CopyMap) (a : CopyW) → IsTrue (weight_fits n a) → IsTrue (weight_fits n (returned n h a))
fits-after n Plain a fa = fa
fits-after n (Restore vars) Zero fa = refl
fits-after n (Restore vars) (Map fs) fa = fits_tabulate n (λ k. cond (has vars k) (itself k) (form fs k)) (λ i b. fits_cond n (has vars i) (itself i) (form fs i) (itself_fits n i b) (each_fits n fs fa i b))

-- ---- equality

forms_are : (fs gs : List Form) → IsTrue (same_forms fs gs) → fs ≡ gs
forms_are [] [] h = refl
forms_are [] (g ∷ gs) h = cc
forms_are (f ∷ fs) [] h = cc
forms_are (f ∷ fs) (g ∷ gs) h = let parts = and_parts (same_form f g) (same_forms fs gs) h in ap₂ (λ x xs. x ∷ xs) (same_form_is f g parts.0) (forms_are fs gs parts.1)

forms_itself : (fs : List Form) → IsTrue (same_forms fs fs)
forms_itself [] = refl
forms_itself (f ∷ fs) = and_from (same_form f f) (same_forms fs fs) (same_form_itself f) (forms_itself fs)

abbrev forms_of : CopyW → List Form
forms_of Zero = []
forms_of (Map fs) = fs

same_is_equal : (a b : CopyW) → IsTrue (same_weight a b) ↔ (a ≡ b)
same_is_equal Zero Zero = (λ _. refl, λ _. refl)
same_is_equal Zero (Map gs) = (λ h. cc, λ e. cc)
same_is_equal (Map fs) Zero = (λ h. cc, λ e. cc)
same_is_equal (Map fs) (Map gs) = (λ h. ap Map (forms_are fs gs h), λ e. ap (same_forms fs) (sym (ap forms_of e)) ∙ forms_itself fs)

-- ---- combine

combined_comm : (n : ℕ) (a b : CopyW) → combined n a b ≡ combined n b a
combined_comm n Zero Zero = refl
combined_comm n Zero (Map gs) = refl
combined_comm n (Map fs) Zero = refl
combined_comm n (Map fs) (Map gs) = ap Map (tabulate_same n (λ k. meet (form fs k) (form gs k)) (λ k. meet (form gs k) (form fs k)) (λ i b. meet_comm (form fs i) (form gs i)))

combined_assoc : (n : ℕ) (a b c : CopyW) → combined n (combined n a b) c ≡ combined n a (combined n b c)
combined_assoc n Zero b c = refl
combined_assoc n (Map fs) Zero c = refl
combined_assoc n (Map fs) (Map gs) Zero = refl
combined_assoc n (Map fs) (Map gs) (Map hs) = ap Map (tabulate_same n (λ k. meet (form (tabulate n (λ i. meet (form fs i) (form gs i))) k) (form hs k)) (λ k. meet (form fs k) (form (tabulate n (λ i. meet (form gs i) (form hs i))) k)) (λ i b.
    ap (λ f. meet f (form hs i)) (form_tabulate n (λ k. meet (form fs k) (form gs k)) i b)
    ∙ meet_assoc (form fs i) (form gs i) (form hs i)
    ∙ ap (meet (form fs i)) (sym (form_tabulate n (λ k. meet (form gs k) (form hs k)) i b))))

combined_same : (n : ℕ) (a : CopyW) → IsTrue (weight_fits n a) → combined n a a ≡ a
combined_same n Zero fa = refl
combined_same n (Map fs) fa = ap Map (forms_by_places n (λ k. meet (form fs k) (form fs k)) fs (count n fs fa) (λ i b. meet_same (form fs i)))

-- ---- extend

extended_assoc : (n : ℕ) (a b c : CopyW) → extended n (extended n a b) c ≡ extended n a (extended n b c)
extended_assoc n Zero b c = refl
extended_assoc n (Map fs) Zero c = refl
extended_assoc n (Map fs) (Map gs) Zero = refl
extended_assoc n (Map fs) (Map gs) (Map hs) =
    ap Map (tabulate_same n (λ k. put n (form (tabulate n (λ i. put n (form fs) (form gs i)))) (form hs k)) (λ k. put n (form fs) (form (tabulate n (λ i. put n (form gs) (form hs i))) k)) (λ i b.
    put_same n (form (tabulate n (λ k. put n (form fs) (form gs k)))) (λ k. put n (form fs) (form gs k)) (form hs i) (form_tabulate n (λ k. put n (form fs) (form gs k)))
    ∙ put_put n (form fs) (form gs) (form hs i)
    ∙ ap (put n (form fs)) (sym (form_tabulate n (λ k. put n (form gs) (form hs k)) i b))))

extended_right : (n : ℕ) (a b c : CopyW) → extended n a (combined n b c) ≡ combined n (extended n a b) (extended n a c)
extended_right n Zero b c = refl
extended_right n (Map fs) Zero c = refl
extended_right n (Map fs) (Map gs) Zero = refl
extended_right n (Map fs) (Map gs) (Map hs) =
    ap Map (tabulate_same n (λ k. put n (form fs) (form (tabulate n (λ i. meet (form gs i) (form hs i))) k))
    (λ k. meet (form (tabulate n (λ i. put n (form fs) (form gs i))) k) (form (tabulate n (λ i. put n (form fs) (form hs i))) k)) (λ i b.
    ap (put n (form fs)) (form_tabulate n (λ k. meet (form gs k) (form hs k)) i b)
    ∙ put_meet n (form fs) (form gs i) (form hs i)
    ∙ sym (ap₂ meet (form_tabulate n (λ k. put n (form fs) (form gs k)) i b) (form_tabulate n (λ k. put n (form fs) (form hs k)) i b))))

extended_left : (n : ℕ) (a b c : CopyW) → extended n (combined n a b) c ≡ combined n (extended n a c) (extended n b c)
extended_left n Zero b c = refl
extended_left n (Map fs) Zero Zero = refl
extended_left n (Map fs) Zero (Map hs) = refl
extended_left n (Map fs) (Map gs) Zero = refl
extended_left n (Map fs) (Map gs) (Map hs) =
    ap Map (tabulate_same n (λ k. put n (form (tabulate n (λ i. meet (form fs i) (form gs i)))) (form hs k))
    (λ k. meet (form (tabulate n (λ i. put n (form fs) (form hs i))) k) (form (tabulate n (λ i. put n (form gs) (form hs i))) k)) (λ i b.
    put_same n (form (tabulate n (λ k. meet (form fs k) (form gs k)))) (λ k. meet (form fs k) (form gs k)) (form hs i) (form_tabulate n (λ k. meet (form fs k) (form gs k)))
    ∙ put_of_meets n (form fs) (form gs) (form hs i)
    ∙ sym (ap₂ meet (form_tabulate n (λ k. put n (form fs) (form hs k)) i b) (form_tabulate n (λ k. put n (form gs) (form hs k)) i b))))

extended_zero : (n : ℕ) (a : CopyW) → extended n a Zero ≡ Zero
extended_zero n Zero = refl
extended_zero n (Map fs) = refl

one_left : (n : ℕ) (a : CopyW) → IsTrue (weight_fits n a) → extended n (Map (tabulate n itself)) a ≡ a
one_left n Zero fa = refl
one_left n (Map fs) fa = ap Map (forms_by_places n (λ k. put n (form (tabulate n itself)) (form fs k)) fs (count n fs fa) (λ i b.
    put_same n (form (tabulate n itself)) itself (form fs i) (form_tabulate n itself) ∙ put_itself n (form fs i) (each_fits n fs fa i b)))

one_right : (n : ℕ) (a : CopyW) → IsTrue (weight_fits n a) → extended n a (Map (tabulate n itself)) ≡ a
one_right n Zero fa = refl
one_right n (Map fs) fa = ap Map (forms_by_places n (λ k. put n (form fs) (form (tabulate n itself) k)) fs (count n fs fa) (λ i b.
    ap (put n (form fs)) (form_tabulate n itself i b) ∙ put_of_itself n (form fs) i b))

-- ---- return maps

meet_cond : (b : Bool) (f g h : Form) → cond b f (meet g h) ≡ meet (cond b f g) (cond b f h)
meet_cond true f g h = sym (meet_same f)
meet_cond false f g h = refl

after-zero : (n : ℕ) (h : CopyMap) → returned n h Zero ≡ Zero
after-zero n Plain = refl
after-zero n (Restore vars) = refl

after-combined : (n : ℕ) (h : CopyMap) (a b : CopyW) → returned n h (combined n a b) ≡ combined n (returned n h a) (returned n h b)
after-combined n Plain a b = refl
after-combined n (Restore vars) Zero b = refl
after-combined n (Restore vars) (Map fs) Zero = refl
after-combined n (Restore vars) (Map fs) (Map gs) =
    ap Map (tabulate_same n (λ k. cond (has vars k) (itself k) (form (tabulate n (λ i. meet (form fs i) (form gs i))) k))
    (λ k. meet (form (tabulate n (λ i. cond (has vars i) (itself i) (form fs i))) k) (form (tabulate n (λ i. cond (has vars i) (itself i) (form gs i))) k)) (λ i b.
    ap (cond (has vars i) (itself i)) (form_tabulate n (λ k. meet (form fs k) (form gs k)) i b)
    ∙ meet_cond (has vars i) (itself i) (form fs i) (form gs i)
    ∙ sym (ap₂ meet (form_tabulate n (λ k. cond (has vars k) (itself k) (form fs k)) i b) (form_tabulate n (λ k. cond (has vars k) (itself k) (form gs k)) i b))))

-- ---- the rank

sum_at_most : (k n : ℕ) (fs gs : List Form) → ((i : ℕ) → i < k → form_rank n (form gs i) ≤ form_rank n (form fs i)) → rank_sum k n gs ≤ rank_sum k n fs
unfolding rank_sum
sum_at_most zero n fs gs h = omega arith
sum_at_most (suc k) n fs gs h = let p = h k (omega arith) in let q = sum_at_most k n fs gs (λ i b. h i (omega arith)) in omega (arith, p, q)

sum_same : (k n : ℕ) (fs gs : List Form) → ((i : ℕ) → i < k → form_rank n (form gs i) ≤ form_rank n (form fs i)) → rank_sum k n gs ≡ rank_sum k n fs → (i : ℕ) → i < k → form_rank n (form gs i) ≡ form_rank n (form fs i)
unfolding rank_sum
sum_same zero n fs gs h e i b = absurd (omega arith)
sum_same (suc k) n fs gs h e i b =
    let p = h k (omega arith) in
    let q = sum_at_most k n fs gs (λ j c. h j (omega arith)) in
    elim (cases_eq i k) [
      | inl is ↦ ap (λ j. form_rank n (form gs j)) is ∙ (let here : form_rank n (form gs k) ≡ form_rank n (form fs k) = omega (arith, p, q, e) in here) ∙ ap (λ j. form_rank n (form fs j)) (sym is)
      | inr apart ↦ sum_same k n fs gs (λ j c. h j (omega arith)) (omega (arith, p, q, e)) i (omega arith)
    ]

sum_within : (k n : ℕ) (fs : List Form) → rank_sum k n fs ≤ k * (n + 2)
unfolding rank_sum
sum_within zero n fs = omega arith
sum_within (suc k) n fs =
    let p = rank_within n (form fs k) in
    let q = sum_within k n fs in
    let t : suc k * (n + 2) ≡ k * (n + 2) + (n + 2) = suc-mul k (n + 2) in
    omega (arith, p, q, t)

meets_at_most : (n : ℕ) (fs gs : List Form) (i : ℕ) → i < n → form_rank n (form (tabulate n (λ k. meet (form fs k) (form gs k))) i) ≤ form_rank n (form fs i)
meets_at_most n fs gs i b =
    let e = ap (form_rank n) (form_tabulate n (λ k. meet (form fs k) (form gs k)) i b) in
    let p = rank_at_most n (form fs i) (form gs i) in
    omega (arith, e, p)

rank_never_rises : (n : ℕ) (a b : CopyW) → weight_rank n (combined n a b) ≤ weight_rank n a
rank_never_rises n Zero Zero = omega arith
rank_never_rises n Zero (Map gs) = let p = sum_within n n gs in omega (arith, p)
rank_never_rises n (Map fs) Zero = omega arith
rank_never_rises n (Map fs) (Map gs) = sum_at_most n n fs (tabulate n (λ k. meet (form fs k) (form gs k))) (meets_at_most n fs gs)

rank_falls : (n : ℕ) (a b : CopyW) → IsTrue (weight_fits n a) → IsTrue (weight_fits n b) → combined n a b ≢ a → weight_rank n (combined n a b) < weight_rank n a
rank_falls n Zero Zero fa fb differs = absurd (differs refl)
rank_falls n Zero (Map gs) fa fb differs = let p = sum_within n n gs in omega (arith, p)
rank_falls n (Map fs) Zero fa fb differs = absurd (differs refl)
rank_falls n (Map fs) (Map gs) fa fb differs =
    let ms : List Form = tabulate n (λ k. meet (form fs k) (form gs k)) in
    let low = sum_at_most n n fs ms (meets_at_most n fs gs) in
    elim (cases_lt (rank_sum n n ms) (rank_sum n n fs)) [
      | inl less ↦ less
      | inr more ↦
          let e : rank_sum n n ms ≡ rank_sum n n fs = omega (arith, low, more) in
          absurd (differs (ap Map (forms_by_places n (λ k. meet (form fs k) (form gs k)) fs (count n fs fa) (λ i b.
          rank_same n (form fs i) (form gs i) (each_fits n fs fa i b) (each_fits n gs fb i b)
          (ap (form_rank n) (sym (form_tabulate n (λ k. meet (form fs k) (form gs k)) i b)) ∙ sum_same n n fs ms (meets_at_most n fs gs) e i b)))))
    ]

pub copy_laws : (n : ℕ) → IsSemiring (copy_operations n)
copy_laws n = record {
  fits-zero = refl;
  fits-one = fits_tabulate n itself (itself_fits n);
  fits-plain = refl;
  fits-combine = fits-combined n;
  fits-extend = fits-extended n;
  fits-after = λ h a _ fa. fits-after n h a fa;
  same_is_equal = λ a b _ _. same_is_equal a b;
  combine_comm = λ a b _ _. combined_comm n a b;
  combine_assoc = λ a b c _ _ _. combined_assoc n a b c;
  combine_same = combined_same n;
  combine_zero = λ a _. refl;
  extend_assoc = λ a b c _ _ _. extended_assoc n a b c;
  extend-one_left = one_left n;
  extend-one_right = one_right n;
  extend-zero_left = λ a _. refl;
  extend-zero_right = λ a _. extended_zero n a;
  extend-combine_right = λ a b c _ _ _. extended_right n a b c;
  extend-combine_left = λ a b c _ _ _. extended_left n a b c;
  one_is_not_zero = λ e. cc;
  rank-zero = refl;
  rank_never_rises = λ a b _ _. rank_never_rises n a b;
  rank_falls = rank_falls n;
  after-zero = λ h _. after-zero n h;
  after-combine = λ h a b _ _ _. after-combined n h a b;
  after-plain = λ a _. refl;
}
