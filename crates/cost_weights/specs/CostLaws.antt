-- Costs are a semiring, whatever the cap.
use Rattle.std.specs.Prelude.{◌≡◌, ◌≢◌, ◌↔◌, ℕ, ◌+◌, ◌<◌, ◌≤◌, min, IsTrue, nat_le, Option, None, Some, refl}
use Rattle.std.proofs.Common.{arith, ap, inl, inr}
use Rattle.std.proofs.lemmas.Bool.{cases_lt, eqb-true, eq-eqb}
use Rattle.std.proofs.lemmas.Bool.Decides.{nat_tests}
use Rattle.std.proofs.lemmas.Option.{same_Some}
use Rattle.semiring_laws.specs.Semiring.{IsSemiring}
use Rattle.cost_weights.specs.Cost.{cheaper, sum_of, same_cost, fits_cost, cost_rank, cost_operations}

within : (n cap : ℕ) → IsTrue (nat_le n cap) → n ≤ cap
within n cap fit = grind (arith, nat_tests)

fits_within : (n cap : ℕ) → n ≤ cap → IsTrue (nat_le n cap)
fits_within n cap low = grind (arith, nat_tests)

cheaper_fits : (cap : ℕ) (a b : Option ℕ) → IsTrue (fits_cost cap a) → IsTrue (fits_cost cap b) → IsTrue (fits_cost cap (cheaper a b))
cheaper_fits cap None b _ fit = fit
cheaper_fits cap (Some m) None fit _ = fit
cheaper_fits cap (Some m) (Some n) fit fit' = let low = within m cap fit in fits_within (min m n) cap (omega arith)

sum_fits : (cap : ℕ) (a b : Option ℕ) → IsTrue (fits_cost cap (sum_of cap a b))
sum_fits cap None b = refl
sum_fits cap (Some m) None = refl
sum_fits cap (Some m) (Some n) = fits_within (min (m + n) cap) cap (omega arith)

cheaper_comm : (a b : Option ℕ) → cheaper a b ≡ cheaper b a
cheaper_comm None None = refl
cheaper_comm None (Some n) = refl
cheaper_comm (Some m) None = refl
cheaper_comm (Some m) (Some n) = ap Some (omega arith)

cheaper_assoc : (a b c : Option ℕ) → cheaper (cheaper a b) c ≡ cheaper a (cheaper b c)
cheaper_assoc None b c = refl
cheaper_assoc (Some m) None c = refl
cheaper_assoc (Some m) (Some n) None = refl
cheaper_assoc (Some m) (Some n) (Some k) = ap Some (omega arith)

cheaper_same : (a : Option ℕ) → cheaper a a ≡ a
cheaper_same None = refl
cheaper_same (Some m) = ap Some (omega arith)

sum_assoc : (cap : ℕ) (a b c : Option ℕ) → sum_of cap (sum_of cap a b) c ≡ sum_of cap a (sum_of cap b c)
sum_assoc cap None b c = refl
sum_assoc cap (Some m) None c = refl
sum_assoc cap (Some m) (Some n) None = refl
sum_assoc cap (Some m) (Some n) (Some k) = ap Some (omega arith)

one_left : (cap : ℕ) (a : Option ℕ) → IsTrue (fits_cost cap a) → sum_of cap (Some 0) a ≡ a
one_left cap None _ = refl
one_left cap (Some n) fit = let low = within n cap fit in ap Some (omega arith)

one_right : (cap : ℕ) (a : Option ℕ) → IsTrue (fits_cost cap a) → sum_of cap a (Some 0) ≡ a
one_right cap None _ = refl
one_right cap (Some n) fit = let low = within n cap fit in ap Some (omega arith)

zero_right : (cap : ℕ) (a : Option ℕ) → sum_of cap a None ≡ None
zero_right cap None = refl
zero_right cap (Some n) = refl

sum-cheaper_right : (cap : ℕ) (a b c : Option ℕ) → sum_of cap a (cheaper b c) ≡ cheaper (sum_of cap a b) (sum_of cap a c)
sum-cheaper_right cap None b c = refl
sum-cheaper_right cap (Some m) None c = refl
sum-cheaper_right cap (Some m) (Some n) None = refl
sum-cheaper_right cap (Some m) (Some n) (Some k) = ap Some (omega arith)

sum-cheaper_left : (cap : ℕ) (a b c : Option ℕ) → sum_of cap (cheaper a b) c ≡ cheaper (sum_of cap a c) (sum_of cap b c)
sum-cheaper_left cap None b c = refl
sum-cheaper_left cap (Some m) None None = refl
sum-cheaper_left cap (Some m) None (Some k) = refl
sum-cheaper_left cap (Some m) (Some n) None = refl
sum-cheaper_left cap (Some m) (Some n) (Some k) = ap Some (omega arith)

rank_never_rises : (cap : ℕ) (a b : Option ℕ) → IsTrue (fits_cost cap b) → cost_rank cap (cheaper a b) ≤ cost_rank cap a
rank_never_rises cap None None _ = omega arith
rank_never_rises cap None (Some n) fit = let low = within n cap fit in omega arith
rank_never_rises cap (Some m) None _ = omega arith
rank_never_rises cap (Some m) (Some n) _ = omega arith

rank_falls : (cap : ℕ) (a b : Option ℕ) → IsTrue (fits_cost cap b) → cheaper a b ≢ a → cost_rank cap (cheaper a b) < cost_rank cap a
rank_falls cap None None _ differs = absurd (differs refl)
rank_falls cap None (Some n) fit _ = let low = within n cap fit in omega arith
rank_falls cap (Some m) None _ differs = absurd (differs refl)
rank_falls cap (Some m) (Some n) _ differs = elim (cases_lt n m) [
  | inl less ↦ omega arith
  | inr more ↦ absurd (differs (ap Some (omega arith)))
]

same_is_equal : (a b : Option ℕ) → IsTrue (same_cost a b) ↔ (a ≡ b)
same_is_equal None None = (λ _. refl, λ _. refl)
same_is_equal None (Some n) = (λ h. cc, λ e. cc)
same_is_equal (Some m) None = (λ h. cc, λ e. cc)
same_is_equal (Some m) (Some n) = (λ h. ap Some (eqb-true m n h), λ e. eq-eqb m n (same_Some m n e))

pub cost_laws : (cap : ℕ) → IsSemiring (cost_operations cap)
cost_laws cap = record {
  fits-zero = refl;
  fits-one = fits_within 0 cap (omega arith);
  fits-plain = refl;
  fits-combine = cheaper_fits cap;
  fits-extend = λ a b _ _. sum_fits cap a b;
  fits-after = λ h a _ fit. fit;
  same_is_equal = λ a b _ _. same_is_equal a b;
  combine_comm = λ a b _ _. cheaper_comm a b;
  combine_assoc = λ a b c _ _ _. cheaper_assoc a b c;
  combine_same = λ a _. cheaper_same a;
  combine_zero = λ a _. refl;
  extend_assoc = λ a b c _ _ _. sum_assoc cap a b c;
  extend-one_left = one_left cap;
  extend-one_right = one_right cap;
  extend-zero_left = λ a _. refl;
  extend-zero_right = λ a _. zero_right cap a;
  extend-combine_right = λ a b c _ _ _. sum-cheaper_right cap a b c;
  extend-combine_left = λ a b c _ _ _. sum-cheaper_left cap a b c;
  one_is_not_zero = λ e. cc;
  rank-zero = refl;
  rank_never_rises = λ a b _ fit. rank_never_rises cap a b fit;
  rank_falls = λ a b _ fit differs. rank_falls cap a b fit differs;
  after-zero = λ h _. refl;
  after-combine = λ h a b _ _ _. refl;
  after-plain = λ a _. refl;
}
