-- Reachability is a semiring.
use Rattle.std.specs.Prelude.{◌≡◌, ◌≢◌, ◌<◌, ◌≤◌, ◌↔◌, Bool, true, false, ◌||◌, ◌&&◌, IsTrue, refl}
use Rattle.std.proofs.Common.{arith}
use Rattle.semiring_laws.specs.Semiring.{IsSemiring}
use Rattle.semiring_laws.specs.Reach.{reach_rank, same_flag, reach_operations}

same_is_equal : (a b : Bool) → IsTrue (same_flag a b) ↔ (a ≡ b)
same_is_equal true true = (λ _. refl, λ _. refl)
same_is_equal true false = (λ h. cc, λ e. cc)
same_is_equal false true = (λ h. cc, λ e. cc)
same_is_equal false false = (λ _. refl, λ _. refl)

or_commutes : (a b : Bool) → (a || b) ≡ (b || a)
or_commutes true true = refl
or_commutes true false = refl
or_commutes false true = refl
or_commutes false false = refl

or_associates : (a b c : Bool) → ((a || b) || c) ≡ (a || (b || c))
or_associates true b c = refl
or_associates false b c = refl

or_same : (a : Bool) → (a || a) ≡ a
or_same true = refl
or_same false = refl

and_associates : (a b c : Bool) → ((a && b) && c) ≡ (a && (b && c))
and_associates true b c = refl
and_associates false b c = refl

and_true : (a : Bool) → (a && true) ≡ a
and_true true = refl
and_true false = refl

and_false : (a : Bool) → (a && false) ≡ false
and_false true = refl
and_false false = refl

and-or : (a b c : Bool) → (a && (b || c)) ≡ ((a && b) || (a && c))
and-or true b c = refl
and-or false b c = refl

or-and : (a b c : Bool) → ((a || b) && c) ≡ ((a && c) || (b && c))
or-and true b true = refl
or-and true true false = refl
or-and true false false = refl
or-and false b c = refl

rank_never_rises : (a b : Bool) → reach_rank (a || b) ≤ reach_rank a
rank_never_rises true b = omega arith
rank_never_rises false true = omega arith
rank_never_rises false false = omega arith

rank_falls : (a b : Bool) → (a || b) ≢ a → reach_rank (a || b) < reach_rank a
rank_falls true b differs = absurd (differs refl)
rank_falls false true differs = omega arith
rank_falls false false differs = absurd (differs refl)

pub reach_laws : IsSemiring reach_operations
reach_laws = record {
  fits-zero = refl;
  fits-one = refl;
  fits-combine = λ a b _ _. refl;
  fits-extend = λ a b _ _. refl;
  fits-after = λ h a _ _. refl;
  fits-plain = refl;
  same_is_equal = λ a b _ _. same_is_equal a b;
  combine_comm = λ a b _ _. or_commutes a b;
  combine_assoc = λ a b c _ _ _. or_associates a b c;
  combine_same = λ a _. or_same a;
  combine_zero = λ a _. refl;
  extend_assoc = λ a b c _ _ _. and_associates a b c;
  extend-one_left = λ a _. refl;
  extend-one_right = λ a _. and_true a;
  extend-zero_left = λ a _. refl;
  extend-zero_right = λ a _. and_false a;
  extend-combine_right = λ a b c _ _ _. and-or a b c;
  extend-combine_left = λ a b c _ _ _. or-and a b c;
  one_is_not_zero = λ e. cc;
  rank-zero = refl;
  rank_never_rises = λ a b _ _. rank_never_rises a b;
  rank_falls = λ a b _ _. rank_falls a b;
  after-zero = λ h _. refl;
  after-combine = λ h a b _ _ _. refl;
  after-plain = λ a _. refl;
}
