-- Costs up to a cap: the cheaper of two, the sum of two, and no cost for no run.
use Rattle.std.specs.Prelude.{ℕ, ◌+◌, min, Bool, true, false, nat_eq, nat_le, Option, None, Some}
use Rattle.semiring_laws.specs.Semiring.{Operations}
use Rattle.semiring_laws.specs.declared.reach.NoMap.{NoMap}
use Rattle.semiring_laws.specs.declared.reach.NoMap.TheVariants.{Plain}

-- the smaller of two; none is neutral
abbrev pub cheaper : Option ℕ → Option ℕ → Option ℕ
cheaper None b = b
cheaper (Some m) None = Some m
cheaper (Some m) (Some n) = Some (min m n)

-- the sum cut at the cap; none with anything is none
abbrev pub sum_of : ℕ → Option ℕ → Option ℕ → Option ℕ
sum_of cap None b = None
sum_of cap (Some m) None = None
sum_of cap (Some m) (Some n) = Some (min (m + n) cap)

abbrev pub same_cost : Option ℕ → Option ℕ → Bool
same_cost None None = true
same_cost None (Some n) = false
same_cost (Some m) None = false
same_cost (Some m) (Some n) = nat_eq m n

-- no number is over the cap
abbrev pub fits_cost : ℕ → Option ℕ → Bool
fits_cost cap None = true
fits_cost cap (Some n) = nat_le n cap

-- a number can be lowered as often as it says, and none once more than the cap
abbrev pub cost_rank : ℕ → Option ℕ → ℕ
cost_rank cap None = cap + 1
cost_rank cap (Some n) = n

-- The semiring of costs up to a cap.
abbrev pub cost_operations : ℕ → Operations (Option ℕ) NoMap
cost_operations cap = record {
  zero = None;
  one = Some 0;
  combine = cheaper;
  extend = sum_of cap;
  after = λ h w. w;
  plain = Plain;
  same = same_cost;
  fits = fits_cost cap;
  fits_map = λ h. true;
  rank = cost_rank cap;
  top_rank = cap + 1;
}
