-- Reachability: whether there is a run.
use Rattle.std.specs.Prelude.{ℕ, Bool, true, false, ◌||◌, ◌&&◌, not}
use Rattle.semiring_laws.specs.Semiring.{Operations}
use Rattle.semiring_laws.specs.declared.reach.NoMap.{NoMap}
use Rattle.semiring_laws.specs.declared.reach.NoMap.TheVariants.{Plain}

abbrev pub reach_rank : Bool → ℕ
reach_rank true = 0
reach_rank false = 1

abbrev pub same_flag : Bool → Bool → Bool
same_flag true b = b
same_flag false b = not b

abbrev pub reach_operations : Operations Bool NoMap
reach_operations = record {
  zero = false;
  one = true;
  combine = ◌||◌;
  extend = ◌&&◌;
  after = λ h w. w;
  plain = Plain;
  same = same_flag;
  fits = λ w. true;
  fits_map = λ h. true;
  rank = reach_rank;
  top_rank = 1;
}
