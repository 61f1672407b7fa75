-- The tests' semiring with return maps: whether there is a run, when a return map can forbid a call to return.
use Rattle.std.specs.Prelude.{Bool, true, false, ◌||◌, ◌&&◌, refl}
use Rattle.semiring_laws.specs.Semiring.{Operations, IsSemiring}
use Rattle.semiring_laws.specs.Reach.{reach_operations}
use Rattle.semiring_laws.specs.ReachLaws.{reach_laws}

-- the map says whether the call may return
abbrev pub guarded_operations : Operations Bool Bool
guarded_operations = record {
  zero = false;
  one = true;
  combine = ◌||◌;
  extend = ◌&&◌;
  after = ◌&&◌;
  plain = true;
  same = reach_operations.same;
  fits = λ w. true;
  fits_map = λ h. true;
  rank = reach_operations.rank;
  top_rank = 1;
}

pub guarded_laws : IsSemiring guarded_operations
guarded_laws = record {
  fits-zero = refl;
  fits-one = refl;
  fits-plain = refl;
  fits-combine = λ a b _ _. refl;
  fits-extend = λ a b _ _. refl;
  fits-after = λ h a _ _. refl;
  same_is_equal = reach_laws.same_is_equal;
  combine_comm = reach_laws.combine_comm;
  combine_assoc = reach_laws.combine_assoc;
  combine_same = reach_laws.combine_same;
  combine_zero = reach_laws.combine_zero;
  extend_assoc = reach_laws.extend_assoc;
  extend-one_left = reach_laws.extend-one_left;
  extend-one_right = reach_laws.extend-one_right;
  extend-zero_left = reach_laws.extend-zero_left;
  extend-zero_right = reach_laws.extend-zero_right;
  extend-combine_right = reach_laws.extend-combine_right;
  extend-combine_left = reach_laws.extend-combine_left;
  one_is_not_zero = reach_laws.one_is_not_zero;
  rank-zero = refl;
  rank_never_rises = reach_laws.rank_never_rises;
  rank_falls = reach_laws.rank_falls;
  after-zero = λ h _. reach_laws.extend-zero_right h refl;
  after-combine = λ h a b _ _ _. reach_laws.extend-combine_right h a b refl refl refl;
  after-plain = λ a _. refl;
}
