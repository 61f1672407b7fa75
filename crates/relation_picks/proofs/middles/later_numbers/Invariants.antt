use Rattle.std.proofs.Common.{◌≡◌, ◌<◌, ℕ, suc, length, slice_index}
use Rattle.relation_picks.proofs.middles.later_numbers.Given as goal

abbrev pub invariant-loop-k : goal.invariant-loop-k
invariant-loop-k l = record {
  long : length l.numbers.items ≡ l.k;
  numbers : (j : ℕ) → j < l.k → slice_index l.numbers.items j ≡ suc j;
}
