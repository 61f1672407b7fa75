use Rattle.std.proofs.Common.{◌≡◌, ◌<◌, ◌+◌, ◌*◌, ℕ, false, length}
use Rattle.std.specs.Prelude.{slice_index_or}
use Rattle.relation_picks.proofs.halves.one_side.Given as goal

abbrev pub invariant-loop-i : goal.invariant-loop-i
invariant-loop-i l = record {
  long : length l.list.items ≡ l.i;
  bits : (k : ℕ) → k < l.i → slice_index_or l.list.items k false ≡ slice_index_or l.bits (2 * k + l.side) false;
}
