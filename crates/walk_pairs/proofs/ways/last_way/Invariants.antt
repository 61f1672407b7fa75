use Rattle.std.proofs.Common.{◌≡◌, ℕ, ◌<◌, ◌≤◌}
use Rattle.std.specs.Prelude.{IsTrue, Some, slice_get}
use Rattle.config_patterns.specs.declared.item.Item.{Item}
use Rattle.walk_pairs.proofs.ways.last_way.Given as goal

abbrev pub invariant-loop-k : goal.invariant-loop-k
invariant-loop-k l = (k : ℕ) → l.state ≤ k → k < l.k → (x : Item) → slice_get l.pattern.items k ≡ Some x → IsTrue x.star
