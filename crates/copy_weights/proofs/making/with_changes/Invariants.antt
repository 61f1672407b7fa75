use Rattle.std.proofs.Common.{◌≡◌, ◌-◌, length, drop}
use Rattle.copy_weights.specs.Forms.{changes_of}
use Rattle.copy_weights.proofs.making.with_changes.Given as goal

abbrev pub invariant-loop-k : goal.invariant-loop-k
invariant-loop-k l = l.list.items ≡ changes_of l.n (drop (length l.changes - l.k) l.changes)
