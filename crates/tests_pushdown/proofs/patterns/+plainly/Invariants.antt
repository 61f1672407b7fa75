use Rattle.std.proofs.Common.{◌+◌, ◌-◌, length}
use Rattle.tests_pushdown.proofs.patterns.+plainly.Given as goal

abbrev pub decreases-plainly : goal.decreases-plainly
decreases-plainly l = (length l.items.now - l.i) + (length l.stack.now - l.k)
