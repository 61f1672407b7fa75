use Rattle.std.proofs.Common.{◌≡◌, take}
use Rattle.copy_weights.specs.Forms.{set_of}
use Rattle.copy_weights.proofs.making.set_of.Given as goal

abbrev pub invariant-loop-k : goal.invariant-loop-k
invariant-loop-k l = l.set ≡ set_of l.n (take l.k-index l.vars)
