use Rattle.std.proofs.Common.{◌-◌}
use Rattle.relation_weights.specs.private.Frames.{IsFrame}
use Rattle.relation_weights.proofs.frames.frame.Given as goal

abbrev pub invariant-loop-k : goal.invariant-loop-k
invariant-loop-k l = IsFrame l.n l.freed (l.n - l.k) l.root l.nodes.items
