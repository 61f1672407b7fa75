use Rattle.std.proofs.Common.{◌+◌}
use Rattle.diagram_ops.proofs.uniting.+combine.Given as goal

abbrev pub decreases-combine : goal.decreases-combine
decreases-combine l = l.x + l.y
