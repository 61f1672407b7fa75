use Rattle.std.proofs.Common.{◌+◌}
use Rattle.diagram_ops.proofs.kept_composing.+compose.Given as goal

abbrev pub decreases-compose : goal.decreases-compose
decreases-compose l = l.x + l.y
