use Rattle.std.proofs.Common.{◌+◌}
use Rattle.diagram_ops.proofs.applying.+apply.Given as goal

abbrev pub decreases-apply : goal.decreases-apply
decreases-apply l = l.x + l.y + l.z
