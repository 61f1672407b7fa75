use Rattle.std.proofs.Common.{◌≡◌, ◌+◌, ◌<◌, length}
use Rattle.diagram_ops.proofs.PickingLemmas.{Comes}
use Rattle.diagram_ops.proofs.picking.pick.Given as goal

abbrev pub invariant-loop-found : goal.invariant-loop-found
invariant-loop-found l = record { count : length l.bits.items ≡ l.count; within : l.at < length l.a.nodes + 2; some : 0 < l.at; comes : Comes l.a.nodes l.a.root l.at l.bits.items }

abbrev pub decreases-loop-found : goal.decreases-loop-found
decreases-loop-found l = l.at
