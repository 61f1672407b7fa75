use Rattle.std.proofs.Common.{◌≡◌, length}
use Rattle.copy_weights.specs.Forms.{meet, meet_over, form}
use Rattle.copy_weights.proofs.meets.meet_over.Given as goal

abbrev pub invariant-loop-rest : goal.invariant-loop-rest
invariant-loop-rest l = meet (meet_over (length l.list) (form l.list) l.rest) l.made ≡ meet_over (length l.list) (form l.list) l.from

abbrev pub decreases-loop-rest : goal.decreases-loop-rest
decreases-loop-rest l = l.rest
