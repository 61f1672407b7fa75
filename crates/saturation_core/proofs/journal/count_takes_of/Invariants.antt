use Rattle.std.proofs.Common.{◌≡◌, ◌+◌, ◌≤◌, drop}
use Rattle.saturation_core.specs.private.Records.{taken_by}
use Rattle.saturation_core.proofs.journal.count_takes_of.Given as goal

abbrev pub invariant-loop-mark : goal.invariant-loop-mark
invariant-loop-mark l = (l.count + taken_by l.seat (drop l.mark-index l.marks) ≡ taken_by l.seat l.marks) × (l.count ≤ l.mark-index)
