use Rattle.std.proofs.Common.{◌≤◌, length}
use Rattle.wpds_app.specs.private.Groups.{IsGroup}
use Rattle.wpds_app.proofs.together.gather.Given as goal

abbrev pub invariant-loop-k : goal.invariant-loop-k
invariant-loop-k g l = IsGroup l.document l.place l.group × (length l.group.ends.items ≤ l.k)
