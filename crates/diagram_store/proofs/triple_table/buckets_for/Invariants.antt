use Rattle.std.proofs.Common.{◌-◌, ◌<◌}
use Rattle.diagram_store.proofs.triple_table.buckets_for.Given as goal

abbrev pub invariant-loop-buckets : goal.invariant-loop-buckets
invariant-loop-buckets l = 0 < l.buckets

abbrev pub decreases-loop-buckets : goal.decreases-loop-buckets
decreases-loop-buckets l = 4294967296 - l.buckets
