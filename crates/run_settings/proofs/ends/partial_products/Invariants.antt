use Rattle.std.proofs.Common.{◌+◌}
use Rattle.relation_weights.specs.Relations.{relation_operations}
use Rattle.run_settings.specs.private.Walks.{ArePartial}
use Rattle.run_settings.proofs.ends.partial_products.Given as goal

abbrev pub invariant-loop-k : goal.invariant-loop-k
invariant-loop-k l = ArePartial (relation_operations l.relations) l.machine.frames l.machine.accumulator (l.k + 1) l.values.items
