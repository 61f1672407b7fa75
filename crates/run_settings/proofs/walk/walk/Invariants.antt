use Rattle.std.proofs.Common.{◌≡◌}
use Rattle.run_settings.specs.private.Walks.{machine_at, ArePast}
use Rattle.run_settings.proofs.walk.walk.Given as goal

abbrev pub invariant-loop-k : goal.invariant-loop-k
invariant-loop-k l = record {
  machine : l.machine ≡ machine_at l.system l.run l.k-index;
  past : ArePast l.system l.run l.k-index l.past.items;
}
