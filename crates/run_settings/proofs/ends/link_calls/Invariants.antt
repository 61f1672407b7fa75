use Rattle.std.proofs.Common.{◌≤◌, length, take, drop, vec_len}
use Rattle.pushdown_rules.specs.RunValue.{product}
use Rattle.relation_weights.specs.Relations.{relation_operations}
use Rattle.run_settings.specs.private.Links.{Joins, AreJoined}
use Rattle.run_settings.specs.private.Moments.{newest_of, IsWide}
use Rattle.run_settings.specs.private.Walks.{ArePartial}
use Rattle.run_settings.proofs.ends.link_calls.Given as goal

abbrev pub invariant-calls : goal.invariant-calls
invariant-calls l = record {
  values : ArePartial (relation_operations l.n) l.machine.frames l.machine.accumulator (length l.values.items) l.values.items;
  short : length l.values.items ≤ length l.machine.frames;
  wide : IsWide l.n l.moment;
  joined : AreJoined (drop (length l.values.items) l.machine.frames) l.moment.start l.moment.saved;
  present : Joins (product (relation_operations l.n) (take (length l.values.items) l.machine.frames) l.machine.accumulator) (newest_of l.moment.start l.moment.saved) l.moment.present;
}

abbrev pub decreases-calls : goal.decreases-calls
decreases-calls l = vec_len l.values
