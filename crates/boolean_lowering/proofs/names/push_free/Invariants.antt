use Rattle.std.proofs.Common.{◌≡◌, ◌+◌, ◌-◌, ◌++◌, replicate}
use Rattle.std.specs.List.{range_with_len}
use Rattle.boolean_programs.specs.declared.statement.Choice.TheVariants.{Star}
use Rattle.lowering_laws.specs.Weights.{targets_of, values_of}
use Rattle.boolean_lowering.proofs.names.push_free.Given as goal

abbrev pub invariant-loop-place : goal.invariant-loop-place
invariant-loop-place l = record {
  targets : targets_of l.initial.pairs.items ++ range_with_len l.first l.count ≡ targets_of l.pairs.items ++ range_with_len (l.first + l.place) (l.count - l.place);
  values : values_of l.initial.pairs.items ++ replicate l.count Star ≡ values_of l.pairs.items ++ replicate (l.count - l.place) Star;
}
